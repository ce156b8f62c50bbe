-- Faults of a query text, by number, layer, place and word. Assumes nothing.
use Rattle.std.specs.Prelude.{ℕ, cond, List, codes, ◌==◌}
use Rattle.grammar.specs.Faults as grammar
use Rattle.letters.specs.Faults as letters
use Rattle.query.specs.declared.fault.Fault.{Fault}
use Rattle.query.specs.declared.fault.Fault.TheVariants.{Letters, Grammar, Sense}
use Rattle.query.specs.declared.fault.Layer.{Layer}
use Rattle.query.specs.declared.fault.Layer.TheVariants as layer
use Rattle.sense.specs.Faults as sense

abbrev pub number_of : Fault → ℕ
number_of (Letters f) = letters.number_of f
number_of (Grammar f) = grammar.number_of f
number_of (Sense f) = sense.number_of f

abbrev pub layer_of : Fault → Layer
layer_of (Letters f) = layer.Letters
layer_of (Grammar f) = layer.Grammar
layer_of (Sense f) = layer.Sense

abbrev pub place_of : Fault → ℕ
place_of (Letters f) = letters.place_of f
place_of (Grammar f) = grammar.place_of f
place_of (Sense f) = sense.place_of f

abbrev pub layer_word : Layer → List ℕ
layer_word layer.Letters = codes "letters"
layer_word layer.Grammar = codes "grammar"
layer_word layer.Sense = codes "sense"

-- the word of each fault, by its number
abbrev pub numbered : ℕ → List ℕ
numbered n =
    cond (n == 1) (codes "stray byte") (cond (n == 2) (codes "long number") (cond (n == 3) (codes "long text")
    (cond (n == 4) (codes "wrong token") (cond (n == 5) (codes "too deep")
    (cond (n == 6) (codes "unknown kind") (cond (n == 7) (codes "doubled") (cond (n == 8) (codes "unbound") (cond (n == 9) (codes "shape")
    (cond (n == 10) (codes "many tests") (cond (n == 11) (codes "two negatives") (codes "window")))))))))))

abbrev pub word_of : Fault → List ℕ
word_of f = numbered (number_of f)
