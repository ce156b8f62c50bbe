-- What the fields of a read query hold. Assumes nothing.
use Rattle.std.specs.Prelude.{◌≡◌, ℕ, Bool, List, [], ◌∷◌, reverse, length, take}
use Rattle.grammar.specs.Grammar.{ReadsQuery}
use Rattle.grammar.specs.Syntax.{Syntax}
use Rattle.letters.specs.Tokens.{Placed}
use Rattle.sense.specs.Drafted.{blank}
use Rattle.sense.specs.Meaning.{Reading, Tree, reading_of, laid, steps_of, ends_from}
use Rattle.sense.specs.Meaning.Tree.{leaf, and, or}
use Rattle.sense.specs.Sense.{Limits}
use Rattle.sense.specs.declared.clauses.Step.{Step}
use Rattle.sense.specs.declared.clauses.Step.TheVariants.{Test, And, Or}
use Rattle.sense.specs.declared.part.Part.{Part}

-- the last two trees, joined
abbrev pub top_joined : (Tree → Tree → Tree) → List Tree → List Tree
top_joined join [] = []
top_joined join (t ∷ []) = t ∷ []
top_joined join (b ∷ a ∷ ts) = join a b ∷ ts

-- the trees that steps in postfix order build, the last first
abbrev pub built : List Step → List Tree → List Tree
built [] ts = ts
built (Test t ∷ ss) ts = built ss (leaf t ∷ ts)
built (And ∷ ss) ts = built ss (top_joined and ts)
built (Or ∷ ss) ts = built ss (top_joined or ts)

abbrev pub trees : List Step → List Tree
trees ss = reverse (built ss [])

-- what the fields mean
abbrev pub decoded : List Part → ℕ → Bool → List Step → ℕ → ℕ → Reading
decoded parts parts_len key steps steps_len window = record { parts = take parts_len parts; key = key; clauses = trees (take steps_len steps); window = window }

-- a piece of a meaning is in its room, and the rest of the room is always the same
abbrev pub Holds : {X : Type 0} → ℕ → X → List X → ℕ → List X → Type 0
Holds room filler xs len piece = (xs ≡ laid room filler piece) × (len ≡ length piece)

abbrev pub HoldsParts : List Part → ℕ → Reading → Type 0
HoldsParts parts len r = Holds 12 blank parts len r.parts

abbrev pub HoldsSteps : List Step → ℕ → Reading → Type 0
HoldsSteps steps len r = Holds 47 And steps len (steps_of r.clauses)

abbrev pub HoldsEnds : List ℕ → ℕ → Reading → Type 0
HoldsEnds ends len r = Holds 24 0 ends len (ends_from 0 r.clauses)

-- it is the meaning of some text that the grammar admits, with conditions nested at most eight deep, and that keeps the limits
abbrev pub IsRead : Reading → Type 0
IsRead r = (tokens : List Placed) × (q : Syntax) × ReadsQuery 8 tokens q × Limits q × (r ≡ reading_of q)
