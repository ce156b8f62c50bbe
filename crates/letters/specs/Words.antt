-- What a word stands for. Assumes nothing.
use Rattle.std.specs.Prelude.{ℕ, ◌+◌, ◌-◌, Bool, true, cond, ◌&&◌, List, [], ◌∷◌, length, codes, ◌==◌, nat_le, slice_index}
use Rattle.letters.specs.declared.word.Class.{Class}
use Rattle.letters.specs.declared.word.Class.TheVariants.{Event, Seq, Where, Within, And, Or, Any, Key, Reading, Variable, Kind}

-- w has the bytes of k from place i on
abbrev pub has_from : List ℕ → ℕ → List ℕ → Bool
has_from w i [] = true
has_from w i (k ∷ ks) = slice_index w i == k && has_from w (i + 1) ks

-- w is the word k
abbrev pub spells : List ℕ → List ℕ → Bool
spells w k = length w == length k && has_from w 0 k

-- seven keywords, `key`, r0 to r3, single small letters, and all the others
abbrev pub class_of : List ℕ → Class
class_of w =
    cond (spells w (codes "EVENT")) Event
    (cond (spells w (codes "SEQ")) Seq
    (cond (spells w (codes "WHERE")) Where
    (cond (spells w (codes "WITHIN")) Within
    (cond (spells w (codes "AND")) And
    (cond (spells w (codes "OR")) Or
    (cond (spells w (codes "ANY")) Any
    (cond (spells w (codes "key")) Key
    (cond (length w == 2 && (slice_index w 0 == 114 && (nat_le 48 (slice_index w 1) && nat_le (slice_index w 1) 51))) (Reading (slice_index w 1 - 48))
    (cond (length w == 1 && (nat_le 97 (slice_index w 0) && nat_le (slice_index w 0) 122)) (Variable (slice_index w 0)) Kind)))))))))
