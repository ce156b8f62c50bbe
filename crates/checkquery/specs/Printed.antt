-- The lines that are printed. Assumes nothing.
use Rattle.std.specs.Prelude.{ℕ, true, false, cond, List, [], ◌∷◌, ◌++◌, length, codes, decimal}
use Rattle.query.specs.Contents.{parts_with, tests_in}
use Rattle.query.specs.Faults.{number_of, layer_of, layer_word, place_of}
use Rattle.query.specs.declared.fault.Fault.{Fault}
use Rattle.refusals.specs.Lines.{spaced}
use Rattle.sense.specs.Meaning.{Reading}

-- fault NUMBER LAYER PLACE
abbrev pub fault_line : Fault → List ℕ
fault_line f = spaced (codes "fault") (decimal (number_of f) ∷ layer_word (layer_of f) ∷ decimal (place_of f) ∷ [])

-- POSITIVES NEGATIVES
abbrev pub part_counts : Reading → List ℕ
part_counts r = spaced (decimal (parts_with false r.parts)) (decimal (parts_with true r.parts) ∷ [])

-- ok POSITIVES NEGATIVES CLAUSES TESTS WINDOW, and the word key where the query asks for it
abbrev pub summary_line : Reading → List ℕ
summary_line r =
    spaced (codes "ok") (part_counts r ∷ decimal (length r.clauses) ∷ decimal (tests_in r.clauses) ∷ decimal r.window ∷ [])
    ++ cond r.key (codes " key") []
