-- Conditions, level by level. Assumes nothing.
use Rattle.std.proofs.Common.{◌≡◌, ℕ, zero, suc, List, refl}
use Rattle.grammar.specs.Known.{is_word}
use Rattle.letters.specs.Tokens.{Placed}
use Rattle.letters.specs.declared.word.Class.TheVariants as class
use Rattle.query.specs.Descent.{Run, row, joining, either_run, unit_run, all_run}
use Rattle.sense.specs.declared.clauses.Step.TheVariants.{And, Or}
use Rattle.sense.specs.declared.draft.Draft.{Draft}

-- what follows an AND, and an OR
abbrev pub and_next : ℕ → ℕ → Run
and_next n end = joining And (unit_run n end)

abbrev pub or_next : ℕ → ℕ → Run
or_next n end = joining Or (all_run n end)

pub either_is : (n end : ℕ) (d : Draft) (ts : List Placed) → either_run n end d ts ≡ row (is_word class.Or) (all_run n end) (or_next n end) d ts
either_is zero end d ts = refl
either_is (suc n) end d ts = refl
