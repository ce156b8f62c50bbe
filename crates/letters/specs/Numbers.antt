-- The value of digits. Assumes nothing.
use Rattle.std.specs.Prelude.{ℕ, ◌+◌, ◌-◌, ◌*◌, cond, List, Some, None, fold, Option, nat_le}

-- digits behind a number whose value is a
abbrev pub value_from : ℕ → List ℕ → ℕ
value_from a digits = fold (λ v d. v * 10 + (d - 48)) a digits

abbrev pub number_value : List ℕ → Option ℕ
number_value digits = cond (nat_le (value_from 0 digits) 2147483647) (Some (value_from 0 digits)) None
