use Rattle.std.proofs.Common.{◌≡◌, ◌≤◌, drop}
use Rattle.letters.proofs.number.number_value.Given as goal
use Rattle.letters.specs.Numbers.{value_from}

-- the digits that are left make the value
abbrev pub invariant-loop-d : goal.invariant-loop-d
invariant-loop-d l = (l.value ≤ 2147483647) × (value_from l.value (drop l.d-index l.digits) ≡ value_from 0 l.digits)
