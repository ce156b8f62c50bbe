use Rattle.std.proofs.Common.{◌≡◌, ◌≤◌, length}
use Rattle.keys.proofs.name.points_of.Given as goal

-- the characters so far are kept
abbrev pub invariant-loop-point : goal.invariant-loop-point
invariant-loop-point l = (l.points ≡ l.yielded) × (length l.yielded ≤ 24)
