use Rattle.std.proofs.Common.{◌≡◌, ◌++◌, ◌*◌, ◌≤◌, drop, length}
use Rattle.keys.specs.Name.{identity_of}
use Rattle.keys.proofs.name.decompose.Given as goal

-- what is taken apart and what is left make the identity
abbrev pub invariant-loop-point : goal.invariant-loop-point
invariant-loop-point l = (l.identity ++ identity_of (drop l.point-index l.points) ≡ identity_of l.points) × (length l.identity ≤ 2 * l.point-index)
