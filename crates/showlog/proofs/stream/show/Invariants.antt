use Rattle.std.proofs.Common.{◌≡◌, length}
use Rattle.showlog.proofs.stream.show.Given as goal

abbrev pub invariant-loop : goal.invariant-loop
invariant-loop g l = length l.chunk ≡ length l.initial.chunk
