use Rattle.std.proofs.Common.{◌≡◌, ◌++◌, take}
use Rattle.checkquery.proofs.quote.push_padding.Given as goal
use Rattle.checkquery.specs.Quote.{padding}

-- the bytes so far have theirs
abbrev pub invariant-loop-byte : goal.invariant-loop-byte
invariant-loop-byte l = l.out.items ≡ l.initial.out.items ++ padding (take l.byte-index l.before)
