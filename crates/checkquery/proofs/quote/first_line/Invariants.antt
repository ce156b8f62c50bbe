use Rattle.std.proofs.Common.{◌≡◌, ◌++◌, take, drop}
use Rattle.checkquery.proofs.quote.first_line.Given as goal
use Rattle.checkquery.specs.Quote.{first_line}

-- the bytes so far all stand before it
abbrev pub invariant-loop-index : goal.invariant-loop-index
invariant-loop-index l = first_line l.bytes ≡ take l.index l.bytes ++ first_line (drop l.index l.bytes)
