use Rattle.std.proofs.Common.{◌≡◌, ◌≤◌, take, drop}
use Rattle.checkquery.proofs.quote.last_line.Given as goal
use Rattle.checkquery.specs.Quote.{last_line}

-- the line in which the bytes so far end
abbrev pub invariant-loop-index : goal.invariant-loop-index
invariant-loop-index l = (l.begin ≤ l.index) × (last_line (take l.index l.bytes) ≡ drop l.begin (take l.index l.bytes))
