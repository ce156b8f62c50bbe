use Rattle.std.proofs.Common.{sym, rules}
use Rattle.grammar.proofs.Steps.{if_first_hit, taken}
use Rattle.query.proofs.descent.Reader.read_clause.Goals as goal

pub returns-in_err-expect : goal.returns-in_err-expect
returns-in_err-expect c =
    let square = taken _ _ _ _ c.in_ok-place.ensures.1 c.if-asks_key.true in
    record { value = rw (if_first_hit _ _ _ _ _ square.value, sym square.moved.end) (search rules); onward = search rules }

pub returns-in_err-expect-2 : goal.returns-in_err-expect-2
returns-in_err-expect-2 c =
    let square = taken _ _ _ _ c.in_ok-place.ensures.1 c.if-asks_key.true in
    record { value = rw (if_first_hit _ _ _ _ _ square.value, sym square.moved.end) (search rules); onward = search rules }

pub returns-then-asks_key : goal.returns-then-asks_key
returns-then-asks_key c =
    let square = taken _ _ _ _ c.in_ok-place.ensures.1 c.if-asks_key.true in
    record { value = rw (if_first_hit _ _ _ _ _ square.value, sym square.moved.end) (search rules); onward = search rules }
