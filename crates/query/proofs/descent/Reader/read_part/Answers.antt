use Rattle.std.proofs.Common.{sym, rules}
use Rattle.grammar.proofs.Steps.{if_first_hit, if_first_miss, place_at, taken, stayed}
use Rattle.query.proofs.descent.Reader.read_part.Goals as goal

pub returns-then-negative : goal.returns-then-negative
returns-then-negative c =
    let not = taken _ _ _ _ c.in_ok-place.ensures.1 c.if-negative.true in
    let place = place_at _ _ c.in_ok-place.ensures.0 in
    record {
      value = rw (if_first_hit _ _ _ _ _ not.value, place, sym not.moved.end, sym c.begin_part.ensures) c.read_negative.ensures.value;
      onward = search rules;
    }

pub returns : goal.returns
returns c =
    let not = stayed _ _ _ _ c.in_ok-place.ensures.1 c.if-negative.false in
    let place = place_at _ _ c.in_ok-place.ensures.0 in
    record { value = rw (if_first_miss _ _ _ _ not.value, place) (search rules); onward = search rules }
