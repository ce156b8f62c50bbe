use Rattle.std.proofs.Common.{rules}
use Rattle.grammar.proofs.Steps.{first_at}
use Rattle.grammar.proofs.tested.read_whole.Goals as goal

pub returns : goal.returns
returns c =
    let left = c.in_ok-left.ensures.onward.end in
    let place = first_at _ _ c.in_ok-place.ensures in
    let compared = simp left at c.in_ok-comparison.ensures.value in
    let right = simp (c.in_ok-comparison.ensures.onward.end, left) at c.in_ok-right.ensures.value in
    record { value = rw place (search rules); onward = search rules }
