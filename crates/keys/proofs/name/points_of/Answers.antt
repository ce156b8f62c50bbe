use Rattle.std.proofs.Common.{ap, sym, ◌∙◌, arith, length}
use Rattle.std.proofs.lemmas.Bool.Decides.{nat_tests}
use Rattle.std.proofs.lemmas.Iterator.{YieldsList-from_chars}
use Rattle.std.proofs.lemmas.Iterator.Consumers.{YieldsList-turn, YieldsList-end}
use Rattle.std.proofs.lemmas.List.{map-id}
use Rattle.keys.proofs.name.points_of.Goals as goal

pub returns-then-is_full : goal.returns-then-is_full
returns-then-is_full c =
    let turn = YieldsList-turn (YieldsList-from_chars c.args.text.now c.utf8.text cc) c.loop-point.yielded _ c.loop-point.yielded_by _ _ c.in-Some.point c.in-Some.is c.next.ensures.steps in
    grind (arith, nat_tests, ap length c.loop-point.invariant.0, turn.0)

pub returns : goal.returns
returns c =
    let end = YieldsList-end (YieldsList-from_chars c.args.text.now c.utf8.text cc) c.loop-point.yielded _ c.loop-point.yielded_by _ _ c.in-None.is c.next.ensures.steps in
    c.loop-point.invariant.0 ∙ sym (map-id _) ∙ end.0
