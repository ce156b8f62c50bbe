use Rattle.std.proofs.Common.{◌≡◌, List, ◌++◌, map, Ok, Err, string_bytes, ap, ◌∙◌, rules}
use Rattle.events.proofs.Logs.{whole_log}
use Rattle.events.specs.Log.{Told, told, unread, log_of}
use Rattle.events.specs.Record.{fields}
use Rattle.showlog.proofs.Described.{one_more}
use Rattle.showlog.proofs.text.describe.Goals as goal
use Rattle.showlog.specs.Lines.{more, log_text, records_after}

pub returns : goal.returns
returns c =
    let from : unread c.into_iter-item-iterator.result ≡ c.args.log.now = ap unread c.into_iter-item-iterator.ensures.into_iter_gives ∙ c.new-item-items.ensures in
    let read : map told c.loop-item.yielded ≡ log_of c.args.log.now =
    whole_log.given c.into_iter-item-iterator.result c.loop-item.yielded (c.next.new.self, (c.loop-item.item-iterator, c.loop-item.yielded_by, c.in-None.ensures.steps)) ∙ ap log_of from in (
      c.loop-item.invariant.0 ∙ ap (λ (items : List Told). string_bytes c.args.text.now ++ log_text c.args.before items) read,
      c.loop-item.invariant.1 ∙ ap (records_after c.args.before) read,
    )

pub loop-item-preserved : goal.loop-item-preserved
loop-item-preserved c =
    one_more _ _ _ _ c.loop-item.records _ c.loop-item.yielded c.in-Some.item (Err c.in-Err.refusal) (ap told c.in-Err.is) c.loop-item.invariant (search rules) c.in_ok-writeln-in-Err.ensures.bytes

pub loop-item-preserved-in-Ok : goal.loop-item-preserved-in-Ok
loop-item-preserved-in-Ok c =
    let number : c.saturating_add-number.result ≡ more c.loop-item.records = search rules in
    let next = one_more _ _ _ _ c.loop-item.records _ c.loop-item.yielded c.in-Some.item (Ok (fields c.in-Ok.event)) (ap told c.in-Ok.is) c.loop-item.invariant number c.in_ok-writeln-in-Ok.ensures.bytes in
    (next.0, number ∙ next.1)
