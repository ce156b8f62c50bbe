use Rattle.std.proofs.Common.{rules, ◌∙◌, sym}
use Rattle.keys.proofs.Table.{rises_ascending, searched}
use Rattle.std.proofs.lemmas.List.Sorted.{answers_always}
use Rattle.std.proofs.lemmas.Option.{MatchOption-at_some, MatchOption-at_none}
use Rattle.keys.proofs.letters.search.Goals as goal

pub returns-in_err-at : goal.returns-in_err-at
returns-in_err-at c =
    let asked = c.binary_search_by_key.ensures in
    let by_letter = asked.position (λ l. l.composed) (answers_always _ _ _ (λ f a r g called. search rules)) in
    c.from_residual.ensures ∙ sym (MatchOption-at_none _ _ c.in_err-at.was (searched c.args.letters.now (rises_ascending _ c.requires) c.args.point _ asked.bound by_letter _ c.ok.ensures.value))

pub returns : goal.returns
returns c =
    let asked = c.binary_search_by_key.ensures in
    let by_letter = asked.position (λ l. l.composed) (answers_always _ _ _ (λ f a r g called. search rules)) in
    sym (MatchOption-at_some _ _ _ c.in_ok-at.was (searched c.args.letters.now (rises_ascending _ c.requires) c.args.point _ asked.bound by_letter _ c.ok.ensures.value) _)
