use Rattle.std.proofs.Common.{sym, rules}
use Rattle.grammar.proofs.Steps.{if_first_hit}
use Rattle.query.proofs.Rows.{repeated}
use Rattle.query.proofs.descent.Reader.read_kinds.Goals as goal
use Rattle.query.specs.Descent.{kind_run}

pub returns-in_err-expect : goal.returns-in_err-expect
returns-in_err-expect c =
    let any = c.if-not-skip.ensures in
    record { value = rw (if_first_hit _ _ _ _ _ any.value, sym any.moved.end) (search rules); onward = search rules }

pub returns-in_err-row : goal.returns-in_err-row
returns-in_err-row c =
    let any = c.if-not-skip.ensures in
    let kinds = repeated kind_run c.row.ensures.value (λ s r t k. k.value) c.in_ok-expect.ensures.onward.end in
    record { value = rw (if_first_hit _ _ _ _ _ any.value, sym any.moved.end) (search rules); onward = search rules }

pub returns-in_err-expect-2 : goal.returns-in_err-expect-2
returns-in_err-expect-2 c =
    let any = c.if-not-skip.ensures in
    let kinds = repeated kind_run c.row.ensures.value (λ s r t k. k.value) c.in_ok-expect.ensures.onward.end in
    record { value = rw (if_first_hit _ _ _ _ _ any.value, sym any.moved.end) (search rules); onward = search rules }

pub returns : goal.returns
returns c =
    let any = c.if-not-skip.ensures in
    let kinds = repeated kind_run c.row.ensures.value (λ s r t k. k.value) c.in_ok-expect.ensures.onward.end in
    record { value = rw (if_first_hit _ _ _ _ _ any.value, sym any.moved.end) (search rules); onward = search rules }
