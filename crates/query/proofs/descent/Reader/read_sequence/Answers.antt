use Rattle.std.proofs.Common.{◌∙◌, rules}
use Rattle.query.proofs.Rows.{repeated}
use Rattle.query.proofs.descent.Reader.read_sequence.Goals as goal
use Rattle.query.specs.Descent.{part_run}

pub returns-in_err-row : goal.returns-in_err-row
returns-in_err-row c =
    let event = c.in_ok-expect.ensures.onward.end in
    let seq = c.in_ok-expect-2.ensures.onward.end ∙ event in
    let word = simp event at c.in_ok-expect-2.ensures.value in
    let open_ = simp seq at c.in_ok-expect-3.ensures.value in
    let parts = repeated part_run c.row.ensures.value (λ s r t k. k.value) (c.in_ok-expect-3.ensures.onward.end ∙ seq) in
    search rules

pub returns-in_err-expect-4 : goal.returns-in_err-expect-4
returns-in_err-expect-4 c =
    let event = c.in_ok-expect.ensures.onward.end in
    let seq = c.in_ok-expect-2.ensures.onward.end ∙ event in
    let text = c.in_ok-expect-3.ensures.onward.end ∙ seq in
    let word = simp event at c.in_ok-expect-2.ensures.value in
    let open_ = simp seq at c.in_ok-expect-3.ensures.value in
    let parts = repeated part_run c.row.ensures.value (λ s r t k. k.value) text in
    let close = simp (c.in_ok-row.ensures.onward.end, text) at c.in_err-expect-4.ensures.value in
    search rules

pub returns : goal.returns
returns c =
    let event = c.in_ok-expect.ensures.onward.end in
    let seq = c.in_ok-expect-2.ensures.onward.end ∙ event in
    let text = c.in_ok-expect-3.ensures.onward.end ∙ seq in
    let word = simp event at c.in_ok-expect-2.ensures.value in
    let open_ = simp seq at c.in_ok-expect-3.ensures.value in
    let parts = repeated part_run c.row.ensures.value (λ s r t k. k.value) text in
    let close = simp (c.in_ok-row.ensures.onward.end, text) at c.in_ok-expect-4.ensures.value in
    search rules
