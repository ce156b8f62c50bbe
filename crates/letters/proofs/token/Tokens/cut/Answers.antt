use Rattle.std.proofs.Common.{◌-◌, length, ap, ◌∙◌}
use Rattle.letters.proofs.Scanning.{cut_is, no_cut}
use Rattle.letters.proofs.token.Tokens.cut.Goals as goal
use Rattle.letters.specs.Tokens.{past_blanks}

pub returns-in_err-token : goal.returns-in_err-token
returns-in_err-token c =
    rw c.from_residual.ensures (no_cut c.args.self.now _ c.in_err-token.ensures (c.past_blanks-text.ensures ∙ ap past_blanks c.rest.ensures))

pub returns : goal.returns
returns c =
    let text = c.past_blanks-text.result.now in
    cut_is c.args.self.now text _ c.in_ok-token.rest _ (c.saturating_sub-place.ensures ∙ ap (λ n. n - length text) c.end-end.ensures)
    (c.past_blanks-text.ensures ∙ ap past_blanks c.rest.ensures) c.in_ok-token.ensures c.of_rest.ensures.rest (c.of_rest.ensures.end ∙ c.end-end.ensures)
