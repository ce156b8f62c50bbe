use Rattle.grammar.proofs.expected.expect_known.Goals as goal
use Rattle.grammar.specs.Shown.Known.{knows, wrong, ends}
use Rattle.std.proofs.lemmas.Result.{err_from_is_err_and}

pub returns-in_err-token-clause-value : goal.returns-in_err-token-clause-value
returns-in_err-token-clause-value g c =
    let p = err_from_is_err_and c.from_residual.result c.from_residual.ensures.1 in
    rw (p.1, p.2, c.in_err-token.ensures.value.1) (ends c.in_err-token.ensures.value.0)

pub returns-in-Some-clause-value : goal.returns-in-Some-clause-value
returns-in-Some-clause-value g c = knows _ _ c.in_ok-token.ensures.value c.in-Some.ensures

pub returns-clause-value : goal.returns-clause-value
returns-clause-value g c = wrong _ _ c.in_ok-token.ensures.value c.in-None.ensures
