use Rattle.std.proofs.Common.{rules}
use Rattle.grammar.proofs.Steps.{if_first_hit}
use Rattle.query.proofs.Rows.{repeated}
use Rattle.query.proofs.descent.Reader.read_where.Goals as goal
use Rattle.query.specs.Descent.{clause_run}

pub returns-then-skip-clause-value : goal.returns-then-skip-clause-value
returns-then-skip-clause-value c =
    let found = c.if-skip.ensures in
    let clauses = repeated (clause_run c.args.depth) c.row.ensures.value (λ s r t k. search rules) found.moved.end in
    rw (if_first_hit _ _ _ _ _ found.value) clauses
