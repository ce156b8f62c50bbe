use Rattle.std.proofs.Common.{count_by, ap, ◌∙◌}
use Rattle.query.proofs.Contained.{steps_tests}
use Rattle.query.proofs.query.Query.count_tests.Goals as goal
use Rattle.query.specs.Contents.{is_test}

pub returns : goal.returns
returns c = c.tests_among.ensures ∙ ap (count_by is_test) c.steps.ensures ∙ steps_tests _
