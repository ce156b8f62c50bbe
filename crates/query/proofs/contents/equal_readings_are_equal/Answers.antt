use Rattle.query.proofs.Contained.{one_value}
use Rattle.query.proofs.contents.equal_readings_are_equal.Goals as goal

pub returns : goal.returns
returns c = one_value
