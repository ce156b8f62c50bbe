use Rattle.keys.proofs.Spelt.{one_name}
use Rattle.keys.proofs.name.one_name_is_respelled.Goals as goal

pub returns : goal.returns
returns c = one_name
