use Rattle.std.proofs.Common.{refl}
use Rattle.keys.specs.Letters.{table}
use Rattle.keys.proofs.name.acute_e_is_one_name.Goals as goal

pub returns : goal.returns
unfolding table
returns c = (refl, refl, refl, refl, refl)
