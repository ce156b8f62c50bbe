use Rattle.keys.proofs.Table.{table_rises, table_closed}
use Rattle.keys.proofs.letters.table_is_sound.Goals as goal

pub returns : goal.returns
returns c = (table_rises, table_closed)
