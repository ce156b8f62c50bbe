use Rattle.showlog.proofs.Described.{piecewise}
use Rattle.showlog.proofs.text.pieces_make_the_whole.Goals as goal

pub returns : goal.returns
returns c = piecewise
