use Rattle.std.proofs.Common.{rules}
use Rattle.std.proofs.lemmas.Iterator.{YieldsList-from_slice}
use Rattle.std.proofs.lemmas.Iterator.Search.{all_from_yields_List}
use Rattle.keys.specs.Name.{allowed}
use Rattle.keys.proofs.name.are_allowed.Goals as goal
use borrow.Author.Tests.{tests}

pub returns : goal.returns
returns c = all_from_yields_List allowed _ _ _ c.all.ensures.ran (YieldsList-from_slice c.args.points.now c.iter.ensures.rest) (λ x b q k. search (rules, tests))
