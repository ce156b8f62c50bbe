use Rattle.std.proofs.Common.{◌+◌, ◌<◌, length, replicate, ap, ◌∙◌, arith}
use Rattle.std.proofs.lemmas.List.{length-set, drop-set-lt}
use Rattle.std.proofs.lemmas.Grind.{drop_more_same}
use Rattle.keys.specs.Rooms.{length_held}
use Rattle.keys.proofs.points.Points.push.Goals as goal

pub invariant_of-self : goal.invariant_of-self
invariant_of-self g c =
    let i = c.self.inside in
    let inv = c.self.invariant in
    let less : i.len < g.row.N = omega (arith, length_held i.room g.row.N i.len inv.0 inv.1, ap length c.self.view_is, c.requires) in (
      length-set i.room i.len c.args.point ∙ inv.0,
      omega arith,
      drop-set-lt (i.len + 1) i.room i.len c.args.point (omega arith) ∙ drop_more_same i.room (replicate g.row.N 0) i.len inv.2,
    )
