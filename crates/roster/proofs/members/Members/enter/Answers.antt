use Rattle.std.proofs.Common.{map, refl, sym, ap, ◌∙◌}
use Rattle.roster.specs.Members.{member_at}
use Rattle.roster.proofs.Standing.{sought, line_more, length_more, stands_again, stands_more, stands_still}
use Rattle.roster.proofs.members.Members.enter.Goals as goal

pub returns-in-Some : goal.returns-in-Some
returns-in-Some c entries stands =
    stands_again _ _ c.args.line entries stands _ (sought c.self.inside.first_lines c.self.view_is c.identity.ensures c.in-Some.ensures.value)

pub returns-in_err-identity : goal.returns-in_err-identity
returns-in_err-identity c entries stands =
    stands_still _ _ c.args.line entries stands _ _ (sought c.self.inside.first_lines c.self.view_is c.identity.ensures c.in_default.ensures.value) refl c.from_residual.ensures.0

pub returns-in_err-insert : goal.returns-in_err-insert
returns-in_err-insert c entries stands =
    let same = ap (map member_at) c.in_err-insert.ensures.err ∙ c.self.view_is in
    stands_still _ _ c.args.line entries stands _ _ (sought c.self.inside.first_lines c.self.view_is c.identity.ensures c.in_default.ensures.value) (sym same) c.from_residual-in_err-insert.ensures.0

pub returns : goal.returns
returns c entries stands =
    let m = c.self.inside.first_lines in
    let k = c.in_ok-identity.identity in
    let copied = c.in_ok-identity.ensures.items ∙ c.identity-2.ensures in
    let missing = sought m refl c.identity.ensures c.in_default.ensures.value in
    stands_more _ _ c.args.line entries (rw c.self.view_is stands) _ missing
    (line_more m c.insert.new.self k copied missing c.in_ok-insert.ensures.updates)
    (length_more m c.insert.new.self k copied missing c.in_ok-insert.ensures.old c.in_ok-insert.ensures.len)
