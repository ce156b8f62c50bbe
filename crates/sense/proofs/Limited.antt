-- A text keeps the limits exactly where it has no fault. Assumes nothing.
use Rattle.std.proofs.lemmas.Bool.Decides.{nat_tests}
use Rattle.std.proofs.Common.{◌≡◌, ◌≤◌, not, false, ◌&&◌, leb, [], length, arith}
use Rattle.grammar.specs.Syntax.{Syntax}
use Rattle.sense.proofs.Nothing.{nils, nils_from, none_where, where_none}
use Rattle.sense.proofs.Shapes.{some_positive, shaped, shaped_clean, last_clean}
use Rattle.sense.proofs.Uses.{used, used_clean}
use Rattle.sense.specs.Sense.{Limits, parts_faults, last_faults, clauses_faults, window_faults, sense_faults}
use Rattle.sense.specs.declared.fault.SenseFault.TheVariants.{Window}

pub limits_kept : (q : Syntax) → 1 ≤ length q.parts → sense_faults q ≡ [] → Limits q
limits_kept q some e =
    let a = nils (parts_faults [] q.parts) _ e in
    let b = nils (last_faults q.parts) _ a.1 in
    let c = nils (clauses_faults q.parts 0 q.clauses) (window_faults q) b.1 in
    let s = shaped q.parts a.0 b.0 in
    let u = used q.parts 0 q.clauses c.0 in
    let w = none_where _ (Window q.window_place) c.1 in
    record {
      kinds = s.known;
      once = s.once;
      some = some_positive q.parts s.followed some;
      few = s.few;
      followed = s.followed;
      bound = u.bound;
      tests = omega (arith, u.tests (omega arith));
      single = u.single;
      least_window = grind (arith, nat_tests, w);
      largest_window = grind (arith, nat_tests, w);
    }

pub limits_clean : (q : Syntax) → Limits q → sense_faults q ≡ []
limits_clean q l =
    let window : not (leb 1 q.window && leb q.window 864000) ≡ false = grind (arith, nat_tests) in
    nils_from (parts_faults [] q.parts) _ (shaped_clean q.parts (record { known = l.kinds; once = l.once; few = l.few; followed = l.followed }))
    (nils_from (last_faults q.parts) _ (last_clean q.parts l.followed)
    (nils_from (clauses_faults q.parts 0 q.clauses) _ (used_clean q.parts 0 q.clauses l.bound (omega (arith, l.tests)) l.single)
    (where_none _ (Window q.window_place) window)))
