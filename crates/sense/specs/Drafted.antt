-- What each piece of a text does to a draft. Assumes nothing.
use Rattle.std.specs.Prelude.{ℕ, ◌+◌, Bool, true, false, cond, not, ◌&&◌, List, replicate, is_some, Some, None, Option, ◌==◌, nat_le, nat_lt, slice_index_or, slice_set}
use Rattle.events.specs.Kind.{kind_named}
use Rattle.grammar.specs.declared.test.Item.{Item}
use Rattle.grammar.specs.declared.test.Item.TheVariants as item
use Rattle.grammar.specs.declared.test.Name.{Name}
use Rattle.grammar.specs.declared.test.Side.{Side}
use Rattle.grammar.specs.declared.test.Side.TheVariants.{Alone, Sum, Difference}
use Rattle.grammar.specs.declared.test.Test.{Test}
use Rattle.sense.specs.Faults.{noted}
use Rattle.sense.specs.declared.clauses.Clauses.{Clauses}
use Rattle.sense.specs.declared.clauses.Negatives.{Negatives}
use Rattle.sense.specs.declared.clauses.Negatives.TheVariants as negatives
use Rattle.sense.specs.declared.clauses.Step.{Step}
use Rattle.sense.specs.declared.clauses.Step.TheVariants as step
use Rattle.sense.specs.declared.draft.Draft.{Draft}
use Rattle.sense.specs.declared.fault.SenseFault.{SenseFault}
use Rattle.sense.specs.declared.fault.SenseFault.TheVariants.{UnknownKind, Doubled, Unbound, Shape, ManyTests, TwoNegatives, Window}
use Rattle.sense.specs.declared.part.Part.{Part}
use Rattle.sense.specs.declared.parts.Binding.{Binding}
use Rattle.sense.specs.declared.parts.LastPart.{LastPart}
use Rattle.sense.specs.declared.parts.LastPart.TheVariants.{Positive, Negative}
use Rattle.sense.specs.declared.parts.Parts.{Parts}

-- no kinds
abbrev pub no_kinds : List Bool
no_kinds = replicate 16 false

abbrev pub blank : Part
blank = record { negative = false; kinds = no_kinds; variable = 0 }

-- before any part it is as if a positive one stood at 0
abbrev pub no_parts : Parts
no_parts = record { kept = replicate 12 blank; len = 0; bound = replicate 256 None; positives = 0; kinds = no_kinds; last = Positive 0 }

abbrev pub no_clauses : Clauses
no_clauses = record { key = false; steps = replicate 47 step.And; used = 0; ends = replicate 24 0; len = 0; tests = 0; negatives = negatives.None }

abbrev pub no_draft : Draft
no_draft = record { parts = no_parts; clauses = no_clauses; window = 0; fault = None }

-- ---- room for n: what comes later is not kept

abbrev pub kept_with : {X : Type 0} → ℕ → List X → ℕ → X → List X
kept_with n xs len x = cond (nat_lt len n) (slice_set xs len x) xs

abbrev pub one_more : ℕ → ℕ → ℕ
one_more n len = cond (nat_lt len n) (len + 1) len

-- ---- faults

abbrev pub with_fault : Draft → SenseFault → Draft
with_fault d f = record { parts = d.parts; clauses = d.clauses; window = d.window; fault = noted d.fault f }

abbrev pub fault_if : Bool → SenseFault → Draft → Draft
fault_if b f d = cond b (with_fault d f) d

abbrev pub with_parts : Draft → Parts → Draft
with_parts d ps = record { parts = ps; clauses = d.clauses; window = d.window; fault = d.fault }

abbrev pub with_clauses : Draft → Clauses → Draft
with_clauses d cs = record { parts = d.parts; clauses = cs; window = d.window; fault = d.fault }

-- ---- parts

abbrev pub with_kinds : Parts → List Bool → Parts
with_kinds ps kinds = record { kept = ps.kept; len = ps.len; bound = ps.bound; positives = ps.positives; kinds = kinds; last = ps.last }

abbrev pub part_begun : Draft → Draft
part_begun d = with_parts d (with_kinds d.parts no_kinds)

abbrev pub kind_added_by : Option ℕ → Draft → ℕ → Draft
kind_added_by None d place = with_fault d (UnknownKind place)
kind_added_by (Some kind) d place = with_parts d (with_kinds d.parts (slice_set d.parts.kinds kind true))

-- a kind word of the part, at its place
abbrev pub kind_added : Draft → List ℕ × ℕ → Draft
kind_added d w = kind_added_by (kind_named w.0) d w.1

-- who has a variable
abbrev pub binding_in : Parts → ℕ → Option Binding
binding_in ps letter = slice_index_or ps.bound letter None

-- the first to have it keeps it
abbrev pub bound_with : Option Binding → List (Option Binding) → ℕ → Binding → List (Option Binding)
bound_with None bound letter b = slice_set bound letter (Some b)
bound_with (Some a) bound letter b = bound

-- a part at this place, as the last one
abbrev pub last_at : ℕ → Bool → LastPart
last_at place negative = cond negative (Negative place) (Positive place)

-- whether the last part is negative
abbrev pub last_negative : LastPart → Bool
last_negative (Positive place) = false
last_negative (Negative place) = true

abbrev pub part_kept : Parts → ℕ → Bool → ℕ → Parts
part_kept ps place negative letter = record {
  kept = kept_with 12 ps.kept ps.len (record { negative = negative; kinds = ps.kinds; variable = letter });
  len = one_more 12 ps.len;
  bound = bound_with (binding_in ps letter) ps.bound letter (record { part = ps.len; negative = negative });
  positives = cond negative ps.positives (one_more 7 ps.positives);
  kinds = ps.kinds;
  last = last_at place negative;
}

-- a second negative in a row, or a seventh positive
abbrev pub misplaced_in : Parts → Bool → Bool
misplaced_in ps negative = cond negative (last_negative ps.last) (ps.positives == 6)

-- a part at this place, with a variable at its own place
abbrev pub part_ended : Draft → ℕ → Bool → ℕ × ℕ → Draft
part_ended d place negative v =
    with_parts (fault_if (misplaced_in d.parts negative) (Shape place) (fault_if (is_some (binding_in d.parts v.0)) (Doubled v.1) d))
    (part_kept d.parts place negative v.0)

-- the last part may not be negative
abbrev pub parts_ended_by : LastPart → Draft → Draft
parts_ended_by (Positive place) d = d
parts_ended_by (Negative place) d = with_fault d (Shape place)

abbrev pub parts_ended : Draft → Draft
parts_ended d = parts_ended_by d.parts.last d

-- ---- clauses

abbrev pub key_asked : Clauses → Clauses
key_asked cs = record { key = true; steps = cs.steps; used = cs.used; ends = cs.ends; len = cs.len; tests = cs.tests; negatives = cs.negatives }

abbrev pub with_negatives : Clauses → Negatives → Clauses
with_negatives cs ns = record { key = cs.key; steps = cs.steps; used = cs.used; ends = cs.ends; len = cs.len; tests = cs.tests; negatives = ns }

abbrev pub clause_begun : Clauses → Clauses
clause_begun cs = with_negatives cs negatives.None

-- the negative variables that are used, with one more; of several, the first is known
abbrev pub negatives_with : Negatives → ℕ → Negatives
negatives_with negatives.None v = negatives.One v
negatives_with (negatives.One u) v = cond (u == v) (negatives.One u) (negatives.Several u)
negatives_with (negatives.Several u) v = negatives.Several u

abbrev pub negative_used : Clauses → ℕ → Clauses
negative_used cs letter = with_negatives cs (negatives_with cs.negatives letter)

abbrev pub are_several : Negatives → Bool
are_several negatives.None = false
are_several (negatives.One v) = false
are_several (negatives.Several v) = true

abbrev pub step_kept : Clauses → Step → Clauses
step_kept cs s = record {
  key = cs.key;
  steps = kept_with 47 cs.steps cs.used s;
  used = one_more 47 cs.used;
  ends = cs.ends;
  len = cs.len;
  tests = cs.tests;
  negatives = cs.negatives;
}

abbrev pub test_counted : Clauses → Clauses
test_counted cs = record { key = cs.key; steps = cs.steps; used = cs.used; ends = cs.ends; len = cs.len; tests = one_more 25 cs.tests; negatives = cs.negatives }

abbrev pub end_kept : Clauses → Clauses
end_kept cs = record {
  key = cs.key;
  steps = cs.steps;
  used = cs.used;
  ends = kept_with 24 cs.ends cs.len cs.used;
  len = one_more 24 cs.len;
  tests = cs.tests;
  negatives = cs.negatives;
}

abbrev pub clause_ended : Draft → ℕ → Draft
clause_ended d place = with_clauses (fault_if (are_several d.clauses.negatives) (TwoNegatives place) d) (end_kept d.clauses)

-- two conditions are joined
abbrev pub joined : Draft → Step → Draft
joined d s = with_clauses d (step_kept d.clauses s)

-- a variable is used
abbrev pub name_used_by : Option Binding → Draft → Name → Draft
name_used_by None d n = with_fault d (Unbound n.place)
name_used_by (Some b) d n = cond b.negative (with_clauses d (negative_used d.clauses n.letter)) d

abbrev pub name_used : Draft → Name → Draft
name_used d n = name_used_by (binding_in d.parts n.letter) d n

abbrev pub item_used : Draft → Item Name → Draft
item_used d (item.Reading n r) = name_used d n
item_used d (item.Number v) = d

abbrev pub side_used : Draft → Side Name → Draft
side_used d (Alone i) = item_used d i
side_used d (Sum i j) = item_used (item_used d i) j
side_used d (Difference i j) = item_used (item_used d i) j

-- variables as the parts that have them
abbrev pub part_number : Option Binding → ℕ
part_number None = 0
part_number (Some b) = b.part

abbrev pub item_resolved : Parts → Item Name → Item ℕ
item_resolved ps (item.Reading n r) = item.Reading (part_number (binding_in ps n.letter)) r
item_resolved ps (item.Number v) = item.Number v

abbrev pub side_resolved : Parts → Side Name → Side ℕ
side_resolved ps (Alone i) = Alone (item_resolved ps i)
side_resolved ps (Sum i j) = Sum (item_resolved ps i) (item_resolved ps j)
side_resolved ps (Difference i j) = Difference (item_resolved ps i) (item_resolved ps j)

abbrev pub test_resolved : Parts → Test Name → Test ℕ
test_resolved ps t = record { left = side_resolved ps t.left; comparison = t.comparison; right = side_resolved ps t.right }

abbrev pub test_used : Draft → Test Name → Draft
test_used d t = side_used (side_used d t.left) t.right

-- a test whose first token is at this place
abbrev pub test_kept : Draft → Test Name → ℕ → Draft
test_kept d t place =
    with_clauses (fault_if (d.clauses.tests == 24) (ManyTests place) d) (test_counted (step_kept d.clauses (step.Test (test_resolved d.parts t))))

abbrev pub test_added : Draft → Test Name → ℕ → Draft
test_added d t place = test_kept (test_used d t) t place

-- ---- the window

abbrev pub window_set : Draft → ℕ × ℕ → Draft
window_set d w =
    fault_if (not (nat_le 1 w.0 && nat_le w.0 864000)) (Window w.1) (record { parts = d.parts; clauses = d.clauses; window = w.0; fault = d.fault })
