-- What the use of variables does to a draft. Assumes nothing.
use Rattle.std.proofs.lemmas.Bool.Decides.{nat_tests}
use Rattle.std.proofs.Common.{◌≡◌, ℕ, Bool, true, false, cond, not, ◌||◌, eqb, List, [], ◌∷◌, ◌++◌, is_some, Some, Option, sym, refl, ap, ◌∙◌, arith}
use Rattle.grammar.specs.Syntax.{Written, Part}
use Rattle.grammar.specs.declared.test.Item.{Item}
use Rattle.grammar.specs.declared.test.Item.TheVariants as item
use Rattle.grammar.specs.declared.test.Name.{Name}
use Rattle.grammar.specs.declared.test.Side.{Side}
use Rattle.grammar.specs.declared.test.Side.TheVariants.{Alone, Sum, Difference}
use Rattle.sense.proofs.Faulted.{faulted}
use Rattle.sense.proofs.Least.{least_append}
use Rattle.sense.proofs.Sequence.{bound_by, Owned}
use Rattle.sense.specs.Drafted.{with_clauses, with_negatives, negatives_with, are_several, negative_used, name_used_by, name_used, item_used, side_used, test_used}
use Rattle.sense.specs.Sense.{owner, owned_negative, item_names, side_names, test_names, negatives, fault_where, unbound, other_than, differ}
use Rattle.sense.specs.declared.clauses.Negatives.{Negatives}
use Rattle.sense.specs.declared.clauses.Negatives.TheVariants.{None, One, Several}
use Rattle.sense.specs.declared.draft.Draft.{Draft}
use Rattle.sense.specs.declared.fault.SenseFault.{SenseFault}
use Rattle.sense.specs.declared.fault.SenseFault.TheVariants.{Unbound}
use Rattle.std.proofs.lemmas.List.Sums.{fold-append}
use Rattle.std.specs.List.{fold}
use Rattle.std.specs.declared.option.Option.TheVariants as option

-- ---- the negative variables that a clause uses

abbrev pub all_used : Negatives → List ℕ → Negatives
all_used ns vs = fold negatives_with ns vs

several_stay : (u : ℕ) (vs : List ℕ) → all_used (Several u) vs ≡ Several u
several_stay u [] = refl
several_stay u (v ∷ vs) = several_stay u vs

several_from : (b : Bool) (u : ℕ) (vs : List ℕ) → are_several (all_used (One u) vs) ≡ other_than u vs →
    are_several (all_used (cond b (One u) (Several u)) vs) ≡ (not b || other_than u vs)
several_from true u vs e = e
several_from false u vs e = ap are_several (several_stay u vs)

several_other : (u : ℕ) (vs : List ℕ) → are_several (all_used (One u) vs) ≡ other_than u vs
several_other u [] = refl
several_other u (v ∷ vs) = several_from (eqb u v) u vs (several_other u vs)

-- several are used where not all are the same
pub several_differ : (vs : List ℕ) → are_several (all_used None vs) ≡ differ vs
several_differ [] = refl
several_differ (v ∷ vs) = several_other v vs

negative_first : (b : Bool) (v : ℕ) (us : List ℕ) → cond b (v ∷ us) us ≡ cond b (v ∷ []) [] ++ us
negative_first b v us = grind (arith, nat_tests)

pub negatives_append : (ps : List Part) (ms ns : List Name) → negatives ps (ms ++ ns) ≡ negatives ps ms ++ negatives ps ns
negatives_append ps [] ns = refl
negatives_append ps (m ∷ ms) ns = grind (arith, nat_tests, negatives_append ps ms ns)

-- ---- the variables of a test

abbrev names_used : Draft → List Name → Draft
names_used d ns = fold name_used d ns

item_is : (d : Draft) (i : Item Name) → item_used d i ≡ names_used d (item_names i)
item_is d (item.Reading n r) = refl
item_is d (item.Number v) = refl

items_are : (d : Draft) (i j : Item Name) → item_used (item_used d i) j ≡ names_used d (item_names i ++ item_names j)
items_are d i j = item_is (item_used d i) j ∙ ap (λ (e : Draft). names_used e (item_names j)) (item_is d i) ∙ sym (fold-append name_used d (item_names i) (item_names j))

side_is : (d : Draft) (s : Side Name) → side_used d s ≡ names_used d (side_names s)
side_is d (Alone i) = item_is d i
side_is d (Sum i j) = items_are d i j
side_is d (Difference i j) = items_are d i j

pub test_used_is : (d : Draft) (w : Written) → test_used d w.says ≡ names_used d (test_names w)
test_used_is d w =
    let l = w.says.left in
    let r = w.says.right in
    side_is (side_used d l) r ∙ ap (λ (e : Draft). names_used e (side_names r)) (side_is d l) ∙ sym (fold-append name_used d (side_names l) (side_names r))

-- a draft whose clause uses some more negative variables
abbrev pub negatives_used : Draft → List ℕ → Draft
negatives_used d vs = with_clauses d (with_negatives d.clauses (all_used d.clauses.negatives vs))

used_if : (b : Bool) (d : Draft) (n : Name) →
    cond b (with_clauses d (negative_used d.clauses n.letter)) d ≡ negatives_used d (cond b (n.letter ∷ []) [])
used_if true d n = refl
used_if false d n = refl

name_is : (o : Option (ℕ × Bool)) (d : Draft) (n : Name) →
    name_used_by (bound_by o) d n ≡ faulted (negatives_used d (cond (owned_negative o) (n.letter ∷ []) [])) (fault_where (not (is_some o)) (Unbound n.place))
name_is option.None d n = refl
name_is (Some o) d n = used_if o.1 d n

names_twice : (d : Draft) (us vs : List ℕ) (fs gs : List SenseFault) →
    faulted (negatives_used (faulted (negatives_used d us) fs) vs) gs ≡ faulted (negatives_used d (us ++ vs)) (fs ++ gs)
names_twice d us vs fs gs = λ i. record {
  parts = d.parts;
  clauses = with_negatives d.clauses (sym (fold-append negatives_with d.clauses.negatives us vs) i);
  window = d.window;
  fault = sym (least_append d.fault fs gs) i;
}

-- what the use of variables does to a draft
pub names_are : (ps : List Part) (d : Draft) (ns : List Name) → Owned d.parts ps → names_used d ns ≡ faulted (negatives_used d (negatives ps ns)) (unbound ps ns)
names_are ps d [] own = refl
names_are ps d (n ∷ ns) own =
    let o = owner ps n.letter in
    let vs = cond (owned_negative o) (n.letter ∷ []) [] in
    let fs = fault_where (not (is_some o)) (Unbound n.place) in
    ap (λ b. names_used (name_used_by b d n) ns) (own n.letter) ∙ ap (λ (e : Draft). names_used e ns) (name_is o d n) ∙
    names_are ps (faulted (negatives_used d vs) fs) ns own ∙ names_twice d vs (negatives ps ns) fs (unbound ps ns) ∙
    ap (λ (l : List ℕ). faulted (negatives_used d l) (fs ++ unbound ps ns)) (sym (negative_first (owned_negative o) n.letter (negatives ps ns)))
