-- A draft of a text that keeps the limits holds its meaning. Assumes nothing.
use Rattle.std.proofs.Common.{◌≡◌, ℕ, suc, ◌+◌, ◌*◌, ◌<◌, ◌≤◌, Bool, true, false, ◌||◌, List, [], ◌∷◌, ◌++◌, length, Some, None, Option, sym, refl, ap, ◌∙◌, subst, subst₂, append_assoc, append-nil, arith, length-append}
use mathlib.Core.Bool.{or-true, or-false}
use lib.ListN.{length-map}
use Rattle.grammar.specs.Syntax.{Cond, Clause, Part, Syntax}
use Rattle.grammar.specs.Syntax.Clause.{same_key, condition}
use Rattle.grammar.specs.Syntax.Cond.{test, both, either}
use Rattle.grammar.specs.declared.test.Item.{Item}
use Rattle.grammar.specs.declared.test.Item.TheVariants as item
use Rattle.grammar.specs.declared.test.Name.{Name}
use Rattle.grammar.specs.declared.test.Side.{Side}
use Rattle.grammar.specs.declared.test.Side.TheVariants.{Alone, Sum, Difference}
use Rattle.grammar.specs.declared.test.Test.{Test}
use Rattle.sense.proofs.Conditions.{tree_in, clause_after, clauses_after}
use Rattle.sense.proofs.Owners.{owner_number}
use Rattle.sense.proofs.Rooms.{kept_laid, one_more_below, put, put_laid, taken, taken_all}
use Rattle.sense.proofs.Sequence.{bound_by, Owned}
use Rattle.sense.proofs.Shapes.{at_most_twice}
use Rattle.sense.proofs.Texts.{parts_in, parts_stand, drafted_is}
use Rattle.sense.specs.Drafted.{no_clauses, kept_with, one_more, key_asked, binding_in, part_number, item_resolved, side_resolved, test_resolved}
use Rattle.sense.specs.Drafting.{drafted}
use Rattle.sense.specs.Law.{Drafts, Lettered}
use Rattle.sense.specs.Meaning.{Tree, number_in, item_of, side_of, test_of, tree_of, asks_key, trees_of, reading_of, part_of, laid, postfix, steps_of, ends_from}
use Rattle.sense.specs.Meaning.Tree.{leaf, and, or}
use Rattle.sense.specs.Sense.{owner, tests_in, tests_of, Limits}
use Rattle.sense.specs.declared.clauses.Clauses.{Clauses}
use Rattle.sense.specs.declared.clauses.Step.{Step}
use Rattle.sense.specs.declared.clauses.Step.TheVariants as step
use Rattle.sense.specs.declared.draft.Draft.{Draft}
use Rattle.sense.specs.declared.parts.Parts.{Parts}
use Rattle.std.proofs.lemmas.List.{length_push}

-- ---- variables stand for their parts

number_by : (o : Option (ℕ × Bool)) → number_in o ≤ 12 → part_number (bound_by o) ≡ number_in o
number_by None h = refl
number_by (Some o) h = omega arith

-- the names of up to 12 parts are resolved as they are meant
module _ (bs : Parts) (ps : List Part) (own : Owned bs ps) (few : length ps ≤ 12) where
  number_is : (v : ℕ) → part_number (binding_in bs v) ≡ number_in (owner ps v)
  number_is v = ap part_number (own v) ∙ number_by (owner ps v) (omega (arith, owner_number ps v))

  item_is : (i : Item Name) → item_resolved bs i ≡ item_of ps i
  item_is (item.Reading n r) = ap (λ (k : ℕ). item.Reading k r) (number_is n.letter)
  item_is (item.Number v) = refl

  side_is : (s : Side Name) → side_resolved bs s ≡ side_of ps s
  side_is (Alone i) = λ k. Alone (item_is i k)
  side_is (Sum i j) = λ k. Sum (item_is i k) (item_is j k)
  side_is (Difference i j) = λ k. Difference (item_is i k) (item_is j k)

  test_is : (t : Test Name) → test_resolved bs t ≡ test_of ps t
  test_is t = λ k. record { left = side_is t.left k; comparison = t.comparison; right = side_is t.right k }

  tree_is : (c : Cond) → tree_in bs c ≡ tree_of ps c
  tree_is (test w) = ap leaf (test_is w.says)
  tree_is (both a b) = λ k. and (tree_is a k) (tree_is b k)
  tree_is (either a b) = λ k. or (tree_is a k) (tree_is b k)

-- ---- trees, one behind the other

steps_push : (ts : List Tree) (t : Tree) → steps_of (ts ++ (t ∷ [])) ≡ steps_of ts ++ postfix t
steps_push [] t = append-nil (postfix t)
steps_push (s ∷ ts) t = ap (λ (l : List Step). postfix s ++ l) (steps_push ts t) ∙ sym (append_assoc (postfix s) (steps_of ts) (postfix t))

ends_push : (n : ℕ) (ts : List Tree) (t : Tree) → ends_from n (ts ++ (t ∷ [])) ≡ ends_from n ts ++ ((n + length (steps_of ts) + length (postfix t)) ∷ [])
ends_push n [] t = let none : n + length (postfix t) ≡ n + 0 + length (postfix t) = omega arith in ap (λ (k : ℕ). k ∷ []) none
ends_push n (s ∷ ts) t =
    let long = length-append (postfix s) (steps_of ts) in
    let sum : n + length (postfix s) + length (steps_of ts) + length (postfix t) ≡ n + length (steps_of (s ∷ ts)) + length (postfix t) = omega arith in
    ap (λ (l : List ℕ). (n + length (postfix s)) ∷ l) (ends_push (n + length (postfix s)) ts t ∙ ap (λ (k : ℕ). ends_from (n + length (postfix s)) ts ++ (k ∷ [])) sum)

ends_length : (n : ℕ) (ts : List Tree) → length (ends_from n ts) ≡ length ts
ends_length n [] = refl
ends_length n (t ∷ ts) = ap suc (ends_length (n + length (postfix t)) ts)

two_length : (xs ys : List Step) (s : Step) (a b : ℕ) → length xs + 1 ≡ 2 * a → length ys + 1 ≡ 2 * b → length (xs ++ (ys ++ (s ∷ []))) + 1 ≡ 2 * (a + b)
two_length xs ys s a b h k = simp length-append (omega arith)

-- a tree has one step less than twice its tests
postfix_length : (ps : List Part) (c : Cond) → length (postfix (tree_of ps c)) + 1 ≡ 2 * tests_in c
postfix_length ps (test w) = refl
postfix_length ps (both a b) = two_length (postfix (tree_of ps a)) (postfix (tree_of ps b)) step.And (tests_in a) (tests_in b) (postfix_length ps a) (postfix_length ps b)
postfix_length ps (either a b) = two_length (postfix (tree_of ps a)) (postfix (tree_of ps b)) step.Or (tests_in a) (tests_in b) (postfix_length ps a) (postfix_length ps b)

-- ---- the clauses that have been read

record Holds (cs : Clauses) (key : Bool) (ts : List Tree) : Type 0 where
  pub key_is : cs.key ≡ key
  pub steps : cs.steps ≡ laid 47 step.And (steps_of ts)
  pub used : cs.used ≡ length (steps_of ts)
  pub ends : cs.ends ≡ laid 24 0 (ends_from 0 ts)
  pub len : cs.len ≡ length ts

none_held : Holds no_clauses false []
none_held = record { key_is = refl; steps = refl; used = refl; ends = refl; len = refl }

-- one more condition, where there is room for it
one_held : (bs : Parts) (ps : List Part) (n : ℕ) (cs : Clauses) (key : Bool) (ts : List Tree) (p : ℕ) (c : Cond) → Holds cs key ts → length ts < 24 →
    length (steps_of ts) + length (postfix (tree_in bs c)) ≤ 47 → Holds (clause_after bs ps n cs (condition p c)) key (ts ++ (tree_in bs c ∷ []))
one_held bs ps n cs key ts p c h room more =
    let t = tree_in bs c in
    let xs = steps_of ts in
    let used : taken 47 cs.used (postfix t) ≡ length xs + length (postfix t) = ap (λ (k : ℕ). taken 47 k (postfix t)) h.used ∙ taken_all 47 (length xs) (postfix t) more in
    let end : taken 47 cs.used (postfix t) ≡ 0 + length xs + length (postfix t) = used ∙ omega arith in
    let len : cs.len ≡ length (ends_from 0 ts) = h.len ∙ sym (ends_length 0 ts) in
    let less : length (ends_from 0 ts) < 24 = rw (ends_length 0 ts) room in
    record {
      key_is = h.key_is;
      steps = (λ i. put 47 (h.steps i) (h.used i) (postfix t)) ∙ put_laid 47 step.And xs (postfix t) more ∙ ap (laid 47 step.And) (sym (steps_push ts t));
      used = used ∙ sym (length-append xs (postfix t)) ∙ ap length (sym (steps_push ts t));
      ends = (λ i. kept_with 24 (h.ends i) (len i) (end i)) ∙ kept_laid 24 0 (ends_from 0 ts) (0 + length xs + length (postfix t)) less ∙ ap (laid 24 0) (sym (ends_push 0 ts t));
      len = ap (one_more 24) h.len ∙ one_more_below 24 (length ts) room ∙ sym (length_push ts t);
    }

held_as : (cs : Clauses) (k l : Bool) (ts us : List Tree) → k ≡ l → ts ≡ us → Holds cs k ts → Holds cs l us
held_as cs k l ts us e f h = subst₂ (Holds cs) e f h

key_held : (cs : Clauses) (key : Bool) (ts : List Tree) → Holds cs key ts → Holds (key_asked cs) true ts
key_held cs key ts h = record { key_is = refl; steps = h.steps; used = h.used; ends = h.ends; len = h.len }

-- behind n tests there is room for the clauses that are left, if they have at most 24 tests together
all_held : (bs : Parts) (ps : List Part) → ((c : Cond) → tree_in bs c ≡ tree_of ps c) → (n : ℕ) (cs : Clauses) (key : Bool) (ts : List Tree) (more : List Clause) → Holds cs key ts →
    length (steps_of ts) ≤ 2 * n → length ts ≤ n → n + tests_of more ≤ 24 → Holds (clauses_after bs ps n cs more) (key || asks_key more) (ts ++ trees_of ps more)
all_held bs ps same n cs key ts [] h steps trees room = held_as cs key (key || false) ts (ts ++ []) (sym (or-false key)) (sym (append-nil ts)) h
all_held bs ps same n cs key ts (same_key ∷ more) h steps trees room =
    held_as _ true (key || true) _ _ (sym (or-true key)) refl
    (all_held bs ps same (n + 0) (key_asked cs) true ts more (key_held cs key ts h) (omega arith) (omega arith) (omega arith))
all_held bs ps same n cs key ts (condition p c ∷ more) h steps trees room =
    let t = tree_in bs c in
    let size : length (postfix t) + 1 ≡ 2 * tests_in c = ap (λ (s : Tree). length (postfix s) + 1) (same c) ∙ postfix_length ps c in
    let all = ap length (steps_push ts t) ∙ length-append (steps_of ts) (postfix t) in
    let long = length_push ts t in
    let one = one_held bs ps n cs key ts p c h (omega arith) (omega arith) in
    let rest = all_held bs ps same (n + tests_in c) (clause_after bs ps n cs (condition p c)) key (ts ++ (t ∷ [])) more one (omega arith) (omega arith) (omega arith) in
    held_as _ (key || asks_key more) (key || asks_key more) _ _ refl (append_assoc ts (t ∷ []) (trees_of ps more) ∙ ap (λ (s : Tree). ts ++ (s ∷ trees_of ps more)) (same c)) rest

-- ---- the whole text

pub meaning_held : (q : Syntax) → Lettered q → Limits q → Drafts (drafted q) (reading_of q)
meaning_held q l k =
    let s = parts_stand q l in
    let few : length q.parts ≤ 12 = omega (arith, at_most_twice q.parts k.followed, k.few) in
    let h = all_held (parts_in q) q.parts (tree_is (parts_in q) q.parts s.owned few) 0 no_clauses false [] q.clauses none_held (omega arith) (omega arith) (omega (arith, k.tests)) in
    subst (λ (d : Draft). Drafts d (reading_of q)) (sym (drafted_is q l))
    (record {
      parts = s.kept few;
      parts_len = s.len ∙ omega arith ∙ sym (length-map q.parts part_of);
      key = h.key_is;
      steps = h.steps;
      used = h.used;
      ends = h.ends;
      clauses_len = h.len;
      window = refl;
    })
