-- What conditions and clauses do to a draft. Assumes nothing.
use Rattle.std.proofs.Common.{◌≡◌, ℕ, ◌+◌, min, Bool, eqb, List, [], ◌∷◌, ◌++◌, Option, sym, refl, ap, ◌∙◌, arith}
use Rattle.grammar.specs.Syntax.{Written, Cond, Clause, Part}
use Rattle.grammar.specs.Syntax.Clause.{same_key, condition}
use Rattle.grammar.specs.Syntax.Cond.{test, both, either}
use Rattle.sense.proofs.Faulted.{faulted, fault_if_is}
use Rattle.sense.proofs.Least.{least_append}
use Rattle.sense.proofs.Names.{all_used, several_differ, negatives_append, test_used_is, negatives_used, names_are}
use Rattle.sense.proofs.Rooms.{one_more_min, eqb_min, put, taken, put_append, taken_append}
use Rattle.sense.proofs.Sequence.{Owned}
use Rattle.sense.specs.Drafted.{negatives_with, are_several, one_more, with_clauses, key_asked, clause_begun, step_kept, test_counted, end_kept, clause_ended, joined, test_resolved, test_kept, test_added}
use Rattle.sense.specs.Drafting.{cond_drafted, clause_drafted, clauses_drafted}
use Rattle.sense.specs.Faults.{least_from}
use Rattle.sense.specs.Meaning.{Tree, postfix}
use Rattle.sense.specs.Meaning.Tree.{leaf, and, or}
use Rattle.sense.specs.Sense.{test_names, cond_names, tests_in, clause_tests, negatives, fault_where, unbound, cond_faults, differ, clause_faults, clauses_faults}
use Rattle.sense.specs.declared.clauses.Clauses.{Clauses}
use Rattle.sense.specs.declared.clauses.Negatives.TheVariants.{None}
use Rattle.sense.specs.declared.clauses.Step.{Step}
use Rattle.sense.specs.declared.clauses.Step.TheVariants as step
use Rattle.sense.specs.declared.draft.Draft.{Draft}
use Rattle.sense.specs.declared.fault.SenseFault.{SenseFault}
use Rattle.sense.specs.declared.fault.SenseFault.TheVariants.{ManyTests, TwoNegatives}
use Rattle.sense.specs.declared.parts.Parts.{Parts}
use Rattle.std.proofs.lemmas.List.Sums.{fold-append}

-- ---- conditions

-- a condition's tree, with the parts that its variables are bound to
abbrev pub tree_in : Parts → Cond → Tree
tree_in ps (test w) = leaf (test_resolved ps w.says)
tree_in ps (both a b) = and (tree_in ps a) (tree_in ps b)
tree_in ps (either a b) = or (tree_in ps a) (tree_in ps b)

-- clauses with some more steps and negative variables, and n tests in all
abbrev pub after : Clauses → List Step → List ℕ → ℕ → Clauses
after cs ss vs n = record {
  key = cs.key;
  steps = put 47 cs.steps cs.used ss;
  used = taken 47 cs.used ss;
  ends = cs.ends;
  len = cs.len;
  tests = min 25 n;
  negatives = all_used cs.negatives vs;
}

-- what a test behind n others does to a draft
test_is : (ps : List Part) (n : ℕ) (d : Draft) (w : Written) → Owned d.parts ps → d.clauses.tests ≡ min 25 n →
    test_added d w.says w.place ≡ faulted (with_clauses d (after d.clauses (postfix (tree_in d.parts (test w))) (negatives ps (test_names w)) (n + 1))) (cond_faults ps n (test w))
test_is ps n d w own h =
    let vs = negatives ps (test_names w) in
    let fs = unbound ps (test_names w) in
    let e = faulted (negatives_used d vs) fs in
    let last = test_counted (step_kept e.clauses (step.Test (test_resolved d.parts w.says))) in
    let many = eqb d.clauses.tests 24 in
    ap (λ (x : Draft). test_kept x w.says w.place) (test_used_is d w ∙ names_are ps d (test_names w) own) ∙
    ap (λ (x : Draft). with_clauses x last) (fault_if_is many (ManyTests w.place) e) ∙
    (λ i. record {
      parts = d.parts;
      clauses = record {
        key = last.key;
        steps = last.steps;
        used = last.used;
        ends = last.ends;
        len = last.len;
        tests = (ap (one_more 25) h ∙ one_more_min 25 n) i;
        negatives = last.negatives;
      };
      window = d.window;
      fault = (ap (λ (b : Bool). least_from e.fault (fault_where b (ManyTests w.place))) (eqb_min 24 d.clauses.tests n h) ∙ sym (least_append d.fault fs (fault_where (eqb n 24) (ManyTests w.place)))) i;
    })

-- two conditions and what joins them
join_is : (d : Draft) (ss ts : List Step) (us vs ws : List ℕ) (m n : ℕ) (fs : List SenseFault) (s : Step) → ws ≡ us ++ vs →
    joined (faulted (with_clauses d (after (after d.clauses ss us m) ts vs n)) fs) s ≡
    faulted (with_clauses d (after d.clauses (ss ++ (ts ++ (s ∷ []))) ws n)) fs
join_is d ss ts us vs ws m n fs s e =
    let cs = d.clauses in
    let steps = put_append 47 cs.steps cs.used ss (ts ++ (s ∷ [])) ∙ put_append 47 (put 47 cs.steps cs.used ss) (taken 47 cs.used ss) ts (s ∷ []) in
    let used = taken_append 47 cs.used ss (ts ++ (s ∷ [])) ∙ taken_append 47 (taken 47 cs.used ss) ts (s ∷ []) in
    let negatives = ap (all_used cs.negatives) e ∙ fold-append negatives_with cs.negatives us vs in
    λ i. record {
      parts = d.parts;
      clauses = record { key = cs.key; steps = sym steps i; used = sym used i; ends = cs.ends; len = cs.len; tests = min 25 n; negatives = sym negatives i };
      window = d.window;
      fault = least_from d.fault fs;
    }

-- what a condition behind n tests does to a draft
abbrev cond_after : List Part → ℕ → Draft → Cond → Draft
cond_after ps n d c = faulted (with_clauses d (after d.clauses (postfix (tree_in d.parts c)) (negatives ps (cond_names c)) (n + tests_in c))) (cond_faults ps n c)

two_are : (ps : List Part) (n : ℕ) (d : Draft) (a b : Cond) (s : Step) →
    joined (cond_after ps (n + tests_in a) (cond_after ps n d a) b) s ≡
    faulted (with_clauses d (after d.clauses (postfix (tree_in d.parts a) ++ (postfix (tree_in d.parts b) ++ (s ∷ []))) (negatives ps (cond_names a ++ cond_names b)) (n + (tests_in a + tests_in b))))
    (cond_faults ps n a ++ cond_faults ps (n + tests_in a) b)
two_are ps n d a b s =
    let sum : n + tests_in a + tests_in b ≡ n + (tests_in a + tests_in b) = omega arith in
    let ss = postfix (tree_in d.parts a) in
    let ts = postfix (tree_in d.parts b) in
    let us = negatives ps (cond_names a) in
    let vs = negatives ps (cond_names b) in
    let fs = cond_faults ps n a in
    let gs = cond_faults ps (n + tests_in a) b in
    (λ i. joined (record { parts = d.parts; clauses = after (after d.clauses ss us (n + tests_in a)) ts vs (sum i); window = d.window; fault = sym (least_append d.fault fs gs) i }) s) ∙
    join_is d ss ts us vs _ (n + tests_in a) (n + (tests_in a + tests_in b)) (fs ++ gs) s (negatives_append ps (cond_names a) (cond_names b))

cond_is : (ps : List Part) (n : ℕ) (d : Draft) (c : Cond) → Owned d.parts ps → d.clauses.tests ≡ min 25 n → cond_drafted d c ≡ cond_after ps n d c
cond_is ps n d (test w) own h = test_is ps n d w own h
cond_is ps n d (both a b) own h =
    ap (λ (e : Draft). joined (cond_drafted e b) step.And) (cond_is ps n d a own h) ∙
    ap (λ (e : Draft). joined e step.And) (cond_is ps (n + tests_in a) (cond_after ps n d a) b own refl) ∙ two_are ps n d a b step.And
cond_is ps n d (either a b) own h =
    ap (λ (e : Draft). joined (cond_drafted e b) step.Or) (cond_is ps n d a own h) ∙
    ap (λ (e : Draft). joined e step.Or) (cond_is ps (n + tests_in a) (cond_after ps n d a) b own refl) ∙ two_are ps n d a b step.Or

-- ---- clauses

-- clauses with one more behind n tests
abbrev pub clause_after : Parts → List Part → ℕ → Clauses → Clause → Clauses
clause_after bs ps n cs same_key = key_asked cs
clause_after bs ps n cs (condition p c) = end_kept (after (clause_begun cs) (postfix (tree_in bs c)) (negatives ps (cond_names c)) (n + tests_in c))

clause_is : (ps : List Part) (n : ℕ) (d : Draft) (c : Clause) → Owned d.parts ps → d.clauses.tests ≡ min 25 n →
    clause_drafted d c ≡ faulted (with_clauses d (clause_after d.parts ps n d.clauses c)) (clause_faults ps n c)
clause_is ps n d same_key own h = refl
clause_is ps n d (condition p c) own h =
    let e = with_clauses d (clause_begun d.clauses) in
    let vs = negatives ps (cond_names c) in
    ap (λ (x : Draft). clause_ended x p) (cond_is ps n e c own h) ∙
    ap (λ (x : Draft). with_clauses x (clause_after d.parts ps n d.clauses (condition p c))) (fault_if_is (are_several (all_used None vs)) (TwoNegatives p) (cond_after ps n e c)) ∙
    ap (λ (o : Option SenseFault). record { parts = d.parts; clauses = clause_after d.parts ps n d.clauses (condition p c); window = d.window; fault = o })
    (ap (λ (b : Bool). least_from (least_from d.fault (cond_faults ps n c)) (fault_where b (TwoNegatives p))) (several_differ vs) ∙
    sym (least_append d.fault (cond_faults ps n c) (fault_where (differ vs) (TwoNegatives p))))

abbrev pub clauses_after : Parts → List Part → ℕ → Clauses → List Clause → Clauses
clauses_after bs ps n cs [] = cs
clauses_after bs ps n cs (c ∷ more) = clauses_after bs ps (n + clause_tests c) (clause_after bs ps n cs c) more

tests_after : (bs : Parts) (ps : List Part) (n : ℕ) (cs : Clauses) (c : Clause) → cs.tests ≡ min 25 n → (clause_after bs ps n cs c).tests ≡ min 25 (n + clause_tests c)
tests_after bs ps n cs same_key h = omega arith
tests_after bs ps n cs (condition p c) h = refl

-- what all clauses do to a draft
pub clauses_are : (ps : List Part) (n : ℕ) (d : Draft) (cs : List Clause) → Owned d.parts ps → d.clauses.tests ≡ min 25 n →
    clauses_drafted d cs ≡ faulted (with_clauses d (clauses_after d.parts ps n d.clauses cs)) (clauses_faults ps n cs)
clauses_are ps n d [] own h = refl
clauses_are ps n d (c ∷ cs) own h =
    let e = faulted (with_clauses d (clause_after d.parts ps n d.clauses c)) (clause_faults ps n c) in
    ap (λ (x : Draft). clauses_drafted x cs) (clause_is ps n d c own h) ∙ clauses_are ps (n + clause_tests c) e cs own (tests_after d.parts ps n d.clauses c h) ∙
    ap (λ (o : Option SenseFault). record { parts = d.parts; clauses = clauses_after d.parts ps n d.clauses (c ∷ cs); window = d.window; fault = o })
    (sym (least_append d.fault (clause_faults ps n c) (clauses_faults ps (n + clause_tests c) cs)))
