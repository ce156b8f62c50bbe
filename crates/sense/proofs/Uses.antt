-- The limits of the clauses are kept where none of them has a fault. Assumes nothing.
use Rattle.std.proofs.lemmas.Bool.Decides.{nat_tests}
use Rattle.std.proofs.Common.{◌≡◌, ℕ, ◌+◌, ◌≤◌, true, false, eqb, List, [], ◌∷◌, ◌++◌, is_some, sym, refl, ◌∙◌, arith}
use Rattle.grammar.specs.Syntax.{Cond, Clause, Part}
use Rattle.grammar.specs.Syntax.Clause.{same_key, condition}
use Rattle.grammar.specs.Syntax.Cond.{test, both, either}
use Rattle.grammar.specs.declared.test.Name.{Name}
use Rattle.sense.proofs.Nothing.{nils, nils_from, none_where, where_none, all_pass, none_fails}
use Rattle.sense.specs.Sense.{owner, test_names, cond_names, clause_names, tests_in, clause_tests, tests_of, negatives, unbound, cond_faults, other_than, differ, clause_faults, clauses_faults}
use Rattle.sense.specs.declared.fault.SenseFault.TheVariants.{Unbound, ManyTests, TwoNegatives}
use Rattle.std.proofs.ByRecursion.{All-append, all-has, all_has_itself, All-weaker, has_get_or, has_append_right}
use Rattle.std.proofs.lemmas.Bool.{ne_eqb}
use Rattle.std.specs.List.{ContainsAt, AllByRecursion}

-- variables of the sequence
abbrev pub Bound : List Part → List Name → Type 0
Bound ps ns = AllByRecursion (λ n. is_some (owner ps n.letter) ≡ true) ns

-- at most one variable
abbrev pub Single : List ℕ → Type 0
Single vs = (u v : ℕ) → ContainsAt vs u → ContainsAt vs v → u ≡ v

bound : (ps : List Part) (ns : List Name) → unbound ps ns ≡ [] → Bound ps ns
bound ps ns e = all_pass (λ n. is_some (owner ps n.letter)) (λ n. Unbound n.place) (unbound ps) (λ n ns. refl) ns e

bound_clean : (ps : List Part) (ns : List Name) → Bound ps ns → unbound ps ns ≡ []
bound_clean ps ns a = none_fails (λ n. is_some (owner ps n.letter)) (λ n. Unbound n.place) (unbound ps) (λ n ns. refl) refl ns a

all_parts : {X : Type 0} (P : X → Type 0) (xs ys : List X) → AllByRecursion P (xs ++ ys) → AllByRecursion P xs × AllByRecursion P ys
all_parts P [] ys a = (tt, a)
all_parts P (x ∷ xs) ys a = let r = all_parts P xs ys a.1 in ((a.0, r.0), r.1)

-- ---- conditions

-- names of the sequence, in some tests behind n others
abbrev Fit : List Part → List Name → ℕ → ℕ → Type 0
Fit ps ns n tests = Bound ps ns × (n ≤ 24 → n + tests ≤ 24)

fit_append : (ps : List Part) (ms ns : List Name) (n a b : ℕ) → Fit ps ms n a → Fit ps ns (n + a) b → Fit ps (ms ++ ns) n (a + b)
fit_append ps ms ns n a b x y = (All-append (λ m. is_some (owner ps m.letter) ≡ true) ms ns x.0 y.0, λ h. omega (arith, y.1 (x.1 h)))

cond_fits : (ps : List Part) (n : ℕ) (c : Cond) → cond_faults ps n c ≡ [] → Fit ps (cond_names c) n (tests_in c)
cond_fits ps n (test w) e =
    let a = nils (unbound ps (test_names w)) _ e in
    (bound ps (test_names w) a.0, grind (arith, nat_tests, none_where (eqb n 24) (ManyTests w.place) a.1))
cond_fits ps n (both a b) e =
    let p = nils (cond_faults ps n a) _ e in
    fit_append ps (cond_names a) (cond_names b) n (tests_in a) (tests_in b) (cond_fits ps n a p.0) (cond_fits ps (n + tests_in a) b p.1)
cond_fits ps n (either a b) e =
    let p = nils (cond_faults ps n a) _ e in
    fit_append ps (cond_names a) (cond_names b) n (tests_in a) (tests_in b) (cond_fits ps n a p.0) (cond_fits ps (n + tests_in a) b p.1)

cond_clean : (ps : List Part) (n : ℕ) (c : Cond) → Bound ps (cond_names c) → n + tests_in c ≤ 24 → cond_faults ps n c ≡ []
cond_clean ps n (test w) a h = nils_from (unbound ps (test_names w)) _ (bound_clean ps (test_names w) a) (where_none (eqb n 24) (ManyTests w.place) (ne_eqb n 24 (λ e. omega arith)))
cond_clean ps n (both a b) all h =
    let p = all_parts (λ m. is_some (owner ps m.letter) ≡ true) (cond_names a) (cond_names b) all in
    nils_from (cond_faults ps n a) _ (cond_clean ps n a p.0 (omega arith)) (cond_clean ps (n + tests_in a) b p.1 (omega arith))
cond_clean ps n (either a b) all h =
    let p = all_parts (λ m. is_some (owner ps m.letter) ≡ true) (cond_names a) (cond_names b) all in
    nils_from (cond_faults ps n a) _ (cond_clean ps n a p.0 (omega arith)) (cond_clean ps (n + tests_in a) b p.1 (omega arith))

-- ---- negative variables

same_all : (v : ℕ) (us : List ℕ) → other_than v us ≡ false → AllByRecursion (λ u. v ≡ u) us
same_all v [] e = tt
same_all v (u ∷ us) e = (grind (arith, nat_tests), same_all v us (grind (arith, nat_tests)))

all_same : (v : ℕ) (us : List ℕ) → AllByRecursion (λ u. v ≡ u) us → other_than v us ≡ false
all_same v [] a = refl
all_same v (u ∷ us) a = grind (arith, nat_tests, a.0, all_same v us a.1)

none_single : Single []
none_single u v h k = absurd (omega (arith, h.1))

single : (vs : List ℕ) → differ vs ≡ false → Single vs
single [] e = none_single
single (w ∷ vs) e = λ u v h k.
    let a : AllByRecursion (λ x. w ≡ x) (w ∷ vs) = (refl, same_all w vs e) in
    sym (all-has (λ x. w ≡ x) (w ∷ vs) u a h) ∙ all-has (λ x. w ≡ x) (w ∷ vs) v a k

single_clean : (vs : List ℕ) → Single vs → differ vs ≡ false
single_clean [] s = refl
single_clean (w ∷ vs) s =
    all_same w vs (All-weaker (ContainsAt vs) (λ u. w ≡ u) (λ u h. s w u (has_get_or (w ∷ vs) 0 w (omega arith)) (has_append_right (w ∷ []) vs u h)) vs (all_has_itself vs))

-- ---- clauses

-- what holds of clauses without a fault, behind n tests
pub record Used (ps : List Part) (n : ℕ) (cs : List Clause) : Type 0 where
  pub bound : AllByRecursion (λ c. Bound ps (clause_names c)) cs
  pub tests : n ≤ 24 → n + tests_of cs ≤ 24
  pub single : AllByRecursion (λ c. Single (negatives ps (clause_names c))) cs

clause_fits : (ps : List Part) (n : ℕ) (c : Clause) → clause_faults ps n c ≡ [] → Fit ps (clause_names c) n (clause_tests c)
clause_fits ps n same_key e = (tt, λ h. omega arith)
clause_fits ps n (condition p c) e = cond_fits ps n c (nils (cond_faults ps n c) _ e).0

clause_single : (ps : List Part) (n : ℕ) (c : Clause) → clause_faults ps n c ≡ [] → Single (negatives ps (clause_names c))
clause_single ps n same_key e = none_single
clause_single ps n (condition p c) e = single (negatives ps (cond_names c)) (none_where _ (TwoNegatives p) (nils (cond_faults ps n c) _ e).1)

pub used : (ps : List Part) (n : ℕ) (cs : List Clause) → clauses_faults ps n cs ≡ [] → Used ps n cs
used ps n [] e = record { bound = tt; tests = λ h. omega arith; single = tt }
used ps n (c ∷ cs) e =
    let p = nils (clause_faults ps n c) _ e in
    let here = clause_fits ps n c p.0 in
    let rest = used ps (n + clause_tests c) cs p.1 in
    record {
      bound = (here.0, rest.bound);
      tests = λ h. omega (arith, rest.tests (here.1 h));
      single = (clause_single ps n c p.0, rest.single);
    }

clause_clean : (ps : List Part) (n : ℕ) (c : Clause) → Bound ps (clause_names c) → n + clause_tests c ≤ 24 → Single (negatives ps (clause_names c)) → clause_faults ps n c ≡ []
clause_clean ps n same_key a h s = refl
clause_clean ps n (condition p c) a h s =
    nils_from (cond_faults ps n c) _ (cond_clean ps n c a h) (where_none _ (TwoNegatives p) (single_clean (negatives ps (cond_names c)) s))

pub used_clean : (ps : List Part) (n : ℕ) (cs : List Clause) → AllByRecursion (λ c. Bound ps (clause_names c)) cs → n + tests_of cs ≤ 24 → AllByRecursion (λ c. Single (negatives ps (clause_names c))) cs →
    clauses_faults ps n cs ≡ []
used_clean ps n [] a h s = refl
used_clean ps n (c ∷ cs) a h s =
    nils_from (clause_faults ps n c) _ (clause_clean ps n c a.0 (omega arith) s.0) (used_clean ps (n + clause_tests c) cs a.1 (omega arith) s.1)
