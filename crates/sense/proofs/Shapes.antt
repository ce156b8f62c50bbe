-- The limits of a sequence are kept where none of its parts has a fault. Assumes nothing.
use Rattle.std.proofs.lemmas.Bool.Decides.{nat_tests}
use Rattle.std.proofs.Common.{◌≡◌, ℕ, suc, ◌+◌, ◌*◌, ◌≤◌, Bool, true, false, cond, eqb, List, [], ◌∷◌, ◌++◌, map, length, is_some, Some, None, Option, sym, refl, ap, ◌∙◌, arith}
use Rattle.events.specs.Kind.{kind_named}
use Rattle.grammar.specs.Syntax.{Word, Part}
use Rattle.sense.proofs.Nothing.{nils, nils_from, none_where, where_none, all_pass, none_fails}
use Rattle.sense.proofs.Owners.{owns, owner_push, positives_push, ends_push}
use Rattle.sense.specs.Sense.{owner, positives, Distinct, Followed, ends_negative, misplaced, fault_where, unknown_kinds, part_faults, parts_faults, last_faults}
use Rattle.sense.specs.declared.fault.SenseFault.TheVariants.{UnknownKind, Doubled, Shape}
use Rattle.std.proofs.lemmas.Bool.{both_ways, eq-eqb, ne_eqb, cond-true, cond-false}
use Rattle.std.specs.List.{AllByRecursion}
use Rattle.std.specs.Option.{option_or}

-- each kind word names a kind
abbrev pub Known : List Word → Type 0
Known ws = AllByRecursion (λ w. is_some (kind_named w.0) ≡ true) ws

-- a part behind others has no fault
record Fits (before : List Part) (p : Part) : Type 0 where
  pub known : Known p.kinds
  pub free : is_some (owner before p.variable.letter) ≡ false
  pub placed : misplaced before p ≡ false

fits : (before : List Part) (p : Part) → part_faults before p ≡ [] → Fits before p
fits before p e =
    let a = nils (unknown_kinds p.kinds) _ e in
    let b = nils (fault_where (is_some (owner before p.variable.letter)) (Doubled p.variable.place)) _ a.1 in
    record {
      known = all_pass (λ w. is_some (kind_named w.0)) (λ w. UnknownKind w.1) unknown_kinds (λ w ws. refl) p.kinds a.0;
      free = none_where _ _ b.0;
      placed = none_where _ _ b.1;
    }

fits_clean : (before : List Part) (p : Part) → Fits before p → part_faults before p ≡ []
fits_clean before p f =
    nils_from (unknown_kinds p.kinds) _ (none_fails (λ w. is_some (kind_named w.0)) (λ w. UnknownKind w.1) unknown_kinds (λ w ws. refl) refl p.kinds f.known)
    (nils_from (fault_where (is_some (owner before p.variable.letter)) (Doubled p.variable.place)) _ (where_none _ _ f.free) (where_none _ _ f.placed))

-- all parts behind others have no fault
abbrev AllFit : List Part → List Part → Type 0
AllFit before [] = Unit {0}
AllFit before (p ∷ ps) = Fits before p × AllFit (before ++ (p ∷ [])) ps

all_fit : (before ps : List Part) → parts_faults before ps ≡ [] → AllFit before ps
all_fit before [] e = tt
all_fit before (p ∷ ps) e = let a = nils (part_faults before p) _ e in (fits before p a.0, all_fit (before ++ (p ∷ [])) ps a.1)

all_clean : (before ps : List Part) → AllFit before ps → parts_faults before ps ≡ []
all_clean before [] a = refl
all_clean before (p ∷ ps) a = nils_from (part_faults before p) _ (fits_clean before p a.0) (all_clean (before ++ (p ∷ [])) ps a.1)

-- ---- where there is no fault

all_known : (before ps : List Part) → AllFit before ps → AllByRecursion (λ p. Known p.kinds) ps
all_known before [] a = tt
all_known before (p ∷ ps) a = (a.0.known, all_known (before ++ (p ∷ [])) ps a.1)

some_left : {X : Type 0} (o n : Option X) → is_some o ≡ true → is_some (option_or o n) ≡ true
some_left None n e = absurd (both_ways _ refl e)
some_left (Some x) n e = refl

some_right : {X : Type 0} (o n : Option X) → is_some n ≡ true → is_some (option_or o n) ≡ true
some_right None n e = e
some_right (Some x) n e = refl

owner_stays : (before : List Part) (p : Part) (v : ℕ) → is_some (owner before v) ≡ true → is_some (owner (before ++ (p ∷ [])) v) ≡ true
owner_stays before p v e = ap is_some (owner_push before p v) ∙ some_left (owner before v) (owns p (length before) v) e

owner_own : (before : List Part) (p : Part) → is_some (owner (before ++ (p ∷ [])) p.variable.letter) ≡ true
owner_own before p =
    let v = p.variable.letter in
    ap is_some (owner_push before p v) ∙
    some_right (owner before v) (owns p (length before) v) (ap is_some (cond-true (eqb v v) (Some (length before, p.negative)) None (eq-eqb v v refl)))

abbrev letters : List Part → List ℕ
letters ps = map (λ p. p.variable.letter) ps

others : (before ps : List Part) (v : ℕ) → AllFit before ps → is_some (owner before v) ≡ true → AllByRecursion (λ u. u ≡ v → ⊥) (letters ps)
others before [] v a h = tt
others before (p ∷ ps) v a h = (
  (λ same. both_ways _ a.0.free (ap (λ (u : ℕ). is_some (owner before u)) same ∙ h)),
  others (before ++ (p ∷ [])) ps v a.1 (owner_stays before p v h),
)

distinct : (before ps : List Part) → AllFit before ps → Distinct (letters ps)
distinct before [] a = tt
distinct before (p ∷ ps) a = (others (before ++ (p ∷ [])) ps p.variable.letter a.1 (owner_own before p), distinct (before ++ (p ∷ [])) ps a.1)

few : (before ps : List Part) → AllFit before ps → positives before ≤ 6 → positives before + positives ps ≤ 6
few before [] a h = omega arith
few before (p ∷ ps) a h = grind (arith, nat_tests, a.0.placed, positives_push before p, few (before ++ (p ∷ [])) ps a.1)

followed : (before ps : List Part) → AllFit before ps → last_faults ps ≡ [] → Followed ps
followed before [] a e = tt
followed before (p ∷ []) a e = none_where p.negative _ e
followed before (p ∷ r ∷ ps) a e = (
  (λ n. grind (arith, nat_tests, a.1.0.placed, ends_push before p)),
  followed (before ++ (p ∷ [])) (r ∷ ps) a.1 e,
)

-- the last part is positive
pub some_positive : (ps : List Part) → Followed ps → 1 ≤ length ps → 1 ≤ positives ps
some_positive [] f h = absurd (omega arith)
some_positive (p ∷ []) f h = rw f (omega arith)
some_positive (p ∷ r ∷ ps) f h = grind (arith, nat_tests, some_positive (r ∷ ps) f.1 (omega arith))

-- what holds of parts without a fault
pub record Shaped (ps : List Part) : Type 0 where
  pub known : AllByRecursion (λ p. Known p.kinds) ps
  pub once : Distinct (letters ps)
  pub few : positives ps ≤ 6
  pub followed : Followed ps

pub shaped : (ps : List Part) → parts_faults [] ps ≡ [] → last_faults ps ≡ [] → Shaped ps
shaped ps e l =
    let a = all_fit [] ps e in
    record { known = all_known [] ps a; once = distinct [] ps a; few = omega (arith, few [] ps a (omega arith)); followed = followed [] ps a l }

-- ---- and back

-- after a negative part a positive one comes next
abbrev Leads : Bool → List Part → Type 0
Leads n [] = Unit {0}
Leads n (p ∷ ps) = n ≡ true → p.negative ≡ false

leads : (p : Part) (ps : List Part) → Followed (p ∷ ps) → Leads p.negative ps
leads p [] f = tt
leads p (r ∷ ps) f = f.0

followed_rest : (p : Part) (ps : List Part) → Followed (p ∷ ps) → Followed ps
followed_rest p [] f = tt
followed_rest p (r ∷ ps) f = f.1

none_else : {X : Type 0} (o : Option X) (b : Bool) (x : X) → is_some o ≡ false → b ≡ false → is_some (option_or o (cond b (Some x) None)) ≡ false
none_else None b x e f = ap is_some (cond-false b (Some x) None f)
none_else (Some y) b x e f = absurd (both_ways _ e refl)

free_more : (before : List Part) (p : Part) (vs : List ℕ) → AllByRecursion (λ v. is_some (owner before v) ≡ false) vs → AllByRecursion (λ u. u ≡ p.variable.letter → ⊥) vs →
    AllByRecursion (λ v. is_some (owner (before ++ (p ∷ [])) v) ≡ false) vs
free_more before p [] a b = tt
free_more before p (v ∷ vs) a b = (
  ap is_some (owner_push before p v) ∙ none_else (owner before v) (eqb p.variable.letter v) (length before, p.negative) a.0 (ne_eqb p.variable.letter v (λ e. b.0 (sym e))),
  free_more before p vs a.1 b.1,
)

fit_from : (before ps : List Part) → AllByRecursion (λ p. Known p.kinds) ps → AllByRecursion (λ v. is_some (owner before v) ≡ false) (letters ps) → Distinct (letters ps) → positives before + positives ps ≤ 6 →
    Leads (ends_negative before) ps → Followed ps → AllFit before ps
fit_from before [] known free once few next f = tt
fit_from before (p ∷ ps) known free once few next f = (
  record { known = known.0; free = free.0; placed = grind (arith, nat_tests) },
  fit_from (before ++ (p ∷ [])) ps known.1 (free_more before p (letters ps) free.1 once.0) once.1
      (grind (arith, nat_tests, positives_push before p)) (rw ends_push (leads p ps f)) (followed_rest p ps f),
)

none_owned : (vs : List ℕ) → AllByRecursion (λ v. is_some (owner [] v) ≡ false) vs
none_owned [] = tt
none_owned (v ∷ vs) = (refl, none_owned vs)

first_leads : (ps : List Part) → Leads false ps
first_leads [] = tt
first_leads (p ∷ ps) = λ e. absurd (both_ways false refl e)

pub shaped_clean : (ps : List Part) → Shaped ps → parts_faults [] ps ≡ []
shaped_clean ps s = all_clean [] ps (fit_from [] ps s.known (none_owned (letters ps)) s.once (omega (arith, s.few)) (first_leads ps) s.followed)

pub last_clean : (ps : List Part) → Followed ps → last_faults ps ≡ []
last_clean [] f = refl
last_clean (p ∷ []) f = where_none p.negative (Shape p.place) f
last_clean (p ∷ r ∷ ps) f = last_clean (r ∷ ps) f.1

-- ---- how many parts there can be

abbrev Half : Part → List Part → Type 0
Half p ps = (length (p ∷ ps) ≤ 2 * positives (p ∷ ps)) × (p.negative ≡ false → length (p ∷ ps) + 1 ≤ 2 * positives (p ∷ ps))

half_by : (n m : Bool) (a b : ℕ) → (n ≡ true → m ≡ false) → a ≤ 2 * b → (m ≡ false → a + 1 ≤ 2 * b) →
    (suc a ≤ 2 * cond n b (1 + b)) × (n ≡ false → suc a + 1 ≤ 2 * cond n b (1 + b))
half_by n m a b next h k = grind (arith, nat_tests)

half : (p : Part) (ps : List Part) → Followed (p ∷ ps) → Half p ps
half p [] f = rw f (omega arith, λ e. omega arith)
half p (r ∷ ps) f = let h = half r ps f.1 in half_by p.negative r.negative (length (r ∷ ps)) (positives (r ∷ ps)) f.0 h.0 h.1

-- at least half of all parts are positive
pub at_most_twice : (ps : List Part) → Followed ps → length ps ≤ 2 * positives ps
at_most_twice [] f = omega arith
at_most_twice (p ∷ ps) f = (half p ps f).0
