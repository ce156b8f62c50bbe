-- The first of some faults. Assumes nothing.
use Rattle.std.proofs.Common.{◌≡◌, Bool, true, false, cond, ◌⊎◌, List, [], ◌∷◌, ◌++◌, Some, None, Option, sym, refl, ap, inl, inr, ⊎_elim, arith}
use Rattle.sense.specs.Faults.{number_of, place_of, comes_before, noted, least_from, least, NoLater}
use Rattle.sense.specs.declared.fault.SenseFault.{SenseFault}
use Rattle.std.proofs.ByRecursion.{has_get_or, has_append_right}
use Rattle.std.proofs.lemmas.Bool.Decides.{nat_tests}
use Rattle.std.proofs.lemmas.List.Sums.{fold-append}
use Rattle.std.specs.List.{ContainsAt, AllByRecursion}

pub least_append : (s : Option SenseFault) (fs gs : List SenseFault) → least_from s (fs ++ gs) ≡ least_from (least_from s fs) gs
least_append s fs gs = fold-append noted s fs gs

no_none : (g : SenseFault) (fs : List SenseFault) → least_from (Some g) fs ≡ None → ⊥
no_none g [] e = cc
no_none g (f ∷ fs) e = no_none (cond (comes_before f g) f g) fs e

-- there is no first fault only where there is none
pub least_none : (fs : List SenseFault) → least fs ≡ None → fs ≡ []
least_none [] e = refl
least_none (f ∷ fs) e = absurd (no_none f fs e)

later_trans : (f g h : SenseFault) → NoLater f g → NoLater g h → NoLater f h
later_trans f g h a b = grind arith

before_later : (f g : SenseFault) → comes_before f g ≡ true → NoLater f g
before_later f g e = grind (arith, nat_tests)

not_before_later : (f g : SenseFault) → comes_before f g ≡ false → NoLater g f
not_before_later f g e = grind (arith, nat_tests)

-- by which of two came first
first_of_two : (b : Bool) (g h f : SenseFault) → comes_before h g ≡ b → NoLater f (cond b h g) → NoLater f g × NoLater f h
first_of_two true g h f e l = (later_trans f h g l (before_later h g e), l)
first_of_two false g h f e l = (l, later_trans f g h l (not_before_later h g e))

first_from : (g : SenseFault) (fs : List SenseFault) (f : SenseFault) → least_from (Some g) fs ≡ Some f → AllByRecursion (NoLater f) (g ∷ fs)
first_from g [] f e = let same : g ≡ f = cc in (inr (sym (ap place_of same), omega (arith, ap number_of same)), tt)
first_from g (h ∷ fs) f e =
    let rest = first_from (cond (comes_before h g) h g) fs f e in
    let two = first_of_two (comes_before h g) g h f refl rest.0 in
    (two.0, (two.1, rest.1))

-- the first is no later than any
pub least_first : (fs : List SenseFault) (f : SenseFault) → least fs ≡ Some f → AllByRecursion (NoLater f) fs
least_first [] f e = tt
least_first (g ∷ fs) f e = first_from g fs f e

has_head : (f : SenseFault) (fs : List SenseFault) → ContainsAt (f ∷ fs) f
has_head f fs = has_get_or (f ∷ fs) 0 f (omega arith)

has_tail : (g : SenseFault) (fs : List SenseFault) (f : SenseFault) → ContainsAt fs f → ContainsAt (g ∷ fs) f
has_tail g fs f h = has_append_right (g ∷ []) fs f h

one_of_two : (b : Bool) (g h f : SenseFault) (fs : List SenseFault) → (cond b h g ≡ f) ⊎ ContainsAt fs f → (g ≡ f) ⊎ ContainsAt (h ∷ fs) f
one_of_two true g h f fs (inl e) = inr (rw e (has_head f fs))
one_of_two true g h f fs (inr k) = inr (has_tail h fs f k)
one_of_two false g h f fs (inl e) = inl e
one_of_two false g h f fs (inr k) = inr (has_tail h fs f k)

some_from : (g : SenseFault) (fs : List SenseFault) (f : SenseFault) → least_from (Some g) fs ≡ Some f → (g ≡ f) ⊎ ContainsAt fs f
some_from g [] f e = inl cc
some_from g (h ∷ fs) f e = one_of_two (comes_before h g) g h f fs (some_from (cond (comes_before h g) h g) fs f e)

-- the first is one of them
pub least_some : (fs : List SenseFault) (f : SenseFault) → least fs ≡ Some f → ContainsAt fs f
least_some [] f e = cc
least_some (g ∷ fs) f e = ⊎_elim (λ (s : g ≡ f). rw s (has_head f fs)) (has_tail g fs f) (some_from g fs f e)
