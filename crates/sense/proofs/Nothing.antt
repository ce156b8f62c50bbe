-- Lists of faults that are empty. Assumes nothing.
use Rattle.std.proofs.Common.{◌≡◌, Bool, true, false, not, List, [], ◌∷◌, ◌++◌, sym, refl, ap, ◌∙◌}
use Rattle.sense.specs.Sense.{fault_where}
use Rattle.sense.specs.declared.fault.SenseFault.{SenseFault}
use Rattle.std.proofs.lemmas.Bool.{not-false, not_from_true}
use Rattle.std.specs.List.{AllByRecursion}

-- lists that have nothing together have nothing each
pub nils : (fs gs : List SenseFault) → fs ++ gs ≡ [] → (fs ≡ []) × (gs ≡ [])
nils [] gs e = (refl, e)
nils (f ∷ fs) gs e = cc

pub nils_from : (fs gs : List SenseFault) → fs ≡ [] → gs ≡ [] → fs ++ gs ≡ []
nils_from fs gs e f = ap (λ (l : List SenseFault). l ++ gs) e ∙ f

pub none_where : (b : Bool) (f : SenseFault) → fault_where b f ≡ [] → b ≡ false
none_where true f e = cc
none_where false f e = refl

pub where_none : (b : Bool) (f : SenseFault) → b ≡ false → fault_where b f ≡ []
where_none b f e = ap (λ (c : Bool). fault_where c f) e

-- F gives a fault for each element that fails the test g
module _ {X : Type 0} (g : X → Bool) (f : X → SenseFault) (F : List X → List SenseFault) (more : (x : X) (xs : List X) → F (x ∷ xs) ≡ fault_where (not (g x)) (f x) ++ F xs) where
  pub all_pass : (xs : List X) → F xs ≡ [] → AllByRecursion (λ x. g x ≡ true) xs
  all_pass [] e = tt
  all_pass (x ∷ xs) e = let p = nils (fault_where (not (g x)) (f x)) (F xs) (sym (more x xs) ∙ e) in (not-false (g x) (none_where (not (g x)) (f x) p.0), all_pass xs p.1)

  pub none_fails : F [] ≡ [] → (xs : List X) → AllByRecursion (λ x. g x ≡ true) xs → F xs ≡ []
  none_fails none [] a = none
  none_fails none (x ∷ xs) a = more x xs ∙ nils_from (fault_where (not (g x)) (f x)) (F xs) (where_none (not (g x)) (f x) (not_from_true (g x) a.0)) (none_fails none xs a.1)
