-- The laws of keys: what "same" and "shelf" say of identities. Assumes nothing.
use Rattle.std.specs.Prelude.{◌≡◌, ℕ, ◌<◌, Bool, true}

pub record Lawful {K I : Type 0} (identity : K → I) (alike : K → K → Bool) (shelf : K → ℕ) : Type 0 where
  -- two keys are alike exactly where their identities are equal
  pub sound : (a b : K) → alike a b ≡ true → identity a ≡ identity b
  pub complete : (a b : K) → identity a ≡ identity b → alike a b ≡ true
  -- so likeness is an equivalence
  pub reflexive : (a : K) → alike a a ≡ true
  pub symmetric : (a b : K) → alike a b ≡ alike b a
  pub transitive : (a b c : K) → alike a b ≡ true → alike b c ≡ true → alike a c ≡ true
  -- and keys that are alike are alike to the same keys
  pub congruent : (a b c : K) → alike a b ≡ true → alike a c ≡ alike b c
  -- there are sixteen shelves, and keys that are alike share one
  pub below : (a : K) → shelf a < 16
  pub shared : (a b : K) → alike a b ≡ true → shelf a ≡ shelf b
