use Rattle.std.proofs.Common.{◌≡◌, ℕ, ◌<◌, ◌≤◌, true, List, [], ◌∷◌, refl, ⊎_elim, arith}
use lib.Utf8.{scalar, scalars, scalar_cases}
use Rattle.keys.proofs.name.texts_are_allowed.Goals as goal
use Rattle.keys.specs.Name.{allowed, all_allowed}
use Rattle.std.proofs.lemmas.Bool.{and_parts, and_from}
use Rattle.std.proofs.lemmas.Str.{scalars-chars}
use Rattle.std.proofs.lemmas.Bool.Decides.{nat_tests}
use Rattle.std.specs.Str.{chars}

one : (c : ℕ) → scalar c ≡ true → allowed c ≡ true
one c t =
    ⊎_elim (λ (low : c < 55296). grind (arith, nat_tests)) (λ (high : (57344 ≤ c) × (c < 1114112)). grind (arith, nat_tests)) (scalar_cases c t)

every : (cs : List ℕ) → scalars cs ≡ true → all_allowed cs ≡ true
every [] t = refl
every (c ∷ cs) t = let p = and_parts _ _ t in and_from _ _ (one c p.0) (every cs p.1)

pub returns : goal.returns
returns c text utf8 = every (chars text) (scalars-chars text utf8)
