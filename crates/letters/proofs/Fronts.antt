-- A list by its first elements, as a slice pattern gives them. Assumes nothing.
use Rattle.std.proofs.Common.{◌≡◌, ℕ, ◌-◌, ◌≤◌, false, ◌&&◌, ◌⊎◌, List, [], ◌∷◌, length, get_or, take, drop, refl, ap, ◌∙◌, ⊎_elim, arith}
use Rattle.letters.specs.Symbols.{symbol_at, one_byte, takes_equal, equal_next}
use Rattle.std.proofs.lemmas.List.{take_rest}
use Rattle.std.proofs.lemmas.Bool.{ne_eqb, and_right, cond-false}

pub one_front : (xs : List ℕ) (a : ℕ) → 1 ≤ length xs → get_or xs 0 0 ≡ a → xs ≡ a ∷ take (length xs - 1) (drop 1 xs)
one_front [] a h e = absurd (omega arith)
one_front (x ∷ xs) a h e = rw (take_rest (x ∷ xs) 1) (ap (λ y. y ∷ xs) e)

pub two_front : (xs : List ℕ) (a b : ℕ) → 2 ≤ length xs → get_or xs 0 0 ≡ a → get_or xs 1 0 ≡ b → xs ≡ a ∷ b ∷ take (length xs - 2) (drop 2 xs)
two_front [] a b h e f = absurd (omega arith)
two_front (x ∷ []) a b h e f = absurd (omega arith)
two_front (x ∷ y ∷ xs) a b h e f = rw (take_rest (x ∷ y ∷ xs) 2) (ap (λ z. z ∷ y ∷ xs) e ∙ ap (λ z. a ∷ z ∷ xs) f)

-- what follows the first byte does not begin with '='
pub no_equal : (xs : List ℕ) → (length xs ≤ 1) ⊎ (get_or xs 1 0 ≡ 61 → ⊥) → equal_next (take (length xs - 1) (drop 1 xs)) ≡ false
no_equal [] h = refl
no_equal (x ∷ []) h = refl
no_equal (x ∷ y ∷ xs) h = rw (take_rest (x ∷ y ∷ xs) 1) (ne_eqb y 61 (⊎_elim (λ k. absurd (omega arith)) (λ k. k) h))

-- a symbol of one byte stays one where no '=' follows it
pub alone : (b : ℕ) (xs : List ℕ) → equal_next xs ≡ false → symbol_at (b ∷ xs) ≡ one_byte b xs
alone b xs h = cond-false (takes_equal b && equal_next xs) _ _ (and_right (takes_equal b) (equal_next xs) h)
