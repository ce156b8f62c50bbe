-- Packing and unpacking are inverse to each other. Assumes nothing.
use Rattle.std.proofs.Common.{◌≡◌, ℕ, ◌+◌, ◌*◌, ◌/◌, ◌%◌, ◌^◌, ◌<◌, List, [], ◌∷◌, ◌++◌, length, sym, refl, ap, ◌∙◌, add_assoc, mod-lt, mod-eq_of_lt, mul_assoc, mul_comm, add-mul, add_comm, zero-add, arith, pow_pos, pow-add}
use native.Mathlib.Nat.{add-mul-mod_self_right, add-mul-div_right}
use lib.Arith.{mod-mul}
use Rattle.events.specs.Bits.{width, packed, unpacked, Fitting}
use Rattle.std.proofs.lemmas.Nat.{div-mul-add, mul-add-lt}

pub packed_below : (ws vs : List ℕ) → Fitting ws vs → packed ws vs < 2 ^ width ws
packed_below [] [] f = omega arith
packed_below [] (v ∷ vs) f = absurd f
packed_below (w ∷ ws) [] f = absurd f
packed_below (w ∷ ws) (v ∷ vs) f =
    let low = packed_below ws vs f.1 in
    let both = mul-add-lt v (2 ^ width ws) (packed ws vs) (2 ^ w) f.0 low in
    rw (pow-add 2 w (width ws), mul_comm (2 ^ w) (2 ^ width ws)) both

-- what stands above the fields does not matter
unpacked_low : (ws : List ℕ) (high n : ℕ) → unpacked ws (high * 2 ^ width ws + n) ≡ unpacked ws n
unpacked_low [] high n = refl
unpacked_low (w ∷ ws) high n =
    let split : high * 2 ^ (w + width ws) + n ≡ (high * 2 ^ w) * 2 ^ width ws + n =
    ap (λ (p : ℕ). p + n) (ap (λ (p : ℕ). high * p) (pow-add 2 w (width ws)) ∙ sym (mul_assoc high (2 ^ w) (2 ^ width ws))) in
    let quotient : (high * 2 ^ (w + width ws) + n) / 2 ^ width ws ≡ n / 2 ^ width ws + high * 2 ^ w =
    ap (λ (p : ℕ). p / 2 ^ width ws) (split ∙ add_comm ((high * 2 ^ w) * 2 ^ width ws) n) ∙ add-mul-div_right n (high * 2 ^ w) (pow_pos (width ws)) in
    let first : (high * 2 ^ (w + width ws) + n) / 2 ^ width ws % 2 ^ w ≡ n / 2 ^ width ws % 2 ^ w =
    ap (λ (p : ℕ). p % 2 ^ w) quotient ∙ add-mul-mod_self_right (n / 2 ^ width ws) high (2 ^ w) in
    let rest : unpacked ws (high * 2 ^ (w + width ws) + n) ≡ unpacked ws n =
    ap (unpacked ws) split ∙ unpacked_low ws (high * 2 ^ w) n in
    λ i. first i ∷ rest i

pub unpacked_packed : (ws vs : List ℕ) → Fitting ws vs → unpacked ws (packed ws vs) ≡ vs
unpacked_packed [] [] f = refl
unpacked_packed [] (v ∷ vs) f = absurd f
unpacked_packed (w ∷ ws) [] f = absurd f
unpacked_packed (w ∷ ws) (v ∷ vs) f =
    let low = packed_below ws vs f.1 in
    let first : (v * 2 ^ width ws + packed ws vs) / 2 ^ width ws % 2 ^ w ≡ v =
    ap (λ (p : ℕ). p % 2 ^ w) (div-mul-add v (2 ^ width ws) (packed ws vs) low) ∙ mod-eq_of_lt f.0 in
    let rest = unpacked_low ws v (packed ws vs) ∙ unpacked_packed ws vs f.1 in
    λ i. first i ∷ rest i

pub packed_unpacked : (ws : List ℕ) (n : ℕ) → packed ws (unpacked ws n) ≡ n % 2 ^ width ws
packed_unpacked [] n = omega arith
packed_unpacked (w ∷ ws) n =
    ap (λ (p : ℕ). n / 2 ^ width ws % 2 ^ w * 2 ^ width ws + p) (packed_unpacked ws n) ∙
    sym (ap (λ (p : ℕ). n % p) (pow-add 2 w (width ws)) ∙ mod-mul n (pow_pos w) (pow_pos (width ws)))

pub unpacked_fits : (ws : List ℕ) (n : ℕ) → Fitting ws (unpacked ws n)
unpacked_fits [] n = tt
unpacked_fits (w ∷ ws) n = (mod-lt (n / 2 ^ width ws) (pow_pos w), unpacked_fits ws n)

pub width_append : (ws us : List ℕ) → width (ws ++ us) ≡ width ws + width us
width_append [] us = sym (zero-add (width us))
width_append (w ∷ ws) us = ap (λ (p : ℕ). w + p) (width_append ws us) ∙ sym (add_assoc w (width ws) (width us))

-- one row of fields after another
pub packed_append : (ws us vs xs : List ℕ) → length ws ≡ length vs → packed (ws ++ us) (vs ++ xs) ≡ packed ws vs * 2 ^ width us + packed us xs
packed_append [] us [] xs e = omega arith
packed_append [] us (v ∷ vs) xs e = absurd (omega (arith, e))
packed_append (w ∷ ws) us [] xs e = absurd (omega (arith, e))
packed_append (w ∷ ws) us (v ∷ vs) xs e =
    let rest = packed_append ws us vs xs (omega (arith, e)) in
    let high : v * 2 ^ width (ws ++ us) ≡ v * 2 ^ width ws * 2 ^ width us =
    ap (λ (p : ℕ). v * 2 ^ p) (width_append ws us) ∙ ap (λ (p : ℕ). v * p) (pow-add 2 (width ws) (width us)) ∙ sym (mul_assoc v (2 ^ width ws) (2 ^ width us)) in
    (λ i. high i + rest i) ∙ sym (add_assoc (v * 2 ^ width ws * 2 ^ width us) (packed ws vs * 2 ^ width us) (packed us xs)) ∙
    ap (λ (p : ℕ). p + packed us xs) (sym (add-mul (v * 2 ^ width ws) (packed ws vs) (2 ^ width us)))
