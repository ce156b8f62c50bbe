-- Encoding and decoding a record. Assumes nothing.
use Rattle.std.proofs.lemmas.Bool.Decides.{nat_tests}
use Rattle.std.proofs.Common.{◌≡◌, ℕ, zero, suc, ◌+◌, ◌-◌, ◌*◌, ◌/◌, ◌%◌, ◌^◌, ◌<◌, ◌≤◌, leb, List, [], ◌∷◌, ◌++◌, map, length, get_or, take, drop, replicate, ℤ, pos, negsuc, Ok, Err, Result, sym, refl, ap, ◌∙◌, subst, ⊎_elim, add_assoc, mod-eq_of_lt, mul_assoc, add-mul, arith, length-drop, take-append-drop, length-take, pow-add, w32, to_z}
use lib.ListN.{length-map}
use lib.Pow.{mod-mod-pow}
use Rattle.events.proofs.Packing.{packed_below, unpacked_packed, packed_unpacked, unpacked_fits, packed_append, width_append}
use Rattle.events.specs.Bits.{width, packed, unpacked, Fitting, eights, number_of}
use Rattle.events.specs.Record.{Fields, widths, signed_32, bits_32, fields_from, values_of, values_in, decoded, encoded, Record, Reading, Recordable, Inverse}
use Rattle.std.proofs.lemmas.Nat.{div-mul-add, mod-mul-add, field_of, shr-shr, mod-pow-add}
use Rattle.std.proofs.ByRecursion.{All-take, All-drop, All-from_get_or}
use Rattle.std.proofs.lemmas.List.{map-append}
use Rattle.std.proofs.lemmas.Int.{ints, to_z_pos, to_z-of_z}
use Rattle.std.proofs.lemmas.Bool.{cond-false, cond_both, le-ltb, cases_lt}
use Rattle.keys.specs.Badge.{badge_answer}
use Rattle.refusals.specs.declared.Refusal.{Refusal}
use Rattle.refusals.specs.declared.Refusal.TheVariants.{Badge}
use Rattle.std.specs.List.{AllByRecursion}

signed_low : (n : ℕ) → n < 2 ^ 31 → signed_32 n ≡ pos n
signed_low n h = grind (arith, nat_tests)

signed_high : (n : ℕ) → 2 ^ 31 ≤ n → n < 2 ^ 32 → signed_32 n ≡ negsuc (2 ^ 32 - 1 - n)
signed_high n l h = cond-false _ _ _ (le-ltb n (2 ^ 31) l) ∙ omega (arith, ints)

bits_signed : (n : ℕ) → n < 2 ^ 32 → bits_32 (signed_32 n) ≡ n
bits_signed n h = grind (arith, signed_low n, signed_high n)

signed_bits : (z : ℤ) → Reading z → signed_32 (bits_32 z) ≡ z
signed_bits (pos n) h = signed_low n h
signed_bits (negsuc n) h = signed_high (2 ^ 32 - 1 - n) (omega arith) (omega arith) ∙ ap negsuc (omega arith)

bits_below : (z : ℤ) → Reading z → bits_32 z < 2 ^ 32
bits_below (pos n) h = omega arith
bits_below (negsuc n) h = omega arith

same_width : (k : ℕ) {X : Type 0} (xs : List X) → map (λ _. k) xs ≡ replicate (length xs) k
same_width k [] = refl
same_width k (x ∷ xs) = ap (λ (l : List ℕ). k ∷ l) (same_width k xs)

fitting_bytes : (bytes : List ℕ) → AllByRecursion (λ b. b < 2 ^ 8) bytes → Fitting (eights bytes) bytes
fitting_bytes [] a = tt
fitting_bytes (b ∷ bs) a = (a.0, fitting_bytes bs a.1)

-- the bytes of a record as one number
pub record_below : (bytes : List ℕ) → Record bytes → packed (eights bytes) bytes < 2 ^ 192
record_below bytes r =
    subst (λ (l : List ℕ). packed (eights bytes) bytes < 2 ^ width l) (same_width 8 bytes ∙ ap (λ (n : ℕ). replicate n 8) r.0)
    (packed_below (eights bytes) bytes (fitting_bytes bytes r.1))

values_from : (n : ℕ) → values_of (fields_from (unpacked widths n)) ≡ unpacked widths n
values_from n =
    let f = unpacked_fits widths n in
    let a = bits_signed (n / 2 ^ 96 % 2 ^ 32) f.1.1.1.0 in
    let b = bits_signed (n / 2 ^ 64 % 2 ^ 32) f.1.1.1.1.0 in
    let c = bits_signed (n / 2 ^ 32 % 2 ^ 32) f.1.1.1.1.1.0 in
    let d = bits_signed (n / 1 % 2 ^ 32) f.1.1.1.1.1.1.0 in
    λ i. n / 2 ^ 188 % 2 ^ 4 ∷ n / 2 ^ 156 % 2 ^ 32 ∷ n / 2 ^ 128 % 2 ^ 28 ∷ a i ∷ b i ∷ c i ∷ d i ∷ []

pub back : (bytes : List ℕ) → Record bytes → encoded (decoded bytes) ≡ bytes
unfolding values_in encoded
back bytes r =
    let n = packed (eights bytes) bytes in
    let eight : eights bytes ≡ replicate 24 8 = same_width 8 bytes ∙ ap (λ (k : ℕ). replicate k 8) r.0 in
    ap (λ (vs : List ℕ). unpacked (replicate 24 8) (packed widths vs)) (values_from n) ∙
    ap (unpacked (replicate 24 8)) (packed_unpacked widths n ∙ mod-eq_of_lt (record_below bytes r)) ∙
    ap (λ (ws : List ℕ). unpacked ws n) (sym eight) ∙ unpacked_packed (eights bytes) bytes (fitting_bytes bytes r.1)

fitting_readings : (rs : List ℤ) → AllByRecursion Reading rs → Fitting (map (λ _. 32) rs) (map bits_32 rs)
fitting_readings [] a = tt
fitting_readings (r ∷ rs) a = (bits_below r a.0, fitting_readings rs a.1)

readings_back : (rs : List ℤ) → length rs ≡ 4 → AllByRecursion Reading rs →
    signed_32 (get_or (map bits_32 rs) 0 0) ∷ signed_32 (get_or (map bits_32 rs) 1 0) ∷ signed_32 (get_or (map bits_32 rs) 2 0) ∷ signed_32 (get_or (map bits_32 rs) 3 0) ∷ [] ≡ rs
readings_back [] four a = absurd (omega (arith, four))
readings_back (p ∷ []) four a = absurd (omega (arith, four))
readings_back (p ∷ q ∷ []) four a = absurd (omega (arith, four))
readings_back (p ∷ q ∷ r ∷ []) four a = absurd (omega (arith, four))
readings_back (p ∷ q ∷ r ∷ s ∷ []) four a =
    let p' = signed_bits p a.0 in
    let q' = signed_bits q a.1.0 in
    let r' = signed_bits r a.1.1.0 in
    let s' = signed_bits s a.1.1.1.0 in
    λ i. p' i ∷ q' i ∷ r' i ∷ s' i ∷ []
readings_back (p ∷ q ∷ r ∷ s ∷ t ∷ rs) four a = absurd (omega (arith, four))

pub again : (f : Fields) → Recordable f → decoded (encoded f) ≡ f
unfolding values_in encoded
again f r =
    let four : map (λ _. 32) f.readings ≡ replicate 4 32 = same_width 32 f.readings ∙ ap (λ (k : ℕ). replicate k 32) r.four in
    let fit : Fitting widths (values_of f) =
    (r.kind, (r.time, (r.badge, subst (λ (ws : List ℕ). Fitting ws (map bits_32 f.readings)) four (fitting_readings f.readings r.readings)))) in
    let m = packed widths (values_of f) in
    ap (λ (n : ℕ). fields_from (unpacked widths n)) (packed_unpacked (replicate 24 8) m ∙ mod-eq_of_lt (packed_below widths (values_of f) fit)) ∙
    ap fields_from (unpacked_packed widths (values_of f) fit) ∙
    ap (λ (rs : List ℤ). record { kind = f.kind; time = f.time; badge = f.badge; readings = rs }) (readings_back f.readings r.four r.readings)

pub inverse : Inverse
inverse = (back, again)

regroup : (a b c d e : ℕ) → a * (b * c) + (d * c + e) ≡ (a * b + d) * c + e
regroup a b c d e = sym (ap (λ (n : ℕ). n + e) (add-mul (a * b) d c ∙ ap (λ (n : ℕ). n + d * c) (mul_assoc a b c)) ∙ add_assoc (a * (b * c)) (d * c) e)

-- the bytes in the middle of others are a field of the whole
middle : (a w z : List ℕ) → AllByRecursion (λ b. b < 2 ^ 8) w → AllByRecursion (λ b. b < 2 ^ 8) z →
    packed (eights (a ++ (w ++ z))) (a ++ (w ++ z)) / 2 ^ width (eights z) % 2 ^ width (eights w) ≡ packed (eights w) w
middle a w z bw bz =
    let pa = packed (eights a) a in
    let pw = packed (eights w) w in
    let pz = packed (eights z) z in
    let lw = packed_below (eights w) w (fitting_bytes w bw) in
    let lz = packed_below (eights z) z (fitting_bytes z bz) in
    let last : packed (eights (w ++ z)) (w ++ z) ≡ pw * 2 ^ width (eights z) + pz =
    ap (λ (ws : List ℕ). packed ws (w ++ z)) (map-append (λ _. 8) w z) ∙ packed_append (eights w) (eights z) w z (length-map w (λ _. 8)) in
    let size : 2 ^ width (eights (w ++ z)) ≡ 2 ^ width (eights w) * 2 ^ width (eights z) =
    ap (λ (ws : List ℕ). 2 ^ width ws) (map-append (λ _. 8) w z) ∙ ap (λ (k : ℕ). 2 ^ k) (width_append (eights w) (eights z)) ∙ pow-add 2 (width (eights w)) (width (eights z)) in
    let whole : packed (eights (a ++ (w ++ z))) (a ++ (w ++ z)) ≡ (pa * 2 ^ width (eights w) + pw) * 2 ^ width (eights z) + pz =
    ap (λ (ws : List ℕ). packed ws (a ++ (w ++ z))) (map-append (λ _. 8) a (w ++ z)) ∙ packed_append (eights a) (eights (w ++ z)) a (w ++ z) (length-map a (λ _. 8)) ∙
    (λ i. pa * size i + last i) ∙ regroup pa (2 ^ width (eights w)) (2 ^ width (eights z)) pw pz in
    ap (λ (n : ℕ). n / 2 ^ width (eights z) % 2 ^ width (eights w)) whole ∙
    ap (λ (n : ℕ). n % 2 ^ width (eights w)) (div-mul-add (pa * 2 ^ width (eights w) + pw) (2 ^ width (eights z)) pz lz) ∙
    mod-mul-add pa (2 ^ width (eights w)) pw lw

width_eights : (xs : List ℕ) → width (eights xs) ≡ 8 * length xs
width_eights [] = refl
width_eights (x ∷ xs) = ap (λ (k : ℕ). 8 + k) (width_eights xs) ∙ omega arith

-- four bytes of a record, as a field of its number
pub word_is : (bytes : List ℕ) (at : ℕ) → Record bytes → at + 4 ≤ 24 →
    packed (eights (take 4 (drop at bytes))) (take 4 (drop at bytes)) ≡ packed (eights bytes) bytes / 2 ^ (8 * (20 - at)) % 2 ^ 32
word_is bytes at r h =
    let a = take at bytes in
    let w = take 4 (drop at bytes) in
    let z = drop 4 (drop at bytes) in
    let parts : a ++ (w ++ z) ≡ bytes = ap (λ (l : List ℕ). a ++ l) (take-append-drop 4 (drop at bytes)) ∙ take-append-drop at bytes in
    let lw : length w ≡ 4 = simp (length-take, length-drop) (omega (arith, r.0)) in
    let lz : length z ≡ 20 - at = simp (length-drop, length-drop) (omega (arith, r.0)) in
    let bw = All-take (λ b. b < 2 ^ 8) 4 (drop at bytes) (All-drop (λ b. b < 2 ^ 8) at bytes r.1) in
    let bz = All-drop (λ b. b < 2 ^ 8) 4 (drop at bytes) (All-drop (λ b. b < 2 ^ 8) at bytes r.1) in
    let sw : width (eights w) ≡ 32 = width_eights w ∙ ap (λ (k : ℕ). 8 * k) lw in
    let sz : width (eights z) ≡ 8 * (20 - at) = width_eights z ∙ ap (λ (k : ℕ). 8 * k) lz in
    sym (middle a w z bw bz) ∙ (λ i. packed (eights (parts i)) (parts i) / 2 ^ sz i % 2 ^ sw i)

-- four bytes of a record from `at` on, as one number
abbrev word_at : List ℕ → ℕ → ℕ
word_at bytes at = number_of (take 4 (drop at bytes))

pub record_from : (bytes : List ℕ) → length bytes ≡ 24 → ((i : ℕ) → get_or bytes i 0 < 2 ^ 8) → Record bytes
record_from bytes long small = (long, All-from_get_or (λ b. b < 2 ^ 8) bytes 0 (λ i h. small i))

-- the fields by the words that they stand in
module _ (bytes : List ℕ) (long : length bytes ≡ 24) (small : (i : ℕ) → get_or bytes i 0 < 2 ^ 8) where
  abbrev n : ℕ
  n = number_of bytes

  r : Record bytes
  r = record_from bytes long small

  high : word_at bytes 0 ≡ n / 2 ^ 160 % 2 ^ 32
  high = word_is bytes 0 r (omega arith)

  low : word_at bytes 4 ≡ n / 2 ^ 128 % 2 ^ 32
  low = word_is bytes 4 r (omega arith)

  pub kind_is : word_at bytes 0 / 2 ^ 28 ≡ get_or (values_in bytes) 0 0
  unfolding values_in
  kind_is = ap (λ (m : ℕ). m / 2 ^ 28) high ∙ field_of (n / 2 ^ 160) 4 28 ∙ ap (λ (m : ℕ). m % 2 ^ 4) (shr-shr n 160 28)

  pub time_is : word_at bytes 0 % 2 ^ 28 * 2 ^ 4 + word_at bytes 4 / 2 ^ 28 ≡ get_or (values_in bytes) 1 0
  unfolding values_in
  time_is =
      let front = ap (λ (m : ℕ). m % 2 ^ 28) high ∙ mod-mod-pow (n / 2 ^ 160) 4 28 ∙ ap (λ (m : ℕ). m % 2 ^ 28) (sym (shr-shr n 156 4)) in
      let back' = ap (λ (m : ℕ). m / 2 ^ 28) low ∙ field_of (n / 2 ^ 128) 4 28 ∙ ap (λ (m : ℕ). m % 2 ^ 4) (shr-shr n 128 28) in
      (λ i. front i * 2 ^ 4 + back' i) ∙ sym (mod-pow-add (n / 2 ^ 156) 28 4)

  pub badge_is : word_at bytes 4 % 2 ^ 28 ≡ get_or (values_in bytes) 2 0
  unfolding values_in
  badge_is = ap (λ (m : ℕ). m % 2 ^ 28) low ∙ mod-mod-pow (n / 2 ^ 128) 4 28

  pub reading_is : (i : ℕ) → i < 4 → word_at bytes (8 + 4 * i) ≡ get_or (values_in bytes) (3 + i) 0
  unfolding values_in
  reading_is zero h = word_is bytes 8 r (omega arith)
  reading_is (suc zero) h = word_is bytes 12 r (omega arith)
  reading_is (suc (suc zero)) h = word_is bytes 16 r (omega arith)
  reading_is (suc (suc (suc zero))) h = word_is bytes 20 r (omega arith)
  reading_is (suc (suc (suc (suc i)))) h = absurd (omega (arith, h))

-- how the code casts
pub cast_is : (n : ℕ) → n < 2 ^ 32 → to_z w32 n ≡ signed_32 n
cast_is n h =
    ⊎_elim (λ (l : n < 2 ^ 31). to_z_pos w32 n l ∙ sym (signed_low n l))
    (λ (g : 2 ^ 31 ≤ n).
    ap (to_z w32) (omega arith) ∙ to_z-of_z w32 (negsuc (2 ^ 32 - 1 - n)) (record { sfits = omega arith }) ∙ sym (signed_high n g h)) (cases_lt n (2 ^ 31))

-- a badge that was made has the number that was given
pub badge_number : (given made : ℕ) → Ok made ≡ badge_answer given → made ≡ given
badge_number given made e =
    cond_both (leb given 268435455) (Ok given) (Err Badge) (λ (r : Result ℕ Refusal). Ok made ≡ r → made ≡ given)
    (λ _ same. cc) (λ _ other. let z : ◌≡◌ {A = ℕ} 0 1 = cc in absurd (omega arith)) e
