-- Rooms of a fixed size. Assumes nothing.
use Rattle.std.proofs.lemmas.Bool.Decides.{nat_tests}
use Rattle.std.proofs.Common.{◌≡◌, ℕ, suc, ◌+◌, ◌-◌, ◌<◌, ◌≤◌, min, eqb, List, [], ◌∷◌, ◌++◌, length, set, replicate, sym, refl, ap, ◌∙◌, append_assoc, append-nil, arith, length-append}
use Rattle.sense.specs.Drafted.{kept_with, one_more}
use Rattle.sense.specs.Meaning.{laid}
use Rattle.std.proofs.lemmas.List.{set_at, length_push}
use Rattle.std.proofs.lemmas.Bool.{cond-true, lt-ltb}

-- counting up to n, and no further
pub one_more_min : (n i : ℕ) → one_more n (min n i) ≡ min n (i + 1)
one_more_min n i = grind (arith, nat_tests)

-- counting up to one more than n tells whether there are n
pub eqb_min : (n a b : ℕ) → a ≡ min (n + 1) b → eqb a n ≡ eqb b n
eqb_min n a b e = grind (arith, nat_tests)

-- one more in a room with a free place
pub kept_laid : {X : Type 0} (n : ℕ) (x : X) (xs : List X) (y : X) → length xs < n → kept_with n (laid n x xs) (length xs) y ≡ laid n x (xs ++ (y ∷ []))
kept_laid n x xs y h =
    let free : n - length xs ≡ suc (n - length (xs ++ (y ∷ []))) = simp length-append (omega arith) in
    cond-true _ _ _ (lt-ltb (length xs) n h) ∙ ap (λ (k : ℕ). set (xs ++ replicate k x) (length xs) y) free ∙
    set_at xs x (replicate (n - length (xs ++ (y ∷ []))) x) y (length xs) refl ∙ sym (append_assoc xs (y ∷ []) (replicate (n - length (xs ++ (y ∷ []))) x))

-- a room with some more in it, of which as many places were taken
abbrev pub put : {X : Type 0} → ℕ → List X → ℕ → List X → List X
put n room used [] = room
put n room used (x ∷ xs) = put n (kept_with n room used x) (one_more n used) xs

-- how many places are taken then
abbrev pub taken : {X : Type 0} → ℕ → ℕ → List X → ℕ
taken n used [] = used
taken n used (x ∷ xs) = taken n (one_more n used) xs

pub put_append : {X : Type 0} (n : ℕ) (room : List X) (used : ℕ) (xs ys : List X) → put n room used (xs ++ ys) ≡ put n (put n room used xs) (taken n used xs) ys
put_append n room used [] ys = refl
put_append n room used (x ∷ xs) ys = put_append n (kept_with n room used x) (one_more n used) xs ys

pub taken_append : {X : Type 0} (n used : ℕ) (xs ys : List X) → taken n used (xs ++ ys) ≡ taken n (taken n used xs) ys
taken_append n used [] ys = refl
taken_append n used (x ∷ xs) ys = taken_append n (one_more n used) xs ys

pub one_more_below : (n i : ℕ) → i < n → one_more n i ≡ i + 1
one_more_below n i h = grind (arith, nat_tests)

-- what fits in a room is put behind what stands there
pub put_laid : {X : Type 0} (n : ℕ) (x : X) (xs ys : List X) → length xs + length ys ≤ n → put n (laid n x xs) (length xs) ys ≡ laid n x (xs ++ ys)
put_laid n x xs [] h = ap (laid n x) (sym (append-nil xs))
put_laid n x xs (y ∷ ys) h =
    let less : length xs < n = omega arith in
    let long = length_push xs y in
    (λ i. put n (kept_laid n x xs y less i) ((one_more_below n (length xs) less ∙ sym long) i) ys) ∙ put_laid n x (xs ++ (y ∷ [])) ys (omega arith) ∙ ap (laid n x) (append_assoc xs (y ∷ []) ys)

pub taken_all : {X : Type 0} (n used : ℕ) (xs : List X) → used + length xs ≤ n → taken n used xs ≡ used + length xs
taken_all n used [] h = omega arith
taken_all n used (x ∷ xs) h =
    let less : used < n = omega arith in
    ap (λ (k : ℕ). taken n k xs) (one_more_below n used less) ∙ taken_all n (used + 1) xs (omega arith) ∙ omega arith
