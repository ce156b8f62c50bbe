-- Names: which spellings are names, and when two spellings are one name. Assumes nothing.
use Rattle.std.specs.Prelude.{◌≡◌, ℕ, ◌≤◌, ◌%◌, Bool, true, cond, not, ◌&&◌, List, [], ◌∷◌, ◌++◌, length, Some, None, Ok, Err, IsUtf8, sum, Option, Result, nat_eq, nat_le}
use Rattle.keys.specs.Letters.{table, found}
use Rattle.keys.specs.declared.letters.Letter.{Letter}
use Rattle.refusals.specs.declared.Refusal.{Refusal}
use Rattle.refusals.specs.declared.Refusal.TheVariants.{NameLength, CodePoint}
use Rattle.std.specs.Cmp.Lexicographic.{pointwise}
use Rattle.std.specs.List.{ContainsAt, flat_map, list_all}
use Rattle.std.specs.Str.{chars}

-- a name may have every code point but the surrogates
abbrev pub allowed : ℕ → Bool
allowed c = nat_le c 0x10FFFF && not (nat_le 0xD800 c && nat_le c 0xDFFF)

abbrev pub all_allowed : List ℕ → Bool
all_allowed cs = list_all allowed cs

-- what each spelling of a name is: 1 to 24 allowed code points
abbrev pub IsName : List ℕ → Type 0
IsName cs = (1 ≤ length cs) × (length cs ≤ 24) × (all_allowed cs ≡ true)

-- 1 to 24 allowed code points make a name that keeps them; the length is judged first
abbrev pub name_answer : List ℕ → Result (List ℕ) Refusal
name_answer cs = cond (nat_le 1 (length cs) && nat_le (length cs) 24) (cond (all_allowed cs) (Ok cs) (Err CodePoint)) (Err NameLength)

-- what stands in an identity for a code point: base and mark for a letter of the table, else the code point itself
abbrev pub parts_of : Option Letter → ℕ → List ℕ
parts_of None c = c ∷ []
parts_of (Some l) c = l.base ∷ l.mark ∷ []

abbrev pub parts : ℕ → List ℕ
parts c = parts_of (found table c) c

-- the identity of a spelling: one code point after the other is taken apart
abbrev pub identity_of : List ℕ → List ℕ
identity_of cs = flat_map parts cs

-- the shelf of a spelling
abbrev pub shelf_of : List ℕ → ℕ
shelf_of cs = sum (identity_of cs) % 16

-- the test of equal lists
abbrev pub same_points : List ℕ → List ℕ → Bool
same_points xs ys = pointwise nat_eq xs ys

-- One spelling is turned into the other by writing letters of the table as base and mark, or back, anywhere and as often
-- as wanted.
pub data Respelled : List ℕ → List ℕ → Type 0 where
  apart : (front back : List ℕ) (l : Letter) → ContainsAt table l → Respelled (front ++ (l.composed ∷ back)) (front ++ (l.base ∷ (l.mark ∷ back)))
  itself : (xs : List ℕ) → Respelled xs xs
  turned : (xs ys : List ℕ) → Respelled xs ys → Respelled ys xs
  chained : (xs ys zs : List ℕ) → Respelled xs ys → Respelled ys zs → Respelled xs zs

-- that is exactly when two spellings have one identity
abbrev pub OneName : Type 0
OneName = (xs ys : List ℕ) → (Respelled xs ys → identity_of xs ≡ identity_of ys) × (identity_of xs ≡ identity_of ys → Respelled xs ys)

-- e with acute, as one letter and as two code points, makes names that are the same, on shelf 6
abbrev pub AcuteE : Type 0
AcuteE =
    (name_answer (0xE9 ∷ []) ≡ Ok (0xE9 ∷ [])) × (name_answer (0x65 ∷ 0x301 ∷ []) ≡ Ok (0x65 ∷ 0x301 ∷ []))
    × (same_points (identity_of (0xE9 ∷ [])) (identity_of (0x65 ∷ 0x301 ∷ [])) ≡ true)
    × (shelf_of (0xE9 ∷ []) ≡ 6) × (shelf_of (0x65 ∷ 0x301 ∷ []) ≡ 6)

-- the code points of a text are all allowed
abbrev pub TextsAllowed : Type 0
TextsAllowed = (text : List ℕ) → IsUtf8 text → all_allowed (chars text) ≡ true
