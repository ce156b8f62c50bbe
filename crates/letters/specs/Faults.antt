-- Faults in the letters of a query text. Assumes nothing.
use Rattle.std.specs.Prelude.{◌≡◌, ℕ, ◌<◌, ◌≤◌, cond, ◌⊎◌, List, [], ◌∷◌, length, Some, None, Ok, Err, Option, Result, nat_lt}
use Rattle.letters.specs.Numbers.{number_value}
use Rattle.letters.specs.Tokens.{Tok, Placed, tokens_of}
use Rattle.letters.specs.Tokens.Tok.{word, number, mark, stray}
use Rattle.letters.specs.declared.fault.LetterFault.{LetterFault}
use Rattle.letters.specs.declared.fault.LetterFault.TheVariants.{StrayByte, LongNumber, LongText}
use Rattle.std.specs.Result.{result_and}
use Rattle.std.specs.List.{ContainsAt, AllByRecursion}

abbrev pub number_of : LetterFault → ℕ
number_of (StrayByte p) = 1
number_of (LongNumber p) = 2
number_of LongText = 3

abbrev pub place_of : LetterFault → ℕ
place_of (StrayByte p) = p
place_of (LongNumber p) = p
place_of LongText = 4096

-- no fault, or one
abbrev pub Judged : Type 0
Judged = Result (Unit {0}) LetterFault

-- a number is judged by its value
abbrev pub small : ℕ → Option ℕ → Judged
small p None = Err (LongNumber p)
small p (Some v) = Ok tt

-- a token at the place p
abbrev pub judged_at : Tok → ℕ → Judged
judged_at (word bytes) p = Ok tt
judged_at (number digits) p = small p (number_value digits)
judged_at (mark symbol) p = Ok tt
judged_at (stray b) p = Err (StrayByte p)

abbrev pub judged : Placed → Judged
judged t = judged_at t.0 t.1

-- the fault of the first token that has one
abbrev pub first_fault : List Placed → Judged
first_fault [] = Ok tt
first_fault (t ∷ ts) = result_and (judged t) (first_fault ts)

-- the length is judged first
abbrev pub letters_answer : List ℕ → Judged
letters_answer text = cond (nat_lt 4096 (length text)) (Err LongText) (first_fault (tokens_of (length text) text))

-- one fault is no later than another: it has the smaller place, or the same place and no larger number
abbrev pub NoLater : LetterFault → LetterFault → Type 0
NoLater f g = (place_of f < place_of g) ⊎ ((place_of f ≡ place_of g) × (number_of f ≤ number_of g))

-- What the answer for a text means. A text that is too long has that fault. Of any other, no fault is answered exactly where no token
-- has one; and a fault that is answered is a token's, and no later than that of any token.
pub record LettersLaw (text : List ℕ) : Type 0 where
  pub long : 4096 < length text → letters_answer text ≡ Err LongText
  pub clean : letters_answer text ≡ Ok tt → (length text ≤ 4096) × AllByRecursion (λ t. judged t ≡ Ok tt) (tokens_of (length text) text)
  pub cleared : length text ≤ 4096 → AllByRecursion (λ t. judged t ≡ Ok tt) (tokens_of (length text) text) → letters_answer text ≡ Ok tt
  pub some : (f : LetterFault) → length text ≤ 4096 → letters_answer text ≡ Err f → (t : Placed) × ContainsAt (tokens_of (length text) text) t × (judged t ≡ Err f)
  pub least : (f : LetterFault) → length text ≤ 4096 → letters_answer text ≡ Err f →
      AllByRecursion (λ t. (g : LetterFault) → judged t ≡ Err g → NoLater f g) (tokens_of (length text) text)
