-- The fault that comes first is the least. Assumes nothing.
use Rattle.std.proofs.Common.{◌≡◌, ℕ, zero, suc, ◌-◌, ◌<◌, ◌≤◌, List, [], ◌∷◌, length, Some, None, Ok, Err, Option, sym, refl, ap, ◌∙◌, inl, inr, ⊎_elim, arith}
use Rattle.letters.proofs.Scanning.{Shorter, shorter_cut, blanks_shorter}
use Rattle.letters.specs.Faults.{number_of, place_of, NoLater, Judged, small, judged_at, judged, first_fault, letters_answer, LettersLaw}
use Rattle.letters.specs.Numbers.{number_value}
use Rattle.letters.specs.Tokens.{Tok, Cut, Placed, after_cut, token_at, past_blanks, tokens_by, tokens_of}
use Rattle.letters.specs.Tokens.Tok.{word, number, mark, stray}
use Rattle.letters.specs.declared.fault.LetterFault.{LetterFault}
use Rattle.letters.specs.declared.fault.LetterFault.TheVariants.{StrayByte, LongNumber, LongText}
use Rattle.std.proofs.ByRecursion.{All-weaker, has_get_or, has_append_right}
use Rattle.std.proofs.lemmas.Bool.{cond-true, cond-false, lt-ltb, le-ltb, cases_lt}
use Rattle.std.specs.Result.{result_and}
use Rattle.std.specs.List.{ContainsAt, AllByRecursion}

-- a fault of a token stands at the token
small_place : (p : ℕ) (o : Option ℕ) (g : LetterFault) → small p o ≡ Err g → place_of g ≡ p
small_place p None g e = let f : LongNumber p ≡ g = cc in sym (ap place_of f)
small_place p (Some v) g e = let z : ◌≡◌ {A = ℕ} 0 1 = cc in absurd (omega arith)

place_is : (t : Tok) (p : ℕ) (g : LetterFault) → judged_at t p ≡ Err g → place_of g ≡ p
place_is (word w) p g e = let z : ◌≡◌ {A = ℕ} 0 1 = cc in absurd (omega arith)
place_is (number ds) p g e = small_place p (number_value ds) g e
place_is (mark s) p g e = let z : ◌≡◌ {A = ℕ} 0 1 = cc in absurd (omega arith)
place_is (stray b) p g e = let f : StrayByte p ≡ g = cc in sym (ap place_of f)

-- each token stands before those that follow it
abbrev Ascends : List Placed → Type 0
Ascends [] = Unit {0}
Ascends (t ∷ ts) = AllByRecursion (λ u. t.1 < u.1) ts × Ascends ts

-- the tokens of what is left stand where it begins, or later
from_cut : (end whole left : ℕ) (c : Cut) → Shorter left c → left ≤ whole → (more : List ℕ → List Placed) →
    ((rest : List ℕ) → AllByRecursion (λ u. end - length rest ≤ u.1) (more rest)) → AllByRecursion (λ u. end - whole ≤ u.1) (after_cut end left c more)
from_cut end whole left None h l more begins = tt
from_cut end whole left (Some c) h l more begins =
    (omega arith, All-weaker (λ (u : Placed). end - length c.1 ≤ u.1) (λ (u : Placed). end - whole ≤ u.1) (λ u k. omega arith) (more c.1) (begins c.1))

from_place : (n end : ℕ) (bs : List ℕ) → AllByRecursion (λ u. end - length bs ≤ u.1) (tokens_by n end bs)
from_place zero end bs = tt
from_place (suc n) end bs =
    from_cut end (length bs) (length (past_blanks bs)) (token_at (past_blanks bs)) (shorter_cut (past_blanks bs)) (blanks_shorter bs) (tokens_by n end) (from_place n end)

ascends_cut : (end left : ℕ) (c : Cut) → Shorter left c → left ≤ end → (more : List ℕ → List Placed) →
    ((rest : List ℕ) → AllByRecursion (λ u. end - length rest ≤ u.1) (more rest)) → ((rest : List ℕ) → length rest < left → Ascends (more rest)) → Ascends (after_cut end left c more)
ascends_cut end left None h l more begins rises = tt
ascends_cut end left (Some c) h l more begins rises =
    (All-weaker (λ (u : Placed). end - length c.1 ≤ u.1) (λ (u : Placed). end - left < u.1) (λ u k. omega arith) (more c.1) (begins c.1), rises c.1 h)

ascends : (n end : ℕ) (bs : List ℕ) → length bs ≤ end → Ascends (tokens_by n end bs)
ascends zero end bs l = tt
ascends (suc n) end bs l =
    let less = blanks_shorter bs in
    ascends_cut end (length (past_blanks bs)) (token_at (past_blanks bs)) (shorter_cut (past_blanks bs)) (omega arith) (tokens_by n end) (from_place n end)
    (λ rest h. ascends n end rest (omega arith))

never : (f : LetterFault) → ◌≡◌ {A = Judged} (Ok tt) (Err f) → ⊥
never f e = let z : ◌≡◌ {A = ℕ} 0 1 = cc in omega arith

-- by what the first token is judged to be
clean_by : (j : Judged) (u : Placed) (ts : List Placed) → judged u ≡ j → result_and j (first_fault ts) ≡ Ok tt →
    (first_fault ts ≡ Ok tt → AllByRecursion (λ t. judged t ≡ Ok tt) ts) → AllByRecursion (λ t. judged t ≡ Ok tt) (u ∷ ts)
clean_by (Ok x) u ts is e rest = (is, rest e)
clean_by (Err f) u ts is e rest = absurd (never f (sym e))

clean : (ts : List Placed) → first_fault ts ≡ Ok tt → AllByRecursion (λ t. judged t ≡ Ok tt) ts
clean [] e = tt
clean (u ∷ ts) e = clean_by (judged u) u ts refl e (clean ts)

cleared : (ts : List Placed) → AllByRecursion (λ t. judged t ≡ Ok tt) ts → first_fault ts ≡ Ok tt
cleared [] a = refl
cleared (u ∷ ts) a = ap (λ (j : Judged). result_and j (first_fault ts)) a.0 ∙ cleared ts a.1

abbrev SomeFault : List Placed → LetterFault → Type 0
SomeFault ts f = (t : Placed) × ContainsAt ts t × (judged t ≡ Err f)

some_by : (j : Judged) (u : Placed) (ts : List Placed) (f : LetterFault) → judged u ≡ j → result_and j (first_fault ts) ≡ Err f →
    (first_fault ts ≡ Err f → SomeFault ts f) → SomeFault (u ∷ ts) f
some_by (Ok x) u ts f is e rest = let r = rest e in (r.0, has_append_right (u ∷ []) ts r.0 r.1, r.2)
some_by (Err g) u ts f is e rest = (u, has_get_or (u ∷ ts) 0 u (omega arith), is ∙ e)

some : (ts : List Placed) (f : LetterFault) → first_fault ts ≡ Err f → SomeFault ts f
some [] f e = absurd (never f e)
some (u ∷ ts) f e = some_by (judged u) u ts f refl e (some ts f)

abbrev Later : LetterFault → Placed → Type 0
Later f t = (g : LetterFault) → judged t ≡ Err g → NoLater f g

same_fault : (f g : LetterFault) → ◌≡◌ {A = Judged} (Err f) (Err g) → NoLater f g
same_fault f g e = let same : f ≡ g = cc in inr (ap place_of same, omega (arith, ap number_of same))

least_by : (j : Judged) (u : Placed) (ts : List Placed) (f : LetterFault) → judged u ≡ j → AllByRecursion (λ t. u.1 < t.1) ts → result_and j (first_fault ts) ≡ Err f →
    (first_fault ts ≡ Err f → AllByRecursion (Later f) ts) → AllByRecursion (Later f) (u ∷ ts)
least_by (Ok x) u ts f is after e rest = ((λ g no. absurd (never g (sym is ∙ no))), rest e)
least_by (Err h) u ts f is after e rest =
    let here : place_of f ≡ u.1 = place_is u.0 u.1 f (is ∙ e) in (
      (λ g same. same_fault f g (sym (is ∙ e) ∙ same)),
      All-weaker (λ (t : Placed). u.1 < t.1) (Later f) (λ t k g same. let there = place_is t.0 t.1 g same in inl (omega arith)) ts after,
    )

least : (ts : List Placed) → Ascends ts → (f : LetterFault) → first_fault ts ≡ Err f → AllByRecursion (Later f) ts
least [] a f e = tt
least (u ∷ ts) a f e = least_by (judged u) u ts f refl a.0 e (least ts a.1 f)

-- a text that is not too long is judged by its tokens
by_tokens : (text : List ℕ) → length text ≤ 4096 → letters_answer text ≡ first_fault (tokens_of (length text) text)
by_tokens text short = cond-false _ _ _ (le-ltb 4096 (length text) short)

too_long : (text : List ℕ) → 4096 < length text → letters_answer text ≡ Err LongText
too_long text long = cond-true _ _ _ (lt-ltb 4096 (length text) long)

pub letters_law : (text : List ℕ) → LettersLaw text
letters_law text = record {
  long = too_long text;
  clean = λ e. ⊎_elim (λ (long : 4096 < length text). absurd (never LongText (sym e ∙ too_long text long))) (λ (short : length text ≤ 4096). (short, clean _ (sym (by_tokens text short) ∙ e))) (cases_lt 4096 (length text));
  cleared = λ short a. by_tokens text short ∙ cleared _ a;
  some = λ f short e. some _ f (sym (by_tokens text short) ∙ e);
  least = λ f short e. least _ (ascends (length text) (length text) text (omega arith)) f (sym (by_tokens text short) ∙ e);
}
