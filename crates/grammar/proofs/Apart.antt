-- Tokens that the grammar tells apart, and what a row of tokens begins with. Assumes nothing.
use Rattle.std.proofs.Common.{◌≡◌, ℕ, Bool, true, false, cond, eqb, List, [], ◌∷◌, ◌++◌, Some, None, Option, sym, refl, ap, ◌∙◌, arith}
use Rattle.grammar.proofs.Readers.{Stops, flag}
use Rattle.grammar.specs.Known.{sign, rank, is_mark, is_word, variable_of, kind_of, number_of, compared, comparison_of}
use Rattle.grammar.specs.Reading.{first_place}
use Rattle.grammar.specs.declared.test.Comparison.{Comparison}
use Rattle.letters.specs.Tokens.{Tok, Placed}
use Rattle.letters.specs.Tokens.Tok.{word, number, mark, stray}
use Rattle.letters.specs.Words.{class_of}
use Rattle.letters.specs.declared.symbol.Symbol.{Symbol}
use Rattle.letters.specs.declared.symbol.Symbol.TheVariants.{Open, Close, Comma, Not, Dot, OpenSquare, CloseSquare, Plus, Minus, Equal, NotEqual, Less, AtMost, Greater, AtLeast}
use Rattle.letters.specs.declared.word.Class.{Class}
use Rattle.letters.specs.declared.word.Class.TheVariants.{Any}
use Rattle.std.proofs.lemmas.Bool.{false≢true, eqb-true}

-- ---- tokens

never : {X : Type 0} (x : X) → ◌≡◌ {A = Option X} None (Some x) → ⊥
never x e = let z : ◌≡◌ {A = ℕ} 0 1 = cc in omega arith

pub other_mark : (s u : Symbol) → eqb (sign s) (sign u) ≡ false → (t : Tok) → is_mark s t ≡ true → is_mark u t ≡ false
other_mark s u h (word w) e = refl
other_mark s u h (number ds) e = refl
other_mark s u h (mark m) e = ap (λ (n : ℕ). eqb n (sign u)) (eqb-true (sign m) (sign s) e) ∙ h
other_mark s u h (stray b) e = refl

pub other_word : (c k : Class) → eqb (rank c) (rank k) ≡ false → (t : Tok) → is_word c t ≡ true → is_word k t ≡ false
other_word c k h (word w) e = ap (λ (n : ℕ). eqb n (rank k)) (eqb-true (rank (class_of w)) (rank c) e) ∙ h
other_word c k h (number ds) e = refl
other_word c k h (mark m) e = refl
other_word c k h (stray b) e = refl

pub mark_word : (s : Symbol) (c : Class) (t : Tok) → is_mark s t ≡ true → is_word c t ≡ false
mark_word s c (word w) e = absurd (false≢true e)
mark_word s c (number ds) e = refl
mark_word s c (mark m) e = refl
mark_word s c (stray b) e = refl

-- what no symbol is known as
pub unmarked : {X : Type 0} (f : Tok → Option X) → ((m : Symbol) → f (mark m) ≡ None) → (s : Symbol) (t : Tok) (x : X) → f t ≡ Some x → is_mark s t ≡ false
unmarked f h s (word w) x e = refl
unmarked f h s (number ds) x e = refl
unmarked f h s (mark m) x e = absurd (never x (sym (h m) ∙ e))
unmarked f h s (stray b) x e = refl

pub word_mark : (c : Class) (s : Symbol) (t : Tok) → is_word c t ≡ true → is_mark s t ≡ false
word_mark c s t e = unmarked (λ u. flag (is_word c u)) (λ m. refl) s t tt (ap flag e)

pub number_variable : (t : Tok) (n : ℕ) → number_of t ≡ Some n → variable_of t ≡ None
number_variable (word w) n e = absurd (never n e)
number_variable (number ds) n e = refl
number_variable (mark m) n e = refl
number_variable (stray b) n e = refl

kind_by : (b : Bool) (w v : List ℕ) → cond b (Some w) None ≡ Some v → b ≡ true
kind_by true w v e = refl
kind_by false w v e = absurd (never v e)

pub kind_any : (t : Tok) (w : List ℕ) → kind_of t ≡ Some w → is_word Any t ≡ false
kind_any (word w) v e = ap (λ (n : ℕ). eqb n 6) (eqb-true (rank (class_of w)) 10 (kind_by _ w v e))
kind_any (number ds) v e = refl
kind_any (mark m) v e = refl
kind_any (stray b) v e = refl

compared_mark : (m : Symbol) (c : Comparison) → compared m ≡ Some c → (is_mark Plus (mark m) ≡ false) × (is_mark Minus (mark m) ≡ false)
compared_mark Open c e = absurd (never c e)
compared_mark Close c e = absurd (never c e)
compared_mark Comma c e = absurd (never c e)
compared_mark Not c e = absurd (never c e)
compared_mark Dot c e = absurd (never c e)
compared_mark OpenSquare c e = absurd (never c e)
compared_mark CloseSquare c e = absurd (never c e)
compared_mark Plus c e = absurd (never c e)
compared_mark Minus c e = absurd (never c e)
compared_mark Equal c e = (refl, refl)
compared_mark NotEqual c e = (refl, refl)
compared_mark Less c e = (refl, refl)
compared_mark AtMost c e = (refl, refl)
compared_mark Greater c e = (refl, refl)
compared_mark AtLeast c e = (refl, refl)

pub comparison_mark : (t : Tok) (c : Comparison) → comparison_of t ≡ Some c → (is_mark Plus t ≡ false) × (is_mark Minus t ≡ false)
comparison_mark (word w) c e = (refl, refl)
comparison_mark (number ds) c e = (refl, refl)
comparison_mark (mark m) c e = compared_mark m c e
comparison_mark (stray b) c e = (refl, refl)

-- ---- rows

-- there is a first token, and it does not pass the test f
abbrev pub Opens : (Tok → Bool) → List Placed → Type 0
Opens f [] = ⊥
Opens f (t ∷ ts) = f t.0 ≡ false

pub opens_more : (f : Tok → Bool) (ts us : List Placed) → Opens f ts → Opens f (ts ++ us)
opens_more f [] us h = absurd h
opens_more f (t ∷ ts) us h = h

pub opens_stops : (f : Tok → Bool) (ts us : List Placed) → Opens f ts → Stops f (ts ++ us)
opens_stops f [] us h = absurd h
opens_stops f (t ∷ ts) us h = h

pub opens_place : (f : Tok → Bool) (ts us : List Placed) → Opens f ts → first_place (ts ++ us) ≡ first_place ts
opens_place f [] us h = absurd h
opens_place f (t ∷ ts) us h = refl
