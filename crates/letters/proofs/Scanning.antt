-- A text's tokens, one after another. Assumes nothing.
use Rattle.std.proofs.Common.{◌≡◌, ℕ, zero, suc, ◌+◌, ◌-◌, ◌<◌, ◌≤◌, Bool, true, false, List, [], ◌∷◌, length, get_or, take, drop, Some, None, sym, refl, ap, ◌∙◌, subst, ⊎_elim, one-add, arith, length-drop}
use Rattle.letters.specs.Bytes.{is_digit, is_letter, is_word, is_blank, Tests, SplitWhile}
use Rattle.letters.specs.Symbols.{Found, symbol_at, one_byte, two_bytes, takes_equal, equal_next}
use Rattle.letters.specs.Tokens.{Tok, Cut, with_place, token_seen, seen, left, end_of, ahead, Cuts, marked, token_at, Placed, after_cut, past_blanks, tokens_by, tokens_of}
use Rattle.letters.specs.Tokens.Tok.{word, number, stray}
use Rattle.letters.specs.declared.token.Spanned.{Spanned}
use Rattle.std.specs.Borrow.{Bor}
use Rattle.letters.specs.declared.token.Tokens.{Tokens}
use Rattle.std.proofs.lemmas.List.{take_rest}
use Rattle.std.proofs.lemmas.Bool.{cond-true, cond-false, cond_both, false≢true, and_parts, or_right, cases_Bool}
use Rattle.std.specs.List.{prefix_len}

-- the first byte alone, where nothing else stands at the front
pub stray_at : (xs : List ℕ) → 1 ≤ length xs → is_digit (get_or xs 0 0) ≡ false → is_letter (get_or xs 0 0) ≡ false → symbol_at xs ≡ None →
    Some (stray (get_or xs 0 0), take (length xs - 1) (drop 1 xs)) ≡ token_at xs
stray_at [] some no_digit no_word no_symbol = absurd (omega arith)
stray_at (b ∷ bs) some no_digit no_word no_symbol =
    sym (cond-false _ _ _ no_digit ∙ cond-false _ _ _ no_word ∙ ap (marked b bs) no_symbol ∙ ap (λ (l : List ℕ). Some (stray b, l)) (sym (take_rest (b ∷ bs) 1)))

-- a run of digits, and a run of letters and digits
pub number_at : {gives : ℕ → Bool → Type 0} (xs front back : List ℕ) → SplitWhile gives xs front back → 1 ≤ length xs → is_digit (get_or xs 0 0) ≡ true →
    Tests gives is_digit → Some (number front, back) ≡ token_at xs
number_at [] front back split some digit tests = absurd (omega arith)
number_at (b ∷ bs) front back split some digit tests =
    (λ i. Some (number (split.front is_digit tests i), split.back is_digit tests i)) ∙ sym (cond-true _ _ _ digit)

pub word_at : {gives : ℕ → Bool → Type 0} (xs front back : List ℕ) → SplitWhile gives xs front back → 1 ≤ length xs → is_digit (get_or xs 0 0) ≡ false →
    is_letter (get_or xs 0 0) ≡ true → Tests gives is_word → Some (word front, back) ≡ token_at xs
word_at [] front back split some no_digit letter tests = absurd (omega arith)
word_at (b ∷ bs) front back split some no_digit letter tests =
    (λ i. Some (word (split.front is_word tests i), split.back is_word tests i)) ∙ sym (cond-false _ _ _ no_digit ∙ cond-true _ _ _ letter)

pub past_is : {gives : ℕ → Bool → Type 0} (xs front back : List ℕ) → SplitWhile gives xs front back → Tests gives is_blank → back ≡ past_blanks xs
past_is xs front back split tests = split.back is_blank tests

-- what follows a token is shorter than n
abbrev pub Shorter : ℕ → Cut → Type 0
Shorter n None = Unit {0}
Shorter n (Some c) = length c.1 < n

run_shorter : (p : ℕ → Bool) (b : ℕ) (bs : List ℕ) → p b ≡ true → length (drop (prefix_len p (b ∷ bs)) (b ∷ bs)) < length (b ∷ bs)
run_shorter p b bs e = rw (length-drop, cond-true (p b) (1 + prefix_len p bs) 0 e) (omega arith)

one_shorter : (b : ℕ) (bs : List ℕ) → Shorter (length (b ∷ bs)) (marked b bs (one_byte b bs))
one_shorter b bs = search arith

two_shorter : (b : ℕ) (bs : List ℕ) → equal_next bs ≡ true → Shorter (length (b ∷ bs)) (marked b bs (two_bytes b (drop 1 bs)))
two_shorter b [] e = absurd (false≢true e)
two_shorter b (c ∷ bs) e = search arith

pub shorter_cut : (xs : List ℕ) → Shorter (length xs) (token_at xs)
shorter_cut [] = tt
shorter_cut (b ∷ bs) =
    cond_both (is_digit b) _ _ (Shorter (length (b ∷ bs))) (λ e. run_shorter is_digit b bs e)
    (λ _. cond_both (is_letter b) _ _ (Shorter (length (b ∷ bs))) (λ e. run_shorter is_word b bs (or_right (is_digit b) (is_letter b) e))
    (λ _. cond_both _ _ _ (λ (f : Found). Shorter (length (b ∷ bs)) (marked b bs f)) (λ e. two_shorter b bs (and_parts (takes_equal b) (equal_next bs) e).1) (λ _. one_shorter b bs)))

pub shorter : (xs : List ℕ) (t : Tok) (after : List ℕ) → token_at xs ≡ Some (t, after) → length after < length xs
shorter xs t after is = subst (Shorter (length xs)) is (shorter_cut xs)

pub blanks_shorter : (bs : List ℕ) → length (past_blanks bs) ≤ length bs
blanks_shorter bs = simp length-drop (omega arith)

next_shorter : (bs : List ℕ) (t : Tok) (after : List ℕ) → token_at (past_blanks bs) ≡ Some (t, after) → length after < length bs
next_shorter bs t after is = let a = shorter (past_blanks bs) t after is in let b = blanks_shorter bs in omega arith

after_same : (end left : ℕ) (c : Cut) (n : ℕ) (f g : List ℕ → List Placed) → Shorter n c → ((rest : List ℕ) → length rest < n → f rest ≡ g rest) → after_cut end left c f ≡ after_cut end left c g
after_same end left None n f g h same = refl
after_same end left (Some c) n f g h same = ap (λ (l : List Placed). (c.0, end - left) ∷ l) (same c.1 h)

-- more turns than there are bytes change nothing
enough : (n m end : ℕ) (bs : List ℕ) → length bs ≤ n → length bs ≤ m → tokens_by n end bs ≡ tokens_by m end bs
enough zero zero end bs h k = refl
enough zero (suc m) end [] h k = refl
enough zero (suc m) end (b ∷ bs) h k = absurd (omega arith)
enough (suc n) zero end [] h k = refl
enough (suc n) zero end (b ∷ bs) h k = absurd (omega arith)
enough (suc n) (suc m) end bs h k =
    let less = blanks_shorter bs in
    after_same end (length (past_blanks bs)) (token_at (past_blanks bs)) (length (past_blanks bs)) (tokens_by n end) (tokens_by m end)
    (shorter_cut (past_blanks bs)) (λ rest l. enough n m end rest (omega arith) (omega arith))

-- one turn more than there are bytes
one_turn : (end : ℕ) (bs : List ℕ) → tokens_of end bs ≡ after_cut end (length (past_blanks bs)) (token_at (past_blanks bs)) (tokens_by (length bs) end)
one_turn end bs = enough (length bs) (suc (length bs)) end bs (omega arith) (omega arith)

tokens_none : (end : ℕ) (bs : List ℕ) → token_at (past_blanks bs) ≡ None → tokens_of end bs ≡ []
tokens_none end bs is = one_turn end bs ∙ ap (λ (c : Cut). after_cut end (length (past_blanks bs)) c (tokens_by (length bs) end)) is

tokens_next : (end : ℕ) (bs : List ℕ) (t : Tok) (after : List ℕ) → token_at (past_blanks bs) ≡ Some (t, after) →
    tokens_of end bs ≡ (t, end - length (past_blanks bs)) ∷ tokens_of end after
tokens_next end bs t after is =
    let less = next_shorter bs t after is in
    one_turn end bs ∙ ap (λ (c : Cut). after_cut end (length (past_blanks bs)) c (tokens_by (length bs) end)) is ∙
    ap (λ (l : List Placed). (t, end - length (past_blanks bs)) ∷ l) (enough (length bs) (length after) end after (omega arith) (omega arith))

-- blanks at the front do not matter
pub bare : (bs : List ℕ) → prefix_len is_blank (past_blanks bs) ≡ 0
bare [] = refl
bare (b ∷ bs) =
    ⊎_elim
    (λ (yes_blank : is_blank b ≡ true).
    ap (λ (n : ℕ). prefix_len is_blank (drop n (b ∷ bs))) (cond-true (is_blank b) (1 + prefix_len is_blank bs) 0 yes_blank ∙ one-add (prefix_len is_blank bs)) ∙ bare bs)
    (λ (no_blank : is_blank b ≡ false).
    ap (λ (n : ℕ). prefix_len is_blank (drop n (b ∷ bs))) (cond-false (is_blank b) (1 + prefix_len is_blank bs) 0 no_blank) ∙ cond-false (is_blank b) _ _ no_blank)
    (cases_Bool (is_blank b))

stays : (bs : List ℕ) → prefix_len is_blank bs ≡ 0 → past_blanks bs ≡ bs
stays bs e = ap (λ (n : ℕ). drop n bs) e

pub same_tokens : (end : ℕ) (bs : List ℕ) → tokens_of end (past_blanks bs) ≡ tokens_of end bs
same_tokens end bs =
    let less = blanks_shorter bs in
    let again = stays (past_blanks bs) (bare bs) in
    one_turn end (past_blanks bs) ∙ (λ i. after_cut end (length (again i)) (token_at (again i)) (tokens_by (length (past_blanks bs)) end)) ∙
    after_same end (length (past_blanks bs)) (token_at (past_blanks bs)) (length (past_blanks bs)) (tokens_by (length (past_blanks bs)) end) (tokens_by (length bs) end)
    (shorter_cut (past_blanks bs)) (λ rest l. enough (length (past_blanks bs)) (length bs) end rest (omega arith) (omega arith)) ∙ sym (one_turn end bs)

-- where no blank is in front
pub tokens_here : (end : ℕ) (bs : List ℕ) (t : Tok) (after : List ℕ) → prefix_len is_blank bs ≡ 0 → token_at bs ≡ Some (t, after) →
    (t, end - length bs) ∷ tokens_of end after ≡ tokens_of end bs
tokens_here end bs t after bare' is =
    let same = stays bs bare' in
    sym (tokens_next end bs t after (ap token_at same ∙ is) ∙ ap (λ (l : List ℕ). (t, end - length l) ∷ tokens_of end after) same)

pub none_here : (end : ℕ) (bs : List ℕ) → prefix_len is_blank bs ≡ 0 → token_at bs ≡ None → [] ≡ tokens_of end bs
none_here end bs bare' is = sym (tokens_none end bs (ap token_at (stays bs bare') ∙ is))

-- what a reader's first token is, and that there is none
bare_text : (bs text : List ℕ) → text ≡ past_blanks bs → prefix_len is_blank text ≡ 0
bare_text bs text blanks = ap (prefix_len is_blank) blanks ∙ bare bs

same_text : (end : ℕ) (bs text : List ℕ) → text ≡ past_blanks bs → tokens_of end text ≡ tokens_of end bs
same_text end bs text blanks = ap (tokens_of end) blanks ∙ same_tokens end bs

pub cut_is : (s : Tokens) (text : List ℕ) (given : Spanned) (after : Bor (List ℕ)) (behind : Tokens) → given.place ≡ end_of s - length text → text ≡ past_blanks (left s) →
    token_seen (Some (given.token, after)) ≡ token_at text → left behind ≡ after.now → end_of behind ≡ end_of s → Cuts s (Some (given, behind))
unfolding ahead
cut_is s text given after behind at blanks is rest same =
    let t = seen given.token in
    record {
      value = (λ i. Some ((t, at i), rest i)) ∙ ap (with_place (end_of s) (length text)) is ∙
          ap (λ (bs : List ℕ). with_place (end_of s) (length bs) (token_at bs)) blanks;
      tokens = (λ i. (t, at i) ∷ tokens_of (same i) (rest i)) ∙ tokens_here (end_of s) text t after.now (bare_text (left s) text blanks) (sym is) ∙
          same_text (end_of s) (left s) text blanks;
      end = same;
      shorter = omega (arith, shorter text t after.now (sym is), ap length rest, ap length blanks, blanks_shorter (left s));
    }

pub no_cut : (s : Tokens) (text : List ℕ) → token_seen None ≡ token_at text → text ≡ past_blanks (left s) → Cuts s None
unfolding ahead
no_cut s text is blanks = record {
  value = ap (with_place (end_of s) (length text)) is ∙ ap (λ (bs : List ℕ). with_place (end_of s) (length bs) (token_at bs)) blanks;
  tokens = none_here (end_of s) text (bare_text (left s) text blanks) (sym is) ∙ same_text (end_of s) (left s) text blanks;
  end = tt;
  shorter = tt;
}
