-- No two kinds share a word, by one test over all words, and so a word names one kind. Assumes nothing.
use Rattle.std.proofs.lemmas.Bool.Decides.{nat_tests}
use Rattle.std.proofs.Common.{◌≡◌, ℕ, zero, suc, ◌+◌, ◌<◌, ◌≤◌, Bool, true, false, cond, List, [], ◌∷◌, map, get_or, Some, None, Decides, Option, sym, refl, ap, ◌∙◌, zero-add, arith}
use Rattle.events.specs.Kind.{words, word_of, same_word, kind_number, has_word, kinds, kind_named, NamedLaw, WordsDiffer}
use Rattle.std.proofs.lemmas.List.FromFn.{get_or-range_with_len}
use Rattle.std.proofs.lemmas.Slice.Eq.{bytes_eq-Decides}
use Rattle.std.proofs.lemmas.List.{get_or-map}
use Rattle.std.proofs.lemmas.Bool.{both_ways, cond-true, lt-ltb, ltb-true}
use Rattle.std.proofs.lemmas.Option.{same_Some, cond_some}
use Rattle.std.specs.List.{find, range_with_len}
use Rattle.std.specs.Option.{option_map}
use Rattle.std.specs.Str.{bytes_eq}

-- the first place of a word in a list
abbrev place : List ℕ → List (List ℕ) → ℕ
place w [] = 0
place w (v ∷ vs) = cond (bytes_eq w v) 0 (suc (place w vs))

-- each word's first place is its own
own_places : map (λ w. place w words) words ≡ range_with_len 0 16
own_places = refl

own_place : (i : ℕ) → i < 16 → place (get_or words i []) words ≡ i
own_place i h =
    sym (get_or-map (λ w. place w words) words i [] 0 h) ∙ ap (λ (l : List ℕ). get_or l i 0) own_places ∙ get_or-range_with_len 0 16 i 0 h ∙ zero-add i

word_at : (i : ℕ) → i < 16 → word_of i ≡ Some (get_or words i [])
word_at i h = cond-true _ _ _ (lt-ltb i 16 h)

pub words_differ : WordsDiffer
words_differ i j hi hj e =
    let same = same_Some _ _ (sym (word_at i hi) ∙ e ∙ word_at j hj) in
    sym (own_place i hi) ∙ ap (λ (w : List ℕ). place w words) same ∙ own_place j hj

same_decides : (own : Option (List ℕ)) (w : List ℕ) → Decides (same_word own w) (own ≡ Some w)
same_decides None w = (λ t. absurd (both_ways false refl t), λ e. cc)
same_decides (Some own) w = (λ t. cc ((bytes_eq-Decides own w).0 t), λ e. (bytes_eq-Decides own w).1 (same_Some own w e))

has_decides : (kind : ℕ) (w : List ℕ) → Decides (has_word kind w) (word_of kind ≡ Some w)
has_decides kind w = same_decides (word_of kind) w

-- what is found passes the test
found_passes : {X : Type 0} (test : X → Bool) (xs : List X) (x : X) → find test xs ≡ Some x → test x ≡ true
found_passes test [] x e = cc
found_passes test (y ∷ ys) x e = grind (arith, nat_tests, found_passes test ys x)

-- the one number of a range that passes the test is found
only_found : (test : ℕ → Bool) (n left k : ℕ) → n ≤ k → k < n + left → test k ≡ true → ((i : ℕ) → i < n + left → test i ≡ true → i ≡ k) → find test (range_with_len n left) ≡ Some k
only_found test n zero k from to t only = absurd (omega arith)
only_found test n (suc left) k from to t only =
    let rest : n < k → find test (range_with_len (n + 1) left) ≡ Some k = λ h. only_found test (n + 1) left k (omega arith) (omega arith) t (λ i h. only i (omega arith)) in
    grind (arith, nat_tests, rest, only n)

below_16 : (k : ℕ) (w : List ℕ) → word_of k ≡ Some w → k < 16
below_16 k w e = ltb-true _ _ (cond_some _ _ _ e).0

-- an element is found by the number that it has
number_found : {X : Type 0} (number : X → ℕ) (test : ℕ → Bool) (xs : List X) → option_map number (find (λ x. test (number x)) xs) ≡ find test (map number xs)
number_found number test [] = refl
number_found number test (x ∷ xs) = grind (arith, nat_tests, number_found number test xs)

-- the number of a kind that is found is the first that has the word
named_is : (w : List ℕ) → kind_named w ≡ find (λ kind. has_word kind w) (range_with_len 0 16)
named_is w = number_found kind_number (λ kind. has_word kind w) kinds

pub named_law : (w : List ℕ) → NamedLaw w
named_law w = record {
  found = λ k e. (has_decides k w).0 (found_passes (λ kind. has_word kind w) (range_with_len 0 16) k (sym (named_is w) ∙ e));
  finds = λ k e.
      let h = below_16 k w e in
      named_is w ∙
      only_found (λ kind. has_word kind w) 0 16 k (omega arith) h ((has_decides k w).1 e)
      (λ i below t. words_differ i k below h ((has_decides i w).0 t ∙ sym e));
}
