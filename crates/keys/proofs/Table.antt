-- The table's rule, by one test that computes over the table, and what it gives for a search. Assumes nothing.
use Rattle.std.proofs.Common.{◌≡◌, ℕ, zero, suc, ◌<◌, ◌≤◌, Bool, true, not, ◌&&◌, List, [], ◌∷◌, length, get_or, is_some, Some, None, Option, Result, Ok, Err, MatchOption, ◌==◌, ◌≢◌, slice_index_or, refl, ap, sym, ◌∙◌, ⊎_elim, arith}
use Rattle.keys.specs.Letters.{table, letter, found, rises, Ascending, Closed}
use Rattle.keys.specs.declared.letters.Letter.{Letter}
use Rattle.std.specs.List.{list_all, slice_get}
use Rattle.std.specs.List.Sorted.{IsSearchInRange, IsBinarySearchResult, IsNonDecreasingBy}
use Rattle.std.specs.Result.{result_ok}
use Rattle.std.specs.Ordering.{nat_cmp, ordering_index}
use Rattle.std.proofs.lemmas.Bool.{and_parts, ltb-true, ne_eqb, eq-eqb, cases_lt}
use Rattle.std.proofs.lemmas.Bool.Decides.{nat_tests}
use Rattle.std.proofs.lemmas.Cmp.{ranked}
use Rattle.std.proofs.lemmas.List.Folds.{find_at}
use Rattle.std.proofs.lemmas.List.Sorted.{IsNonDecreasingBy-from_default}
use Rattle.std.proofs.lemmas.List.Sums.{AllPass-from_list_all, position_or_len_is}
use Rattle.std.proofs.lemmas.Option.{slice_get-get_or, slice_get_past}

pub rises_ascending : (ls : List Letter) → rises ls ≡ true → Ascending ls
rises_ascending [] t i j d less h = absurd (omega arith)
rises_ascending (l ∷ ls) t i zero d less h = absurd (omega arith)
rises_ascending (l ∷ ls) t zero (suc j) d less h = ltb-true _ _ (AllPass-from_list_all _ ls (and_parts _ _ t).0 j d (omega arith))
rises_ascending (l ∷ ls) t (suc i) (suc j) d less h = rises_ascending ls (and_parts _ _ t).1 i j d (omega arith) (omega arith)

absent : (o : Option Letter) → not (is_some o) ≡ true → o ≡ None
absent o t = grind arith

-- whether neither base nor mark of l is a letter of the table
closed : Letter → Bool
closed l = not (is_some (found table l.base)) && not (is_some (found table l.mark))

-- the test of the table
sound : Bool
sound = rises table && list_all closed table

passes : sound ≡ true
unfolding table closed sound
passes = refl

pub table_rises : Ascending table
unfolding sound
table_rises = rises_ascending table (and_parts _ _ passes).0

pub table_closed : Closed table
unfolding closed sound
table_closed i d h = let p = and_parts _ _ (AllPass-from_list_all closed table (and_parts _ _ passes).1 i d h) in (absent _ p.0, absent _ p.1)

-- where no entry before k is for c, and the one at k, if there is one, is, that one is found
found_first : (ls : List Letter) (c k : ℕ) (d : Letter) → k ≤ length ls → ((j : ℕ) → j < k → (get_or ls j d).composed ≢ c) →
    (k < length ls → (get_or ls k d).composed ≡ c) → found ls c ≡ slice_get ls k
found_first ls c k d within before here =
    find_at (λ l. l.composed == c) ls ∙
    ap (slice_get ls) (position_or_len_is (λ l. l.composed == c) ls k d within (λ j h. ne_eqb _ _ (before j h)) (λ h. eq-eqb _ _ (here h)))

-- where the letters ascend, an entry is the only one for its letter
pub found_at : (ls : List Letter) (d : Letter) → Ascending ls → (k : ℕ) → k < length ls → found ls (get_or ls k d).composed ≡ Some (slice_index_or ls k d)
found_at ls d ascends k h =
    found_first ls (get_or ls k d).composed k d (omega arith) (λ j less e. omega (arith, ascends j k d less h)) (λ _. refl) ∙ slice_get-get_or ls k d h

module _ (ls : List Letter) (ascends : Ascending ls) (c : ℕ) where
  -- the comparisons with c rise along the list, as a search by halves asks
  comparisons_rise : IsNonDecreasingBy (λ l. ordering_index (nat_cmp l.composed c)) ls
  comparisons_rise = IsNonDecreasingBy-from_default (λ l. ordering_index (nat_cmp l.composed c)) ls (letter 0 0 0) (λ i j le h.
      let rise : (get_or ls i (letter 0 0 0)).composed ≤ (get_or ls j (letter 0 0 0)).composed =
      grind (arith, ascends i j (letter 0 0 0), λ (same : i ≡ j). ap (λ (k : ℕ). (get_or ls k (letter 0 0 0)).composed) same) in
      grind (arith, nat_tests))

  -- what such a search gives is what is found
  pub searched : (r : Result ℕ ℕ) → IsSearchInRange r (length ls) → IsBinarySearchResult (λ l. nat_cmp l.composed c) ls r →
      (o : Option ℕ) → o ≡ result_ok r → MatchOption o (found ls c ≡ None) (λ at. (d : Letter) → found ls c ≡ Some (slice_index_or ls at d))
  searched (Ok at) within equal o is =
      let here = λ (d : Letter). ranked (get_or ls at d).composed c _ (sym (equal d)) in
      rw is (λ d. ap (found ls) (sym (here d)) ∙ found_at ls d ascends at within)
  searched (Err at) within parted o is =
      let d = letter 0 0 0 in
      let sides = parted comparisons_rise in
      let other : (k : ℕ) → k < length ls → (get_or ls k d).composed ≢ c =
      λ k h e. ⊎_elim
      (λ (l : k < at). omega (arith, ranked _ c _ (sym (sides.0 k d (omega arith) l))))
      (λ (g : at ≤ k). omega (arith, ranked _ c _ (sym (sides.1 k d g h)))) (cases_lt k at) in
      rw is (found_first ls c (length ls) d (omega arith) other (λ h. absurd (omega arith)) ∙ slice_get_past ls (length ls) (omega arith))
