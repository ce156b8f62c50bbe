-- Items, sides and tests are read well. Assumes nothing.
use Rattle.std.proofs.Common.{◌≡◌, ℕ, false, eqb, List, [], ◌∷◌, ◌++◌, pos, neg_ℤ, sym, refl, ap, ◌∙◌, subst, append-nil}
use Rattle.grammar.proofs.Apart.{other_mark, unmarked, number_variable, comparison_mark, Opens, opens_more, opens_place}
use Rattle.grammar.proofs.Readers.{Stops, Misses, Good, Is, Told, Then, Choice, Branch, Nothing, giving_then, giving_twice, then_same, good_same, good_as, good_before, good_nothing, good_expect, good_fixed, good_told, good_giving, good_then, good_if_known, good_if_first}
use Rattle.grammar.proofs.Readers.Branch.{here, other}
use Rattle.grammar.proofs.Readers.Choice.{hit, miss}
use Rattle.grammar.proofs.Readers.Is.{such}
use Rattle.grammar.proofs.Readers.Nothing.{nothing}
use Rattle.grammar.proofs.Readers.Then.{both}
use Rattle.grammar.proofs.Readers.Told.{told}
use Rattle.grammar.specs.Grammar.{Knows, ReadsItem, ReadsSide, ReadsTest}
use Rattle.grammar.specs.Grammar.Knows.{token}
use Rattle.grammar.specs.Grammar.ReadsItem.{reading, number, minus}
use Rattle.grammar.specs.Grammar.ReadsSide.{alone, sum, difference}
use Rattle.grammar.specs.Grammar.ReadsTest.{compared}
use Rattle.grammar.specs.Known.{sign, is_mark, variable_of, reading_of, number_of, comparison_of}
use Rattle.grammar.specs.Reading.{Read, then, giving, expect, name, written, first_place, item_at, side_from, side_at, test_at}
use Rattle.grammar.specs.Syntax.{Written}
use Rattle.grammar.specs.declared.test.Comparison.{Comparison}
use Rattle.grammar.specs.declared.test.Comparison.TheVariants as compares
use Rattle.grammar.specs.declared.test.Item.{Item}
use Rattle.grammar.specs.declared.test.Item.TheVariants as item
use Rattle.grammar.specs.declared.test.Name.{Name}
use Rattle.grammar.specs.declared.test.Side.{Side}
use Rattle.grammar.specs.declared.test.Side.TheVariants.{Alone, Sum, Difference}
use Rattle.letters.specs.Tokens.{Tok, Placed}
use Rattle.letters.specs.declared.symbol.Symbol.{Symbol}
use Rattle.letters.specs.declared.symbol.Symbol.TheVariants.{Open, Dot, Plus, Minus, Equal}

-- ---- items

abbrev ItemRow : List Placed → Item Name → Type 0
ItemRow =
    Branch (is_mark Minus) (λ p. Told (λ _ n. item.Number (neg_ℤ (pos n.0))) (Knows number_of))
    (Choice variable_of (λ v p. Then (Is (is_mark Dot)) (λ q. Told (λ _ r. item.Reading (name v p) r.0) (Knows reading_of)))
    (Told (λ _ n. item.Number (pos n.0)) (Knows number_of)))

item_of : (ts : List Placed) (i : Item Name) → ItemRow ts i → ReadsItem ts i
item_of ts i (here m _ _ e (told _ _ (token t n h))) = minus m t n e h
item_of ts i (other _ _ (hit v _ letter _ e (both _ _ _ _ (such p k) (told _ _ (token r n h))))) = reading v p r letter n e k h
item_of ts i (other _ _ (miss _ _ (told _ _ (token t n h)))) = number t n h

of_item : (ts : List Placed) (i : Item Name) → ReadsItem ts i → ItemRow ts i
of_item ts i (reading v p r letter n e k h) = other _ _ (hit v _ letter _ e (both _ _ _ _ (such p k) (told _ _ (token r n h))))
of_item ts i (number t n h) = other _ _ (miss _ _ (told _ _ (token t n h)))
of_item ts i (minus m t n e h) = here m _ _ e (told _ _ (token t n h))

-- an item begins with no symbol but a minus
item_opens : (s : Symbol) → eqb (sign Minus) (sign s) ≡ false → (ts : List Placed) (i : Item Name) → ReadsItem ts i → Opens (is_mark s) ts
item_opens s h ts i (reading v p r letter n e k l) = unmarked variable_of (λ m. refl) s v.0 letter e
item_opens s h ts i (number t n e) = unmarked number_of (λ m. refl) s t.0 n e
item_opens s h ts i (minus m t n e k) = other_mark Minus s h m.0 e

number_misses : (ts rest : List Placed) (i : Item Name) → Told (λ _ (n : ℕ × ℕ). item.Number (pos n.0)) (Knows number_of) ts i → Misses variable_of (ts ++ rest)
number_misses ts rest i (told _ _ (token t n e)) = number_variable t.0 n e

no_minus : (ts rest : List Placed) (i : Item Name) →
    Choice variable_of (λ v p. Then (Is (is_mark Dot)) (λ q. Told (λ _ r. item.Reading (name v p) r.0) (Knows reading_of))) (Told (λ _ n. item.Number (pos n.0)) (Knows number_of)) ts i →
    Stops (is_mark Minus) (ts ++ rest)
no_minus ts rest i (hit v _ letter _ e r) = unmarked variable_of (λ m. refl) Minus v.0 letter e
no_minus ts rest i (miss _ _ (told _ _ (token t n e))) = unmarked number_of (λ m. refl) Minus t.0 n e

module _ (end d : ℕ) where
  good_number : Good end d (λ _. Knows number_of) (λ _. Unit {0}) (λ _. expect number_of end)
  good_number = good_expect end d number_of (Tok.number (48 ∷ [])) 0 refl

  -- items are read well, whatever follows
  good_item : Good end d (λ _. ReadsItem) (λ _. Unit {0}) (λ _. item_at end)
  good_item =
      good_as end d (λ _. item_of) of_item (λ ts h. h)
      (good_if_first end d (is_mark Minus) (λ p. good_giving end d (λ n. item.Number (neg_ℤ (pos n.0))) good_number)
      (good_if_known end d variable_of
      (λ v p. good_then end d (good_fixed end d (is_mark Dot) (Tok.mark Dot) refl)
      (λ q. good_giving end d (λ r. item.Reading (name v p) r.0) (good_expect end d reading_of (Tok.word (114 ∷ 48 ∷ [])) 0 refl)) (λ x y us rest r h. tt))
      (good_giving end d (λ n. item.Number (pos n.0)) good_number) (λ ts rest i r h. number_misses ts rest i r))
      (λ ts rest i r h. no_minus ts rest i r))

-- ---- sides

-- neither a plus nor a minus
abbrev pub EndsSide : List Placed → Type 0
EndsSide ts = Stops (is_mark Plus) ts × Stops (is_mark Minus) ts

abbrev DifferenceRow : Item Name → List Placed → Side Name → Type 0
DifferenceRow i = Branch (is_mark Minus) (λ p. Told (λ _. Difference i) ReadsItem) (Nothing (Alone i))

abbrev FromRow : Item Name → List Placed → Side Name → Type 0
FromRow i = Branch (is_mark Plus) (λ p. Told (λ _. Sum i) ReadsItem) (DifferenceRow i)

side_of : (ts : List Placed) (s : Side Name) → Then ReadsItem FromRow ts s → ReadsSide ts s
side_of ts s (both us _ i _ r (here t vs _ e (told _ j q))) = sum us vs t i j r e q
side_of ts s (both us _ i _ r (other _ _ (here t vs _ e (told _ j q)))) = difference us vs t i j r e q
side_of ts s (both us _ i _ r (other _ _ (other _ _ nothing))) = subst (λ (l : List Placed). ReadsSide l (Alone i)) (sym (append-nil us)) (alone us i r)

of_side : (ts : List Placed) (s : Side Name) → ReadsSide ts s → Then ReadsItem FromRow ts s
of_side ts s (alone us i r) = subst (λ (l : List Placed). Then ReadsItem FromRow l (Alone i)) (append-nil us) (both us [] i _ r (other _ _ (other _ _ nothing)))
of_side ts s (sum us vs t i j r e q) = both us _ i _ r (here t vs _ e (told _ j q))
of_side ts s (difference us vs t i j r e q) = both us _ i _ r (other _ _ (here t vs _ e (told _ j q)))

side_opens : (s : Symbol) → eqb (sign Minus) (sign s) ≡ false → (ts : List Placed) (x : Side Name) → ReadsSide ts x → Opens (is_mark s) ts
side_opens s h ts x (alone us i r) = item_opens s h us i r
side_opens s h ts x (sum us vs t i j r e q) = opens_more (is_mark s) us (t ∷ vs) (item_opens s h us i r)
side_opens s h ts x (difference us vs t i j r e q) = opens_more (is_mark s) us (t ∷ vs) (item_opens s h us i r)

alone_stops : (i : Item Name) (ts rest : List Placed) (s : Side Name) → Nothing (Alone i) ts s → EndsSide rest → Stops (is_mark Minus) (ts ++ rest)
alone_stops i ts rest s nothing after = after.1

no_plus : (i : Item Name) (ts rest : List Placed) (s : Side Name) → DifferenceRow i ts s → EndsSide rest → Stops (is_mark Plus) (ts ++ rest)
no_plus i ts rest s (here t _ _ e r) after = other_mark Minus Plus refl t.0 e
no_plus i ts rest s (other _ _ nothing) after = after.0

module _ (end d : ℕ) where
  good_from : (i : Item Name) → Good end d (λ _. FromRow i) EndsSide (λ _. side_from end i)
  good_from i =
      good_if_first end d (is_mark Plus) (λ p. good_giving end d (Sum i) (good_before end d (λ ts _. tt) (good_item end d)))
      (good_if_first end d (is_mark Minus) (λ p. good_giving end d (Difference i) (good_before end d (λ ts _. tt) (good_item end d))) (good_nothing end d (Alone i) EndsSide) (alone_stops i))
      (no_plus i)

  -- sides are, before what is neither a plus nor a minus
  good_side : Good end d (λ _. ReadsSide) EndsSide (λ _. side_at end)
  good_side = good_as end d (λ _. side_of) of_side (λ ts h. h) (good_then end d (good_item end d) good_from (λ i s us rest r after. tt))

-- ---- tests

abbrev Parts : Type 0
Parts = Side Name × Comparison × Side Name

abbrev PartsRow : List Placed → Parts → Type 0
PartsRow = Then ReadsSide (λ l. Then (Knows comparison_of) (λ c. Told (λ _ r. (l, c.0, r)) ReadsSide))

abbrev said : List Placed → Parts → Written
said ts x = written (first_place ts) x.0 x.1 x.2

side_place : (us vs : List Placed) (x : Side Name) → ReadsSide us x → first_place (us ++ vs) ≡ first_place us
side_place us vs x r = opens_place (is_mark Open) us vs (side_opens Open refl us x r)

test_of : (ts : List Placed) (t : Written) → Told said PartsRow ts t → ReadsTest ts t
test_of ts t (told _ _ (both us _ l _ p (both _ _ _ _ (token c k e) (told vs r q)))) =
    subst (λ (n : ℕ). ReadsTest (us ++ (c ∷ vs)) (written n l k r)) (sym (side_place us (c ∷ vs) l p)) (compared us vs c l r k p e q)

of_test : (ts : List Placed) (t : Written) → ReadsTest ts t → Told said PartsRow ts t
of_test ts t (compared us vs c l r k p e q) =
    subst (λ (n : ℕ). Told said PartsRow (us ++ (c ∷ vs)) (written n l k r)) (side_place us (c ∷ vs) l p)
    (told (us ++ (c ∷ vs)) (l, k, r) (both us (c ∷ vs) l (l, k, r) p (both (c ∷ []) vs (k, c.1) (l, k, r) (token c k e) (told vs r q))))

-- a test begins with no symbol but a minus
pub test_opens : (s : Symbol) → eqb (sign Minus) (sign s) ≡ false → (ts : List Placed) (t : Written) → ReadsTest ts t → Opens (is_mark s) ts
test_opens s h ts t (compared us vs c l r k p e q) = opens_more (is_mark s) us (c ∷ vs) (side_opens s h us l p)

said_keeps : (front rest : List Placed) (x : Parts) → PartsRow front x → said (front ++ rest) x ≡ said front x
said_keeps front rest x (both us vs l y p q) =
    ap (λ (n : ℕ). written n y.0 y.1 y.2) (opens_place (is_mark Open) (us ++ vs) rest (opens_more (is_mark Open) us vs (side_opens Open refl us l p)))

ends_side : (l : Side Name) (x : Parts) (us rest : List Placed) → Then (Knows comparison_of) (λ c. Told (λ _ r. (l, c.0, r)) ReadsSide) us x → EndsSide (us ++ rest)
ends_side l x us rest (both _ _ _ _ (token c k e) r) = comparison_mark c.0 k e

module _ (end : ℕ) where
  abbrev parts_from : Side Name → List Placed → Read Parts
  parts_from l rest = then (expect comparison_of end rest) (λ c after. giving (λ r. (l, c.0, r)) (side_at end after))

  test_same : (ts : List Placed) → giving (said ts) (then (side_at end ts) parts_from) ≡ test_at end ts
  test_same ts =
      giving_then (said ts) (side_at end ts) parts_from ∙
      then_same (side_at end ts) _ _
      (λ l rest. giving_then (said ts) (expect comparison_of end rest) (λ c after. giving (λ r. (l, c.0, r)) (side_at end after)) ∙
      then_same (expect comparison_of end rest) _ _ (λ c after. giving_twice (said ts) (λ r. (l, c.0, r)) (side_at end after)))

  -- and so are tests
  pub good_test : (d : ℕ) → Good end d (λ _. ReadsTest) EndsSide (λ _. test_at end)
  good_test d =
      good_as end d (λ _. test_of) of_test (λ ts h. h)
      (good_same end d (λ _. test_same) (good_told end d said said_keeps
      (good_then end d (good_side end d)
      (λ l. good_then end d (good_expect end d comparison_of (Tok.mark Equal) compares.Equal refl) (λ c. good_giving end d (λ r. (l, c.0, r)) (good_side end d)) (λ c x us rest r after. tt))
      (λ l x us rest r after. ends_side l x us rest r))))
