-- Conditions are read well, at each depth. Assumes nothing.
use Rattle.std.proofs.Common.{◌≡◌, ℕ, zero, suc, ◌≤◌, true, List, [], ◌∷◌, ◌++◌, Some, Ok, Err, sym, refl, ap, subst, arith}
use Rattle.grammar.proofs.Apart.{other_mark, other_word, word_mark, mark_word, Opens, opens_stops}
use Rattle.grammar.proofs.Parts.{good_close}
use Rattle.grammar.proofs.Readers.{Stops, Cause, Lasts, Deeper, follow, fault, first, Outcome, Good, Is, Told, Then, Choice, Branch, flag, stops_flag, good_same, good_as, good_before, good_giving, good_then, good_branch, good_chosen, good_if_first}
use Rattle.grammar.proofs.Readers.Branch.{here, other}
use Rattle.grammar.proofs.Readers.Cause.{ends, wrong, deep}
use Rattle.grammar.proofs.Readers.Choice.{hit, miss}
use Rattle.grammar.proofs.Readers.Is.{such}
use Rattle.grammar.proofs.Readers.Outcome.{reads, fails}
use Rattle.grammar.proofs.Readers.Then.{both}
use Rattle.grammar.proofs.Readers.Told.{told}
use Rattle.grammar.proofs.Repeats.{good_separated}
use Rattle.grammar.proofs.Sides.{EndsSide, test_opens, good_test}
use Rattle.grammar.specs.Grammar.{Separated, ReadsTest, ReadsUnit, EitherOf, ReadsEither, Inside}
use Rattle.grammar.specs.Grammar.ReadsUnit.{lone, parenthesis}
use Rattle.grammar.specs.Known.{is_mark, is_word}
use Rattle.grammar.specs.Reading.{Read, giving, if_known, by_option, test_at, inner_at, unit_at, either_with, either_at}
use Rattle.grammar.specs.Syntax.{Cond}
use Rattle.grammar.specs.Syntax.Cond.{test, both as joined, either}
use Rattle.grammar.specs.declared.fault.GrammarFault.TheVariants.{TooDeep}
use Rattle.letters.specs.Tokens.{Tok, Placed}
use Rattle.letters.specs.declared.symbol.Symbol.TheVariants.{Open, Close, OpenSquare, Plus, Minus}
use Rattle.letters.specs.declared.word.Class.TheVariants.{And, Or}

-- ---- one level deeper

module _ (end d : ℕ) where
  shifted : {X : Type 0} (R : ℕ → List Placed → X → Type 0) (P : ℕ → List Placed → Read X) {ts : List Placed} →
      Outcome end d (λ e. R (suc e)) (λ e. P (suc e)) ts → Outcome end (suc d) R P ts
  shifted R P (reads front rest x is r goes) = reads front rest x is r go
    where
      go : (e : ℕ) → suc d ≤ e → (us : List Placed) → first us ≡ first rest → P e (front ++ us) ≡ Ok (x, us)
      go zero l us same = absurd (omega arith)
      go (suc e) l us same = goes e (omega arith) us same
  shifted R P (fails c front rest is v w stays) = fails c front rest is v w (go c w stays)
    where
      go : (c : Cause) → Deeper c (R (suc (suc d))) front → ((e : ℕ) → Lasts d c e → (us : List Placed) → P (suc e) (front ++ follow c us) ≡ Err (fault end c)) →
          (e : ℕ) → Lasts (suc d) c e → (us : List Placed) → P e (front ++ follow c us) ≡ Err (fault end c)
      go ends w stays zero l us = absurd (omega arith)
      go ends w stays (suc e) l us = stays e (omega arith) us
      go (wrong t) w stays zero l us = absurd (omega arith)
      go (wrong t) w stays (suc e) l us = stays e (omega arith) us
      go (deep t) w stays zero l us = absurd (omega arith)
      go (deep t) w stays (suc e) l us = stays e (omega arith) us

  -- what is good at d, counted from one
  good_shifted : {X : Type 0} (R : ℕ → List Placed → X → Type 0) {F : List Placed → Type 0} (P : ℕ → List Placed → Read X) → Good end d (λ e. R (suc e)) F (λ e. P (suc e)) → Good end (suc d) R F P
  good_shifted R P g = record {
    does = λ ts. shifted R P (g.does ts);
    complete = g.complete;
    up = g.up;
    sample = g.sample;
  }

-- ---- units

abbrev Closed : Cond → List Placed → Cond → Type 0
Closed x = Told (λ _ c. x) (Is (is_mark Close))

abbrev UnitRow : ℕ → List Placed → Cond → Type 0
UnitRow e = Branch (is_mark Open) (λ p. Then (Inside e) Closed) (Told (λ _. test) ReadsTest)

unit_of : (e : ℕ) (ts : List Placed) (x : Cond) → UnitRow e ts x → ReadsUnit (Inside e) ts x
unit_of e ts x (here o _ _ h (both us _ y _ r (told _ _ (such c k)))) = parenthesis o c us y h r k
unit_of e ts x (other _ _ (told us t r)) = lone us t r

of_unit : (e : ℕ) (ts : List Placed) (x : Cond) → ReadsUnit (Inside e) ts x → UnitRow e ts x
of_unit e ts x (parenthesis o c us y h r k) = here o _ _ h (both us _ y _ r (told _ _ (such c k)))
of_unit e ts x (lone us t r) = other _ _ (told us t r)

no_inside : (ts : List Placed) (x : Cond) → Then (Inside 0) Closed ts x → ⊥
no_inside ts x (both us vs y _ r q) = r

test_stops : (ts rest : List Placed) (x : Cond) → Told (λ _. test) ReadsTest ts x → Stops (is_mark Open) (ts ++ rest)
test_stops ts rest x (told us t r) = opens_stops (is_mark Open) us rest (test_opens Open refl us t r)

-- a unit begins with no square bracket
pub unit_opens : (e : ℕ) (ts : List Placed) (x : Cond) → ReadsUnit (Inside e) ts x → Opens (is_mark OpenSquare) ts
unit_opens e ts x (lone us t r) = test_opens OpenSquare refl us t r
unit_opens e ts x (parenthesis o c us y h r k) = other_mark Open OpenSquare refl o.0 h

-- ---- conditions

abbrev EndsAll : List Placed → Type 0
EndsAll ts = Stops (is_word And) ts × EndsSide ts

abbrev EndsEither : List Placed → Type 0
EndsEither ts = Stops (is_word Or) ts × EndsAll ts

pub ends_unit : (t : Placed) (ts : List Placed) → is_word And t.0 ≡ true → EndsSide (t ∷ ts)
ends_unit t ts e = (word_mark And Plus t.0 e, word_mark And Minus t.0 e)

ends_all : (t : Placed) (ts : List Placed) → is_word Or t.0 ≡ true → EndsAll (t ∷ ts)
ends_all t ts e = (other_word Or And refl t.0 e, (word_mark Or Plus t.0 e, word_mark Or Minus t.0 e))

ends_either : (x y : Cond) (us rest : List Placed) → Closed x us y → EndsEither (us ++ rest)
ends_either x y us rest (told _ _ (such c e)) =
    (mark_word Close Or c.0 e, (mark_word Close And c.0 e, (other_mark Close Plus refl c.0 e, other_mark Close Minus refl c.0 e)))

either_is : (e : ℕ) (ts : List Placed) (x : Cond) → EitherOf (Inside e) ts x → ReadsEither e ts x
either_is zero ts x r = r
either_is (suc e) ts x r = r

is_either : (e : ℕ) (ts : List Placed) (x : Cond) → ReadsEither e ts x → EitherOf (Inside e) ts x
is_either zero ts x r = r
is_either (suc e) ts x r = r

either_same : (end e : ℕ) (ts : List Placed) → either_with end (inner_at e end) ts ≡ either_at e end ts
either_same end zero ts = refl
either_same end (suc e) ts = refl

module _ (end : ℕ) where
  -- what units are, either is
  good_either : (d : ℕ) → Good end d (λ e. ReadsUnit (Inside e)) EndsSide (λ e. unit_at e end) → Good end d ReadsEither EndsEither (λ e. either_at e end)
  good_either d g =
      good_as end d either_is (is_either d) (λ ts h. h)
      (good_same end d (either_same end)
      (good_separated end d (is_word Or) (λ c. c) either (good_separated end d (is_word And) (λ c. c) joined g ends_unit) ends_all))

  good_lone : (d : ℕ) → Good end d (λ _. Told (λ _. test) ReadsTest) EndsSide (λ _ ts. giving test (test_at end ts))
  good_lone d = good_giving end d test (good_test end d)

  -- a parenthesis where none may stand: one level deeper a test may follow it
  too_deep : (t : Placed) (ts : List Placed) (u : Unit {0}) → flag (is_mark Open t.0) ≡ Some u →
      Outcome end 0 (λ e. Choice (λ v. flag (is_mark Open v)) (λ _ p. Then (Inside e) Closed) (Told (λ _. test) ReadsTest))
      (λ e. if_known (λ v. flag (is_mark Open v)) (λ _ p. inner_at e end p) (λ us. giving test (test_at end us))) (t ∷ ts)
  too_deep t ts u h =
      let s = (good_lone 0).sample in
      let c : Placed = (Tok.mark Close, 0) in
      fails (deep t) [] ts refl (s.0, s.1, miss _ _ s.2) (
        s.0 ++ (c ∷ []),
        s.1,
        hit t _ u _ h (both s.0 (c ∷ []) s.1 s.1 (Separated.first _ _ (Separated.first _ _ (unit_of 0 s.0 s.1 (other _ _ s.2)))) (told (c ∷ []) 0 (such c refl))),
      )
      (λ e l us. subst (λ (n : ℕ). if_known (λ v. flag (is_mark Open v)) (λ _ p. inner_at n end p) (λ us. giving test (test_at end us)) (t ∷ us) ≡ Err (TooDeep t.1)) (sym l)
      (ap (λ o. by_option o (λ _. Err (TooDeep t.1)) (giving test (test_at end (t ∷ us)))) h))

  -- at depth 0
  good_bare : Good end 0 (λ e. ReadsUnit (Inside e)) EndsSide (λ e. unit_at e end)
  good_bare =
      good_as end 0 unit_of (of_unit 0) (λ ts h. h)
      (good_branch end 0 (is_mark Open) (λ p e. inner_at e end p) (λ _ us. giving test (test_at end us))
      (good_chosen end 0 (λ v. flag (is_mark Open v)) (λ _ p e. Then (Inside e) Closed) (λ _ p e. inner_at e end p) too_deep
      (λ u p ts rest x r after. absurd (no_inside ts x r)) (λ u p ts x r. absurd (no_inside ts x r)) (good_lone 0)
      (λ ts rest x r after. stops_flag (is_mark Open) (ts ++ rest) (test_stops ts rest x r))))

  -- what stands behind an opening parenthesis
  good_inner : (d : ℕ) → Good end d ReadsEither EndsEither (λ e. either_at e end) → (p : ℕ) → Good end (suc d) (λ e. Then (Inside e) Closed) EndsSide (λ e. inner_at e end p)
  good_inner d g p =
      good_before end (suc d) (λ ts _. tt)
      (good_shifted end d (λ e. Then (Inside e) Closed) (λ e. inner_at e end p) (good_then end d g (λ x. good_giving end d (λ c. x) (good_close end d)) (λ x y us rest r after. ends_either x y us rest r)))

  -- units are read well at each depth
  pub good_unit : (d : ℕ) → Good end d (λ e. ReadsUnit (Inside e)) EndsSide (λ e. unit_at e end)
  good_unit zero = good_bare
  good_unit (suc d) =
      good_as end (suc d) unit_of (of_unit (suc d)) (λ ts h. h)
      (good_if_first end (suc d) (is_mark Open) (good_inner d (good_either d (good_unit d))) (good_lone (suc d)) (λ ts rest x r after. test_stops ts rest x r))
