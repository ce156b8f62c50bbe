-- Kinds and parts are read well. Assumes nothing.
use Rattle.std.proofs.Common.{◌≡◌, ℕ, true, false, List, [], ◌∷◌, ◌++◌, sym, refl, ap, ◌∙◌, subst}
use Rattle.grammar.proofs.Apart.{other_mark, word_mark, unmarked, kind_any, Opens, opens_more, opens_stops, opens_place}
use Rattle.grammar.proofs.Readers.{Stops, Good, Is, Told, Then, Branch, giving_then, giving_twice, then_same, good_same, good_as, good_expect, good_fixed, good_told, good_giving, good_then, good_if_first}
use Rattle.grammar.proofs.Readers.Branch.{here, other}
use Rattle.grammar.proofs.Readers.Is.{such}
use Rattle.grammar.proofs.Readers.Then.{both}
use Rattle.grammar.proofs.Readers.Told.{told}
use Rattle.grammar.proofs.Repeats.{good_separated}
use Rattle.grammar.specs.Grammar.{Knows, Separated, ReadsKinds, ReadsPart}
use Rattle.grammar.specs.Grammar.Knows.{token}
use Rattle.grammar.specs.Grammar.ReadsKinds.{kind, any}
use Rattle.grammar.specs.Grammar.ReadsPart.{positive, negative}
use Rattle.grammar.specs.Known.{is_mark, is_word, variable_of, kind_of}
use Rattle.grammar.specs.Reading.{then, giving, expect, fixed, first_place, one, and_one, part, kinds_at, part_at, parts_at}
use Rattle.grammar.specs.Syntax.{Word, Part}
use Rattle.letters.specs.Tokens.{Tok, Placed}
use Rattle.letters.specs.declared.symbol.Symbol.TheVariants.{Open, Close, Comma, Not}
use Rattle.letters.specs.declared.word.Class.TheVariants.{Any}

-- ---- kinds

abbrev Listed : List Placed → List Word → Type 0
Listed = Separated (is_mark Comma) one and_one (Knows kind_of)

abbrev KindsRow : List Placed → List Word → Type 0
KindsRow = Branch (is_word Any) (λ p. Then (Is (is_mark Open)) (λ o. Then Listed (λ ks. Told (λ _ c. ks) (Is (is_mark Close))))) (Told (λ _. one) (Knows kind_of))

kinds_of : (ts : List Placed) (ws : List Word) → KindsRow ts ws → ReadsKinds ts ws
kinds_of ts ws (here a _ _ e (both _ _ _ _ (such o h) (both us _ ks _ r (told _ _ (such c k))))) = any a o c us ks e h r k
kinds_of ts ws (other _ _ (told us w r)) = kind us w r

of_kinds : (ts : List Placed) (ws : List Word) → ReadsKinds ts ws → KindsRow ts ws
of_kinds ts ws (any a o c us ks e h r k) = here a _ _ e (both _ _ _ _ (such o h) (both us _ ks _ r (told _ _ (such c k))))
of_kinds ts ws (kind us w r) = other _ _ (told us w r)

-- kinds begin with no symbol
kinds_open : (ts : List Placed) (ws : List Word) → ReadsKinds ts ws → Opens (is_mark Not) ts
kinds_open ts ws (kind _ _ (token t w e)) = unmarked kind_of (λ m. refl) Not t.0 w e
kinds_open ts ws (any a o c us ks e h r k) = word_mark Any Not a.0 e

kind_stops : (ts rest : List Placed) (ws : List Word) → Told (λ _. one) (Knows kind_of) ts ws → Stops (is_word Any) (ts ++ rest)
kind_stops ts rest ws (told _ _ (token t w e)) = kind_any t.0 w e

-- no comma where a closing parenthesis stands
pub closing_stops : {X : Type 0} (x y : X) (us rest : List Placed) → Told (λ _ c. x) (Is (is_mark Close)) us y → Stops (is_mark Comma) (us ++ rest) × Unit {0}
closing_stops x y us rest (told _ _ (such c e)) = (other_mark Close Comma refl c.0 e, tt)

module _ (end d : ℕ) where
  pub good_open : Good end d (λ _. Is (is_mark Open)) (λ _. Unit {0}) (λ _. fixed (is_mark Open) end)
  good_open = good_fixed end d (is_mark Open) (Tok.mark Open) refl

  pub good_close : Good end d (λ _. Is (is_mark Close)) (λ _. Unit {0}) (λ _. fixed (is_mark Close) end)
  good_close = good_fixed end d (is_mark Close) (Tok.mark Close) refl

  good_kind : Good end d (λ _. Knows kind_of) (λ _. Unit {0}) (λ _. expect kind_of end)
  good_kind = good_expect end d kind_of (Tok.word []) [] refl

  -- kinds are read well, whatever follows
  good_kinds : Good end d (λ _. ReadsKinds) (λ _. Unit {0}) (λ _. kinds_at end)
  good_kinds =
      good_as end d (λ _. kinds_of) of_kinds (λ ts h. h)
      (good_if_first end d (is_word Any)
      (λ p. good_then end d good_open
      (λ o. good_then end d (good_separated end d (is_mark Comma) one and_one good_kind (λ t ts e. tt)) (λ ks. good_giving end d (λ c. ks) good_close)
      (λ ks ws us rest r after. closing_stops ks ws us rest r)) (λ o ws us rest r after. tt))
      (good_giving end d one good_kind) (λ ts rest ws r after. kind_stops ts rest ws r))

-- ---- parts

abbrev KindsVariable : List Placed → List Word × (ℕ × ℕ) → Type 0
KindsVariable = Then ReadsKinds (λ ks. Told (λ _ v. (ks, v)) (Knows variable_of))

abbrev plain : List Placed → List Word × (ℕ × ℕ) → Part
plain ts x = part (first_place ts) false x.0 x.1

abbrev PartRow : List Placed → Part → Type 0
PartRow =
    Branch (is_mark Not)
    (λ p. Then (Is (is_mark Open)) (λ o. Then ReadsKinds (λ ks. Then (Knows variable_of) (λ v. Told (λ _ c. part p true ks v) (Is (is_mark Close))))))
    (Told plain KindsVariable)

kinds_place : (us vs : List Placed) (ws : List Word) → ReadsKinds us ws → first_place (us ++ vs) ≡ first_place us
kinds_place us vs ws r = opens_place (is_mark Not) us vs (kinds_open us ws r)

part_of : (ts : List Placed) (x : Part) → PartRow ts x → ReadsPart ts x
part_of ts x (here n _ _ e (both _ _ _ _ (such o h) (both us _ ks _ r (both _ _ _ _ (token v letter k) (told _ _ (such c l)))))) = negative n o v c us ks letter e h r k l
part_of ts x (other _ _ (told _ _ (both us _ ks _ r (told _ _ (token v letter k))))) =
    subst (λ (n : ℕ). ReadsPart (us ++ (v ∷ [])) (part n false ks (letter, v.1))) (sym (kinds_place us (v ∷ []) ks r)) (positive us v ks letter r k)

of_part : (ts : List Placed) (x : Part) → ReadsPart ts x → PartRow ts x
of_part ts x (negative n o v c us ks letter e h r k l) = here n _ _ e (both _ _ _ _ (such o h) (both us _ ks _ r (both _ _ _ _ (token v letter k) (told _ _ (such c l)))))
of_part ts x (positive us v ks letter r k) =
    subst (λ (n : ℕ). PartRow (us ++ (v ∷ [])) (part n false ks (letter, v.1))) (kinds_place us (v ∷ []) ks r)
    (other _ _ (told (us ++ (v ∷ [])) (ks, (letter, v.1)) (both us (v ∷ []) ks (ks, (letter, v.1)) r (told (v ∷ []) (letter, v.1) (token v letter k)))))

plain_opens : (ts : List Placed) (x : List Word × (ℕ × ℕ)) → KindsVariable ts x → Opens (is_mark Not) ts
plain_opens ts x (both us vs ks _ r q) = opens_more (is_mark Not) us vs (kinds_open us ks r)

plain_keeps : (front rest : List Placed) (x : List Word × (ℕ × ℕ)) → KindsVariable front x → plain (front ++ rest) x ≡ plain front x
plain_keeps front rest x r = ap (λ (n : ℕ). part n false x.0 x.1) (opens_place (is_mark Not) front rest (plain_opens front x r))

plain_stops : (ts rest : List Placed) (x : Part) → Told plain KindsVariable ts x → Stops (is_mark Not) (ts ++ rest)
plain_stops ts rest x (told us y r) = opens_stops (is_mark Not) us rest (plain_opens us y r)

module _ (end : ℕ) where
  plain_same : (ts : List Placed) → giving (plain ts) (then (kinds_at end ts) (λ ks after. giving (λ v. (ks, v)) (expect variable_of end after))) ≡
      then (kinds_at end ts) (λ ks after. giving (part (first_place ts) false ks) (expect variable_of end after))
  plain_same ts =
      giving_then (plain ts) (kinds_at end ts) _ ∙
      then_same (kinds_at end ts) _ _ (λ ks after. giving_twice (plain ts) (λ v. (ks, v)) (expect variable_of end after))

  good_variable : (d : ℕ) → Good end d (λ _. Knows variable_of) (λ _. Unit {0}) (λ _. expect variable_of end)
  good_variable d = good_expect end d variable_of (Tok.word (97 ∷ [])) 97 refl

  -- parts are, whatever follows
  good_part : (d : ℕ) → Good end d (λ _. ReadsPart) (λ _. Unit {0}) (λ _. part_at end)
  good_part d =
      good_as end d (λ _. part_of) of_part (λ ts h. h)
      (good_if_first end d (is_mark Not)
      (λ p. good_then end d (good_open end d)
      (λ o. good_then end d (good_kinds end d)
      (λ ks. good_then end d (good_variable d) (λ v. good_giving end d (λ c. part p true ks v) (good_close end d)) (λ v x us rest r after. tt)) (λ ks x us rest r after. tt))
      (λ o x us rest r after. tt))
      (good_same end d (λ _. plain_same) (good_told end d plain plain_keeps
      (good_then end d (good_kinds end d) (λ ks. good_giving end d (λ v. (ks, v)) (good_variable d)) (λ ks x us rest r after. tt))))
      (λ ts rest x r after. plain_stops ts rest x r))

  -- and so are parts between commas
  pub good_parts : (d : ℕ) → Good end d (λ _. Separated (is_mark Comma) one and_one ReadsPart) (λ ts. Stops (is_mark Comma) ts × Unit {0}) (λ _. parts_at end)
  good_parts d = good_separated end d (is_mark Comma) one and_one (good_part d) (λ t ts e. tt)
