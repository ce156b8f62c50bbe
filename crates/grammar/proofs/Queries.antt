-- Clauses and queries are read well. Assumes nothing.
use Rattle.std.proofs.Common.{ℕ, List, [], ◌∷◌, ◌++◌, codes, sym, refl, ap, subst, append_assoc}
use Rattle.grammar.proofs.Apart.{other_word, word_mark, opens_stops, opens_place}
use Rattle.grammar.proofs.Conditions.{unit_opens, ends_unit, good_unit}
use Rattle.grammar.proofs.Parts.{closing_stops, good_open, good_close, good_parts}
use Rattle.grammar.proofs.Readers.{Stops, Good, Is, Told, Then, Branch, Nothing, good_as, good_before, good_nothing, good_expect, good_fixed, good_told, good_giving, good_then, good_if_first}
use Rattle.grammar.proofs.Readers.Branch.{here, other}
use Rattle.grammar.proofs.Readers.Is.{such}
use Rattle.grammar.proofs.Readers.Nothing.{nothing}
use Rattle.grammar.proofs.Readers.Then.{both}
use Rattle.grammar.proofs.Readers.Told.{told}
use Rattle.grammar.proofs.Repeats.{good_separated}
use Rattle.grammar.proofs.Sides.{EndsSide}
use Rattle.grammar.specs.Grammar.{Knows, Separated, ReadsPart, ReadsUnit, Inside, ReadsClause, ReadsWhere, ReadsQuery}
use Rattle.grammar.specs.Grammar.Knows.{token}
use Rattle.grammar.specs.Grammar.ReadsClause.{key, holds}
use Rattle.grammar.specs.Grammar.ReadsQuery.{query}
use Rattle.grammar.specs.Grammar.ReadsWhere.{none, some}
use Rattle.grammar.specs.Known.{is_mark, is_word, number_of}
use Rattle.grammar.specs.Reading.{first_place, one, and_one, clause_at, where_at, syntax, sequence_at, window_at, query_front}
use Rattle.grammar.specs.Syntax.{Cond, Clause, Part, Syntax}
use Rattle.grammar.specs.Syntax.Clause.{same_key, condition}
use Rattle.letters.specs.Tokens.{Tok, Placed}
use Rattle.letters.specs.declared.symbol.Symbol.TheVariants.{Open, Close, Comma, OpenSquare, CloseSquare, Plus, Minus}
use Rattle.letters.specs.declared.word.Class.TheVariants.{Event, Seq, Where, Within, And, Key}

-- ---- clauses

abbrev holding : List Placed → Cond → Clause
holding ts x = condition (first_place ts) x

abbrev ClauseRow : ℕ → List Placed → Clause → Type 0
ClauseRow e = Branch (is_mark OpenSquare) (λ p. Then (Is (is_word Key)) (λ k. Told (λ _ c. same_key) (Is (is_mark CloseSquare)))) (Told holding (ReadsUnit (Inside e)))

clause_of : (e : ℕ) (ts : List Placed) (x : Clause) → ClauseRow e ts x → ReadsClause e ts x
clause_of e ts x (here o _ _ h (both _ _ _ _ (such k i) (told _ _ (such c j)))) = key o k c h i j
clause_of e ts x (other _ _ (told us y r)) = holds us y r

of_clause : (e : ℕ) (ts : List Placed) (x : Clause) → ReadsClause e ts x → ClauseRow e ts x
of_clause e ts x (key o k c h i j) = here o _ _ h (both _ _ _ _ (such k i) (told _ _ (such c j)))
of_clause e ts x (holds us y r) = other _ _ (told us y r)

holding_stops : (e : ℕ) (ts rest : List Placed) (x : Clause) → Told holding (ReadsUnit (Inside e)) ts x → Stops (is_mark OpenSquare) (ts ++ rest)
holding_stops e ts rest x (told us y r) = opens_stops (is_mark OpenSquare) us rest (unit_opens e us y r)

-- ---- clauses behind WHERE

abbrev EndsWhere : List Placed → Type 0
EndsWhere ts = Stops (is_word Where) ts × (Stops (is_word And) ts × EndsSide ts)

abbrev WhereRow : ℕ → List Placed → List Clause → Type 0
WhereRow e = Branch (is_word Where) (λ p. Separated (is_word And) one and_one (ReadsClause e)) (Nothing [])

where_of : (e : ℕ) (ts : List Placed) (cs : List Clause) → WhereRow e ts cs → ReadsWhere e ts cs
where_of e ts cs (here w us ds h r) = some w us ds h r
where_of e ts cs (other _ _ nothing) = none

of_where : (e : ℕ) (ts : List Placed) (cs : List Clause) → ReadsWhere e ts cs → WhereRow e ts cs
of_where e ts cs (some w us ds h r) = here w us ds h r
of_where e ts cs none = other _ _ nothing

nothing_stops : (ts rest : List Placed) (cs : List Clause) → Nothing [] ts cs → EndsWhere rest → Stops (is_word Where) (ts ++ rest)
nothing_stops ts rest cs nothing after = after.0

-- ---- queries

abbrev SequenceRow : List Placed → List Part → Type 0
SequenceRow =
    Then (Is (is_word Event)) (λ e. Then (Is (is_word Seq)) (λ s. Then (Is (is_mark Open)) (λ o.
    Then (Separated (is_mark Comma) one and_one ReadsPart) (λ ps. Told (λ _ c. ps) (Is (is_mark Close))))))

abbrev WindowRow : List Placed → ℕ × ℕ → Type 0
WindowRow = Then (Is (is_word Within)) (λ w. Knows number_of)

abbrev QueryRow : ℕ → List Placed → Syntax → Type 0
QueryRow e = Then SequenceRow (λ ps. Then (ReadsWhere e) (λ cs. Told (λ _. syntax ps cs) WindowRow))

query_of : (d : ℕ) (ts : List Placed) (q : Syntax) → QueryRow d ts q → ReadsQuery d ts q
query_of d ts q (both _ _ _ _ (both _ _ _ _ (such e h₁) (both _ _ _ _ (such s h₂) (both _ _ _ _ (such o h₃) (both us _ ps _ r (told _ _ (such c h₄))))))
    (both vs _ cs _ k (told _ _ (both _ _ _ _ (such w h₅) (token n window h₆))))) =
    subst (λ (l : List Placed). ReadsQuery d (e ∷ s ∷ o ∷ l) (syntax ps cs (window, n.1))) (sym (append_assoc us (c ∷ []) (vs ++ (w ∷ n ∷ []))))
    (query e s o c w n us vs ps cs window h₁ h₂ h₃ r h₄ k h₅ h₆)

of_query : (d : ℕ) (ts : List Placed) (q : Syntax) → ReadsQuery d ts q → QueryRow d ts q
of_query d ts q (query e s o c w n us vs ps cs window h₁ h₂ h₃ r h₄ k h₅ h₆) =
    subst (λ (l : List Placed). QueryRow d (e ∷ s ∷ o ∷ l) (syntax ps cs (window, n.1))) (append_assoc us (c ∷ []) (vs ++ (w ∷ n ∷ [])))
    (both (e ∷ s ∷ o ∷ (us ++ (c ∷ []))) (vs ++ (w ∷ n ∷ [])) ps _
    (both (e ∷ []) (s ∷ o ∷ (us ++ (c ∷ []))) _ ps (such e h₁)
    (both (s ∷ []) (o ∷ (us ++ (c ∷ []))) _ ps (such s h₂)
    (both (o ∷ []) (us ++ (c ∷ [])) _ ps (such o h₃) (both us (c ∷ []) ps ps r (told (c ∷ []) c.1 (such c h₄))))))
    (both vs (w ∷ n ∷ []) cs _ k (told (w ∷ n ∷ []) (window, n.1) (both (w ∷ []) (n ∷ []) _ _ (such w h₅) (token n window h₆)))))

ends_where : (ps : List Part) (cs : List Clause) (q : Syntax) (us rest : List Placed) → Told (λ _. syntax ps cs) WindowRow us q → EndsWhere (us ++ rest)
ends_where ps cs q us rest (told _ _ (both _ _ _ _ (such w e) r)) =
    (other_word Within Where refl w.0 e, (other_word Within And refl w.0 e, (word_mark Within Plus w.0 e, word_mark Within Minus w.0 e)))

module _ (end d : ℕ) where
  -- clauses are read well
  good_clause : Good end d ReadsClause EndsSide (λ e. clause_at e end)
  good_clause =
      good_as end d clause_of (of_clause d) (λ ts h. h)
      (good_if_first end d (is_mark OpenSquare)
      (λ p. good_then end d (good_fixed end d (is_word Key) (Tok.word (codes "key")) refl)
      (λ k. good_giving end d (λ c. same_key) (good_before end d (λ ts _. tt) (good_fixed end d (is_mark CloseSquare) (Tok.mark CloseSquare) refl))) (λ k x us rest r after. tt))
      (good_told end d holding (λ front rest x r. ap (λ (n : ℕ). condition n x) (opens_place (is_mark OpenSquare) front rest (unit_opens d front x r))) (good_unit end d))
      (λ ts rest x r after. holding_stops d ts rest x r))

  -- and so is what stands behind WHERE, or its absence
  good_where : Good end d ReadsWhere EndsWhere (λ e. where_at e end)
  good_where =
      good_as end d where_of (of_where d) (λ ts h. h)
      (good_if_first end d (is_word Where) (λ p. good_before end d (λ ts h. h.1) (good_separated end d (is_word And) one and_one good_clause ends_unit))
      (good_nothing end d [] EndsWhere) nothing_stops)

  good_sequence : Good end d (λ _. SequenceRow) (λ _. Unit {0}) (λ _. sequence_at end)
  good_sequence =
      good_then end d (good_fixed end d (is_word Event) (Tok.word (codes "EVENT")) refl)
      (λ e. good_then end d (good_fixed end d (is_word Seq) (Tok.word (codes "SEQ")) refl)
      (λ s. good_then end d (good_open end d)
      (λ o. good_then end d (good_parts end d) (λ ps. good_giving end d (λ c. ps) (good_close end d)) (λ ps qs us rest r after. closing_stops ps qs us rest r))
      (λ o ps us rest r after. tt)) (λ s ps us rest r after. tt)) (λ e ps us rest r after. tt)

  good_window : Good end d (λ _. WindowRow) (λ _. Unit {0}) (λ _. window_at end)
  good_window =
      good_then end d (good_fixed end d (is_word Within) (Tok.word (codes "WITHIN")) refl) (λ w. good_expect end d number_of (Tok.number (48 ∷ [])) 0 refl) (λ w x us rest r after. tt)

  -- a query's front is read well, whatever follows it
  pub good_query : Good end d ReadsQuery (λ _. Unit {0}) (λ e. query_front e end)
  good_query =
      good_as end d query_of (of_query d) (λ ts h. h)
      (good_then end d good_sequence
      (λ ps. good_then end d good_where (λ cs. good_giving end d (syntax ps cs) good_window) (λ cs q us rest r after. ends_where ps cs q us rest r)) (λ ps q us rest r after. tt))
