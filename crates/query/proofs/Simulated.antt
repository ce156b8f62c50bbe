-- Reading into a draft is drafting what was read. Assumes nothing.
use Rattle.std.proofs.Common.{◌≡◌, ℕ, zero, suc, true, false, List, [], ◌∷◌, ◌++◌, Ok, Err, Result, sym, refl, ap, ◌∙◌}
use Rattle.grammar.specs.Known.{is_mark, is_word, variable_of, kind_of}
use Rattle.grammar.specs.Reading as reading
use Rattle.grammar.specs.Reading.{Read, then, giving, expect, fixed, if_first, first_place, one, and_one, separated, kinds_at, part_at, parts_at, test_at, part, syntax, clause_at, clauses_at, where_at, sequence_at, window_at, query_front, query_at, finished}
use Rattle.grammar.specs.Syntax.{Cond, Clause, Word, Part, Syntax}
use Rattle.grammar.specs.Syntax.Clause.{same_key, condition}
use Rattle.grammar.specs.Syntax.Cond.{test, both, either}
use Rattle.grammar.specs.declared.fault.GrammarFault.{GrammarFault}
use Rattle.letters.specs.Tokens.{Placed}
use Rattle.letters.specs.declared.symbol.Symbol.TheVariants.{Open, Close, Comma, Not, OpenSquare, CloseSquare}
use Rattle.letters.specs.declared.word.Class.TheVariants as class
use Rattle.query.proofs.Told.{giving_then, then_giving, then_same, giving_giving, giving_same, if_first_told, row_told}
use Rattle.query.specs.Descent.{kind_run, kinds_row, kinds_run, part_run, parts_run, joining, unit_with, all_with, either_with, either_run, inner_run, unit_run, clause_run, clauses_run, where_run, sequence_run, window_run, query_front_run, query_run, as_draft}
use Rattle.sense.specs.Drafted.{no_draft, part_begun, kind_added, part_ended, parts_ended, with_clauses, clause_begun, clause_ended, joined, window_set}
use Rattle.sense.specs.Drafting.{kinds_drafted, part_drafted, parts_drafted, cond_drafted, clause_drafted, clauses_drafted, drafted}
use Rattle.sense.specs.declared.clauses.Step.TheVariants.{And, Or}
use Rattle.sense.specs.declared.draft.Draft.{Draft}

-- ---- parts

kinds_one_more : (d : Draft) (ws : List Word) (w : Word) → kind_added (kinds_drafted d ws) w ≡ kinds_drafted d (ws ++ (w ∷ []))
kinds_one_more d [] w = refl
kinds_one_more d (v ∷ ws) w = kinds_one_more (kind_added d v) ws w

kinds_row_is : (end : ℕ) (d : Draft) (ts : List Placed) → kinds_row end d ts ≡ giving (kinds_drafted d) (separated (is_mark Comma) one and_one (expect kind_of end) ts)
kinds_row_is end d ts =
    row_told (kinds_drafted d) (is_mark Comma) one and_one (expect kind_of end) (kind_run end) (kind_run end) d (λ us. refl)
    (λ ws us. giving_same _ _ (expect kind_of end us) (kinds_one_more d ws)) ts

-- a reader, and then a closing token
enclosed : {X : Type 0} (f : X → Draft) (end : ℕ) (run : Read Draft) (r : Read X) → run ≡ giving f r →
    then run (λ d after. giving (λ c. d) (fixed (is_mark Close) end after)) ≡ giving f (then r (λ x after. giving (λ c. x) (fixed (is_mark Close) end after)))
enclosed f end run r is =
    ap (λ (s : Read Draft). then s (λ d after. giving (λ c. d) (fixed (is_mark Close) end after))) is ∙ then_giving f r _ ∙
    then_same r _ _ (λ x after. sym (giving_giving f (λ c. x) (fixed (is_mark Close) end after))) ∙ sym (giving_then f r _)

kinds_is : (end : ℕ) (d : Draft) (ts : List Placed) → kinds_run end d ts ≡ giving (kinds_drafted d) (kinds_at end ts)
kinds_is end d ts =
    if_first_told (kinds_drafted d) (is_word class.Any) _ _ _ _
    (λ p rest. then_same (fixed (is_mark Open) end rest) _ _ (λ o listed. enclosed (kinds_drafted d) end _ _ (kinds_row_is end d listed)) ∙ sym (giving_then (kinds_drafted d) (fixed (is_mark Open) end rest) _))
    (λ us. sym (giving_giving (kinds_drafted d) one (expect kind_of end us))) ts

part_told : (end : ℕ) (d : Draft) (ts : List Placed) → part_run end d ts ≡ giving (part_drafted d) (part_at end ts)
part_told end d ts =
    let begun = part_begun d in
    if_first_told (part_drafted d) (is_mark Not) _ _ _ _
    (λ p rest. then_same (fixed (is_mark Open) end rest) _ _ (λ o inside.
    ap (λ (s : Read Draft). then s (λ d' after. then (expect variable_of end after) (λ v closing. giving (λ c. part_ended d' p true v) (fixed (is_mark Close) end closing)))) (kinds_is end begun inside) ∙
    then_giving (kinds_drafted begun) (kinds_at end inside) _ ∙
    then_same (kinds_at end inside) _ _ (λ ks after. then_same (expect variable_of end after) _ _ (λ v closing. sym (giving_giving (part_drafted d) (λ c. part p true ks v) (fixed (is_mark Close) end closing))) ∙
    sym (giving_then (part_drafted d) (expect variable_of end after) _)) ∙ sym (giving_then (part_drafted d) (kinds_at end inside) _)) ∙
    sym (giving_then (part_drafted d) (fixed (is_mark Open) end rest) _))
    (λ us. ap (λ (s : Read Draft). then s (λ d' after. giving (part_ended d' (first_place us) false) (expect variable_of end after))) (kinds_is end begun us) ∙
    then_giving (kinds_drafted begun) (kinds_at end us) _ ∙
    then_same (kinds_at end us) _ _ (λ ks after. sym (giving_giving (part_drafted d) (part (first_place us) false ks) (expect variable_of end after))) ∙
    sym (giving_then (part_drafted d) (kinds_at end us) _)) ts

parts_one_more : (d : Draft) (ps : List Part) (p : Part) → part_drafted (parts_drafted d ps) p ≡ parts_drafted d (ps ++ (p ∷ []))
parts_one_more d [] p = refl
parts_one_more d (q ∷ ps) p = parts_one_more (part_drafted d q) ps p

parts_told : (end : ℕ) (d : Draft) (ts : List Placed) → parts_run end d ts ≡ giving (parts_drafted d) (parts_at end ts)
parts_told end d ts =
    row_told (parts_drafted d) (is_mark Comma) one and_one (part_at end) (part_run end) (part_run end) d (λ us. part_told end d us)
    (λ ps us. part_told end (parts_drafted d ps) us ∙ giving_same _ _ (part_at end us) (parts_one_more d ps)) ts

-- ---- conditions: at one depth, given what stands in a parenthesis

module _ (end : ℕ) (inner : Draft → ℕ → List Placed → Read Draft) (inner' : ℕ → List Placed → Read Cond)
    (nested : (d : Draft) (p : ℕ) (ts : List Placed) → inner d p ts ≡ giving (cond_drafted d) (inner' p ts)) where
  unit_told : (d : Draft) (ts : List Placed) → unit_with end inner d ts ≡ giving (cond_drafted d) (reading.unit_with end inner' ts)
  unit_told d ts =
      if_first_told (cond_drafted d) (is_mark Open) (inner d) inner' _ _ (nested d) (λ us. sym (giving_giving (cond_drafted d) test (test_at end us))) ts

  all_told : (d : Draft) (ts : List Placed) → all_with end inner d ts ≡ giving (cond_drafted d) (reading.all_with end inner' ts)
  all_told d ts =
      row_told (cond_drafted d) (is_word class.And) (λ c. c) both (reading.unit_with end inner') (unit_with end inner) (joining And (unit_with end inner)) d (unit_told d)
      (λ c us. ap (giving (λ (d' : Draft). joined d' And)) (unit_told (cond_drafted d c) us) ∙ giving_giving _ (cond_drafted (cond_drafted d c)) (reading.unit_with end inner' us)) ts

  either_told : (d : Draft) (ts : List Placed) → either_with end inner d ts ≡ giving (cond_drafted d) (reading.either_with end inner' ts)
  either_told d ts =
      row_told (cond_drafted d) (is_word class.Or) (λ c. c) either (reading.all_with end inner') (all_with end inner) (joining Or (all_with end inner)) d (all_told d)
      (λ c us. ap (giving (λ (d' : Draft). joined d' Or)) (all_told (cond_drafted d c) us) ∙ giving_giving _ (cond_drafted (cond_drafted d c)) (reading.all_with end inner' us)) ts

either_is : (n end : ℕ) (d : Draft) (ts : List Placed) → either_run n end d ts ≡ giving (cond_drafted d) (reading.either_at n end ts)
either_is zero end d ts = either_told end _ _ (λ d' p us. refl) d ts
either_is (suc n) end d ts = either_told end _ _ (λ d' p us. enclosed (cond_drafted d') end _ _ (either_is n end d' us)) d ts

inner_is : (n end : ℕ) (d : Draft) (p : ℕ) (ts : List Placed) → inner_run n end d p ts ≡ giving (cond_drafted d) (reading.inner_at n end p ts)
inner_is zero end d p ts = refl
inner_is (suc n) end d p ts = enclosed (cond_drafted d) end _ _ (either_is n end d ts)

unit_is : (n end : ℕ) (d : Draft) (ts : List Placed) → unit_run n end d ts ≡ giving (cond_drafted d) (reading.unit_at n end ts)
unit_is n end d ts = unit_told end (inner_run n end) (reading.inner_at n end) (inner_is n end) d ts

-- ---- queries

clause_is : (n end : ℕ) (d : Draft) (ts : List Placed) → clause_run n end d ts ≡ giving (clause_drafted d) (clause_at n end ts)
clause_is n end d ts =
    let begun = with_clauses d (clause_begun d.clauses) in
    if_first_told (clause_drafted d) (is_mark OpenSquare) _ _ _ _
    (λ p rest. then_same (fixed (is_word class.Key) end rest) _ _ (λ k after. sym (giving_giving (clause_drafted d) (λ c. same_key) (fixed (is_mark CloseSquare) end after))) ∙
    sym (giving_then (clause_drafted d) (fixed (is_word class.Key) end rest) _))
    (λ us. ap (giving (λ (d' : Draft). clause_ended d' (first_place us))) (unit_is n end begun us) ∙ giving_giving _ (cond_drafted begun) (reading.unit_at n end us) ∙
    sym (giving_giving (clause_drafted d) (condition (first_place us)) (reading.unit_at n end us))) ts

clauses_one_more : (d : Draft) (cs : List Clause) (c : Clause) → clause_drafted (clauses_drafted d cs) c ≡ clauses_drafted d (cs ++ (c ∷ []))
clauses_one_more d [] c = refl
clauses_one_more d (b ∷ cs) c = clauses_one_more (clause_drafted d b) cs c

clauses_is : (n end : ℕ) (d : Draft) (ts : List Placed) → clauses_run n end d ts ≡ giving (clauses_drafted d) (clauses_at n end ts)
clauses_is n end d ts =
    row_told (clauses_drafted d) (is_word class.And) one and_one (clause_at n end) (clause_run n end) (clause_run n end) d (clause_is n end d)
    (λ cs us. clause_is n end (clauses_drafted d cs) us ∙ giving_same _ _ (clause_at n end us) (clauses_one_more d cs)) ts

where_is : (n end : ℕ) (d : Draft) (ts : List Placed) → where_run n end d ts ≡ giving (clauses_drafted d) (where_at n end ts)
where_is n end d ts = if_first_told (clauses_drafted d) (is_word class.Where) _ _ _ (λ us. Ok ([], us)) (λ p rest. clauses_is n end d rest) (λ us. refl) ts

sequence_is : (end : ℕ) (d : Draft) (ts : List Placed) → sequence_run end d ts ≡ giving (λ ps. parts_ended (parts_drafted d ps)) (sequence_at end ts)
sequence_is end d ts =
    let f : List Part → Draft = λ ps. parts_ended (parts_drafted d ps) in
    then_same (fixed (is_word class.Event) end ts) _ _ (λ e rest.
    then_same (fixed (is_word class.Seq) end rest) _ _ (λ s after.
    then_same (fixed (is_mark Open) end after) _ _ (λ o inside.
    ap (λ (r : Read Draft). then r (λ d' closing. giving (λ c. parts_ended d') (fixed (is_mark Close) end closing))) (parts_told end d inside) ∙
    then_giving (parts_drafted d) (parts_at end inside) _ ∙
    then_same (parts_at end inside) _ _ (λ ps closing. sym (giving_giving f (λ c. ps) (fixed (is_mark Close) end closing))) ∙
    sym (giving_then f (parts_at end inside) _)) ∙
    sym (giving_then f (fixed (is_mark Open) end after) _)) ∙
    sym (giving_then f (fixed (is_word class.Seq) end rest) _)) ∙
    sym (giving_then f (fixed (is_word class.Event) end ts) _)

window_is : (end : ℕ) (d : Draft) (ts : List Placed) → window_run end d ts ≡ giving (window_set d) (window_at end ts)
window_is end d ts = sym (giving_then (window_set d) (fixed (is_word class.Within) end ts) _)

front_is : (n end : ℕ) (ts : List Placed) → query_front_run n end no_draft ts ≡ giving drafted (query_front n end ts)
front_is n end ts =
    ap (λ (r : Read Draft). then r (λ d rest. then (where_run n end d rest) (λ d' after. window_run end d' after))) (sequence_is end no_draft ts) ∙
    then_giving _ (sequence_at end ts) _ ∙
    then_same (sequence_at end ts) _ _ (λ ps rest.
    let d = parts_ended (parts_drafted no_draft ps) in
    ap (λ (r : Read Draft). then r (λ d' after. window_run end d' after)) (where_is n end d rest) ∙
    then_giving (clauses_drafted d) (where_at n end rest) _ ∙
    then_same (where_at n end rest) _ _ (λ cs after. window_is end (clauses_drafted d cs) after ∙ sym (giving_giving drafted (syntax ps cs) (window_at end after))) ∙
    sym (giving_then drafted (where_at n end rest) _)) ∙
    sym (giving_then drafted (sequence_at end ts) _)

finished_told : (r : Read Syntax) → finished (giving drafted r) ≡ as_draft (finished r)
finished_told (Ok (q, [])) = refl
finished_told (Ok (q, t ∷ ts)) = refl
finished_told (Err e) = refl

pub query_is : (n end : ℕ) (ts : List Placed) → query_run n end no_draft ts ≡ as_draft (query_at n end ts)
query_is n end ts = ap finished (front_is n end ts) ∙ finished_told (query_front n end ts)

-- from a new draft
pub drafts : (n end : ℕ) (d : Draft) (ts : List Placed) (x : Result Draft GrammarFault) → d ≡ no_draft → x ≡ query_run n end d ts → x ≡ as_draft (query_at n end ts)
drafts n end d ts x new is = is ∙ ap (λ (e : Draft). query_run n end e ts) new ∙ query_is n end ts
