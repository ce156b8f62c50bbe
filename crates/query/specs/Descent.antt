-- Reading a text into a draft: the readers of the grammar, each over the draft that it changes. Assumes nothing.
use Rattle.std.specs.Prelude.{◌≡◌, ℕ, IfOk, zero, suc, Bool, true, false, List, length, Ok, Err, Result}
use Rattle.std.specs.Borrow.{MutBor}
use Rattle.grammar.specs.Shown.{Onward}
use Rattle.grammar.specs.Known.{is_mark, is_word, variable_of, kind_of, number_of}
use Rattle.grammar.specs.Reading.{Read, then, giving, expect, fixed, if_first, more, first_place, test_at, finished}
use Rattle.grammar.specs.Syntax.{Syntax}
use Rattle.grammar.specs.declared.fault.GrammarFault.{GrammarFault}
use Rattle.grammar.specs.declared.fault.GrammarFault.TheVariants.{TooDeep}
use Rattle.letters.specs.Tokens.{Tok, Placed, ahead, end_of}
use Rattle.letters.specs.declared.symbol.Symbol.TheVariants.{Open, Close, Comma, Not, OpenSquare, CloseSquare}
use Rattle.letters.specs.declared.word.Class.TheVariants as class
use Rattle.query.specs.declared.descent.Reader.{Reader}
use Rattle.sense.specs.Drafted.{part_begun, kind_added, part_ended, parts_ended, with_clauses, key_asked, clause_begun, clause_ended, joined, test_added, window_set}
use Rattle.sense.specs.Drafting.{drafted}
use Rattle.sense.specs.declared.clauses.Step.{Step}
use Rattle.sense.specs.declared.clauses.Step.TheVariants.{And, Or}
use Rattle.sense.specs.declared.draft.Draft.{Draft}

-- what a reader gives, and the draft that it leaves
abbrev pub left : Result (Unit {0}) GrammarFault → Reader → Read Draft
left (Ok u) s = Ok (s.draft, ahead s.tokens)
left (Err e) s = Err e

abbrev pub Run : Type 0
Run = Draft → List Placed → Read Draft

-- a reader that goes from s over its tokens as `run` says, and leaves t; if it gives no fault, it took a token at least
pub record Reads (run : ℕ → Run) (s : Reader) (r : Result (Unit {0}) GrammarFault) (t : Reader) : Type 0 where
  pub value : left r t ≡ run (end_of s.tokens) s.draft (ahead s.tokens)
  pub onward : IfOk r (λ u. Onward s.tokens t.tokens)

-- first { separator next }
abbrev pub row : (Tok → Bool) → Run → Run → Run
row separator first next d ts = then (first d ts) (λ d' rest. more separator next (length rest) d' rest)

-- calls of a reader go on where they give no fault
abbrev pub Calls : Type 1
Calls = MutBor Reader → Result (Unit {0}) GrammarFault → MutBor Reader → Type 0

abbrev pub Advances : Calls → Type 0
Advances gives = (s : MutBor Reader) (r : Result (Unit {0}) GrammarFault) (t : MutBor Reader) → gives s r t → IfOk r (λ u. Onward s.now.tokens t.now.tokens)

-- they read as this says
abbrev pub Runs : Calls → (ℕ → Run) → Type 0
Runs gives run =
    (s : MutBor Reader) (r : Result (Unit {0}) GrammarFault) (t : MutBor Reader) → gives s r t → left r t.now ≡ run (end_of s.now.tokens) s.now.draft (ahead s.now.tokens)

-- a row of what they read
pub record Repeats (gives : Calls) (separator : Tok → Bool) (s : Reader) (r : Result (Unit {0}) GrammarFault) (t : Reader) : Type 0 where
  pub reads : (run : ℕ → Run) → Runs gives run → left r t ≡ row separator (run (end_of s.tokens)) (run (end_of s.tokens)) s.draft (ahead s.tokens)

-- ---- parts

abbrev pub kind_run : ℕ → Run
kind_run end d ts = giving (kind_added d) (expect kind_of end ts)

abbrev pub kinds_row : ℕ → Run
kinds_row end d ts = row (is_mark Comma) (kind_run end) (kind_run end) d ts

abbrev pub kinds_run : ℕ → Run
kinds_run end d ts =
    if_first (is_word class.Any)
    (λ p rest. then (fixed (is_mark Open) end rest) (λ o listed.
    then (kinds_row end d listed) (λ d' after. giving (λ c. d') (fixed (is_mark Close) end after))))
    (λ us. kind_run end d us) ts

-- what follows the ! of a negative part at the place p
abbrev pub negative_run : ℕ → ℕ → Run
negative_run p end d ts =
    then (fixed (is_mark Open) end ts) (λ o inside. then (kinds_run end d inside) (λ d' after.
    then (expect variable_of end after) (λ v closing. giving (λ c. part_ended d' p true v) (fixed (is_mark Close) end closing))))

abbrev pub part_run : ℕ → Run
part_run end d ts =
    if_first (is_mark Not) (λ p rest. negative_run p end (part_begun d) rest)
    (λ us. then (kinds_run end (part_begun d) us) (λ d' after. giving (part_ended d' (first_place us) false) (expect variable_of end after))) ts

abbrev pub parts_run : ℕ → Run
parts_run end d ts = row (is_mark Comma) (part_run end) (part_run end) d ts

-- ---- conditions

-- a next condition, joined to the one before
abbrev pub joining : Step → Run → Run
joining s run d ts = giving (λ d'. joined d' s) (run d ts)

abbrev pub unit_with : ℕ → (Draft → ℕ → List Placed → Read Draft) → Run
unit_with end inner d ts = if_first (is_mark Open) (inner d) (λ us. giving (λ w. test_added d w.says w.place) (test_at end us)) ts

abbrev pub all_with : ℕ → (Draft → ℕ → List Placed → Read Draft) → Run
all_with end inner d ts = row (is_word class.And) (unit_with end inner) (joining And (unit_with end inner)) d ts

abbrev pub either_with : ℕ → (Draft → ℕ → List Placed → Read Draft) → Run
either_with end inner d ts = row (is_word class.Or) (all_with end inner) (joining Or (all_with end inner)) d ts

abbrev pub closed : ℕ → Draft → List Placed → Read Draft
closed end d ts = giving (λ c. d) (fixed (is_mark Close) end ts)

abbrev pub either_run : ℕ → ℕ → Run
either_run zero end d ts = either_with end (λ d' p rest. Err (TooDeep p)) d ts
either_run (suc n) end d ts = either_with end (λ d' p rest. then (either_run n end d' rest) (closed end)) d ts

abbrev pub inner_run : ℕ → ℕ → Draft → ℕ → List Placed → Read Draft
inner_run zero end d p rest = Err (TooDeep p)
inner_run (suc n) end d p rest = then (either_run n end d rest) (closed end)

abbrev pub unit_run : ℕ → ℕ → Run
unit_run n end d ts = unit_with end (inner_run n end) d ts

abbrev pub all_run : ℕ → ℕ → Run
all_run n end d ts = all_with end (inner_run n end) d ts

-- ---- queries

abbrev pub clause_run : ℕ → ℕ → Run
clause_run n end d ts =
    if_first (is_mark OpenSquare)
    (λ p rest. then (fixed (is_word class.Key) end rest) (λ k after. giving (λ c. with_clauses d (key_asked d.clauses)) (fixed (is_mark CloseSquare) end after)))
    (λ us. giving (λ d'. clause_ended d' (first_place us)) (unit_run n end (with_clauses d (clause_begun d.clauses)) us)) ts

abbrev pub clauses_run : ℕ → ℕ → Run
clauses_run n end d ts = row (is_word class.And) (clause_run n end) (clause_run n end) d ts

abbrev pub where_run : ℕ → ℕ → Run
where_run n end d ts = if_first (is_word class.Where) (λ p rest. clauses_run n end d rest) (λ us. Ok (d, us)) ts

abbrev pub sequence_run : ℕ → Run
sequence_run end d ts =
    then (fixed (is_word class.Event) end ts) (λ e rest. then (fixed (is_word class.Seq) end rest) (λ s after. then (fixed (is_mark Open) end after) (λ o inside.
    then (parts_run end d inside) (λ d' closing. giving (λ c. parts_ended d') (fixed (is_mark Close) end closing)))))

abbrev pub window_run : ℕ → Run
window_run end d ts = then (fixed (is_word class.Within) end ts) (λ w rest. giving (window_set d) (expect number_of end rest))

abbrev pub query_front_run : ℕ → ℕ → Run
query_front_run n end d ts =
    then (sequence_run end d ts) (λ d' rest. then (where_run n end d' rest) (λ d'' after. window_run end d'' after))

abbrev pub query_run : ℕ → ℕ → Draft → List Placed → Result Draft GrammarFault
query_run n end d ts = finished (query_front_run n end d ts)

abbrev pub whole : Result (Unit {0}) GrammarFault → Draft → Result Draft GrammarFault
whole (Ok u) d = Ok d
whole (Err e) d = Err e

-- what was read, as a draft
abbrev pub as_draft : Result Syntax GrammarFault → Result Draft GrammarFault
as_draft (Ok q) = Ok (drafted q)
as_draft (Err e) = Err e
