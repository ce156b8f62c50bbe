-- What tokens read as, by computation: each of these takes tokens off the front of a row, and gives what they say and the tokens that
-- follow, or the first fault. `end` is the length of the text. Assumes nothing.
use Rattle.std.specs.Prelude.{ℕ, zero, suc, Bool, true, false, cond, List, [], ◌∷◌, ◌++◌, length, pos, neg_ℤ, Some, None, Ok, Err, Option, Result}
use Rattle.grammar.specs.Known.{is_mark, is_word, variable_of, reading_of, kind_of, number_of, comparison_of}
use Rattle.grammar.specs.Syntax.{Written, Cond, Clause, Word, Part, Syntax}
use Rattle.grammar.specs.Syntax.Clause.{same_key, condition}
use Rattle.grammar.specs.Syntax.Cond.{test, both, either}
use Rattle.grammar.specs.declared.fault.GrammarFault.{GrammarFault}
use Rattle.grammar.specs.declared.fault.GrammarFault.TheVariants.{WrongToken, TooDeep}
use Rattle.grammar.specs.declared.test.Comparison.{Comparison}
use Rattle.grammar.specs.declared.test.Item.{Item}
use Rattle.grammar.specs.declared.test.Item.TheVariants as item
use Rattle.grammar.specs.declared.test.Name.{Name}
use Rattle.grammar.specs.declared.test.Side.{Side}
use Rattle.grammar.specs.declared.test.Side.TheVariants.{Alone, Sum, Difference}
use Rattle.letters.specs.Tokens.{Tok, Placed}
use Rattle.letters.specs.declared.symbol.Symbol.TheVariants.{Open, Close, Comma, Not, Dot, OpenSquare, CloseSquare, Plus, Minus}
use Rattle.letters.specs.declared.word.Class.TheVariants.{Event, Seq, Where, Within, And, Or, Any, Key}

-- ---- what the readers are made of

abbrev pub Read : Type 0 → Type 0
Read X = Result (X × List Placed) GrammarFault

-- and then
abbrev pub then : {X Y : Type 0} → Read X → (X → List Placed → Read Y) → Read Y
then (Ok p) next = next p.0 p.1
then (Err e) next = Err e

-- the same tokens, told in another way
abbrev pub giving : {X Y : Type 0} → (X → Y) → Read X → Read Y
giving f (Ok p) = Ok (f p.0, p.1)
giving f (Err e) = Err e

-- the first token is known, or wrong
abbrev pub known : {X : Type 0} → Option X → ℕ → List Placed → Read (X × ℕ)
known None p ts = Err (WrongToken p)
known (Some x) p ts = Ok ((x, p), ts)

-- one token that f knows: what it is, and its place
abbrev pub expect : {X : Type 0} → (Tok → Option X) → ℕ → List Placed → Read (X × ℕ)
expect f end [] = Err (WrongToken end)
expect f end (t ∷ ts) = known (f t.0) t.1 ts

-- one token that passes the test f: its place
abbrev pub fixed : (Tok → Bool) → ℕ → List Placed → Read ℕ
fixed f end [] = Err (WrongToken end)
fixed f end (t ∷ ts) = cond (f t.0) (Ok (t.1, ts)) (Err (WrongToken t.1))

-- one way behind a first token that passes the test f, given its place, and another with all tokens
abbrev pub if_first : {Y : Type 0} → (Tok → Bool) → (ℕ → List Placed → Read Y) → (List Placed → Read Y) → List Placed → Read Y
if_first f hit miss [] = miss []
if_first f hit miss (t ∷ ts) = cond (f t.0) (hit t.1 ts) (miss (t ∷ ts))

abbrev pub by_option : {X Y : Type 0} → Option X → (X → Y) → Y → Y
by_option None hit miss = miss
by_option (Some x) hit miss = hit x

-- the same with a token that f knows
abbrev pub if_known : {X Y : Type 0} → (Tok → Option X) → (X → ℕ → List Placed → Read Y) → (List Placed → Read Y) → List Placed → Read Y
if_known f hit miss [] = miss []
if_known f hit miss (t ∷ ts) = by_option (f t.0) (λ x. hit x t.1 ts) (miss (t ∷ ts))

-- what follows a first token that passes the test f
abbrev pub past : (Tok → Bool) → List Placed → Option (List Placed)
past f [] = None
past f (t ∷ ts) = cond (f t.0) (Some ts) None

-- { separator part }, at most `turns` times: each part changes what was read so far
abbrev pub more : {S : Type 0} → (Tok → Bool) → (S → List Placed → Read S) → ℕ → S → List Placed → Read S
more separator part zero s ts = Ok (s, ts)
more separator part (suc turns) s ts =
    by_option (past separator ts) (λ rest. then (part s rest) (λ s' after. more separator part turns s' after)) (Ok (s, ts))

-- part { separator part }, grouped from the left; as many turns as there are tokens suffice
abbrev pub separated : {X S : Type 0} → (Tok → Bool) → (X → S) → (S → X → S) → (List Placed → Read X) → List Placed → Read S
separated separator start join part ts =
    then (giving start (part ts)) (λ s rest. more separator (λ s' after. giving (join s') (part after)) (length rest) s rest)

-- the place of the first token
abbrev pub first_place : List Placed → ℕ
first_place [] = 0
first_place (t ∷ ts) = t.1

-- ---- tests

abbrev pub name : ℕ → ℕ → Name
name letter place = record { letter = letter; place = place }

abbrev pub item_at : ℕ → List Placed → Read (Item Name)
item_at end ts =
    if_first (is_mark Minus) (λ p rest. giving (λ n. item.Number (neg_ℤ (pos n.0))) (expect number_of end rest))
    (λ us. if_known variable_of (λ v p rest. then (fixed (is_mark Dot) end rest) (λ q after. giving (λ r. item.Reading (name v p) r.0) (expect reading_of end after)))
    (λ vs. giving (λ n. item.Number (pos n.0)) (expect number_of end vs)) us) ts

-- what may follow the first item of a side
abbrev pub side_from : ℕ → Item Name → List Placed → Read (Side Name)
side_from end i ts =
    if_first (is_mark Plus) (λ p rest. giving (Sum i) (item_at end rest))
    (λ us. if_first (is_mark Minus) (λ p rest. giving (Difference i) (item_at end rest)) (λ vs. Ok (Alone i, vs)) us) ts

abbrev pub side_at : ℕ → List Placed → Read (Side Name)
side_at end ts = then (item_at end ts) (side_from end)

abbrev pub written : ℕ → Side Name → Comparison → Side Name → Written
written place left comparison right = record { says = record { left = left; comparison = comparison; right = right }; place = place }

abbrev pub test_at : ℕ → List Placed → Read Written
test_at end ts =
    then (side_at end ts) (λ left rest. then (expect comparison_of end rest) (λ c after. giving (written (first_place ts) left c.0) (side_at end after)))

-- ---- parts

abbrev pub one : {X : Type 0} → X → List X
one x = x ∷ []

-- one more at the end
abbrev pub and_one : {X : Type 0} → List X → X → List X
and_one xs x = xs ++ (x ∷ [])

abbrev pub kinds_at : ℕ → List Placed → Read (List Word)
kinds_at end ts =
    if_first (is_word Any)
    (λ p rest. then (fixed (is_mark Open) end rest) (λ o listed.
    then (separated (is_mark Comma) one and_one (expect kind_of end) listed) (λ ks after. giving (λ c. ks) (fixed (is_mark Close) end after))))
    (λ us. giving one (expect kind_of end us)) ts

abbrev pub part : ℕ → Bool → List Word → ℕ × ℕ → Part
part place negative kinds v = record { place = place; negative = negative; kinds = kinds; variable = name v.0 v.1 }

abbrev pub part_at : ℕ → List Placed → Read Part
part_at end ts =
    if_first (is_mark Not)
    (λ p rest. then (fixed (is_mark Open) end rest) (λ o inside. then (kinds_at end inside) (λ ks after.
    then (expect variable_of end after) (λ v closing. giving (λ c. part p true ks v) (fixed (is_mark Close) end closing)))))
    (λ us. then (kinds_at end us) (λ ks after. giving (part (first_place us) false ks) (expect variable_of end after))) ts

abbrev pub parts_at : ℕ → List Placed → Read (List Part)
parts_at end ts = separated (is_mark Comma) one and_one (part_at end) ts

-- ---- conditions; `inner` reads what follows a parenthesis, whose place it is given

abbrev pub unit_with : ℕ → (ℕ → List Placed → Read Cond) → List Placed → Read Cond
unit_with end inner ts = if_first (is_mark Open) inner (λ us. giving test (test_at end us)) ts

abbrev pub all_with : ℕ → (ℕ → List Placed → Read Cond) → List Placed → Read Cond
all_with end inner ts = separated (is_word And) (λ c. c) both (unit_with end inner) ts

abbrev pub either_with : ℕ → (ℕ → List Placed → Read Cond) → List Placed → Read Cond
either_with end inner ts = separated (is_word Or) (λ c. c) either (all_with end inner) ts

abbrev pub closed : ℕ → Cond → List Placed → Read Cond
closed end c ts = giving (λ p. c) (fixed (is_mark Close) end ts)

-- a condition whose parentheses nest at most d deep
abbrev pub either_at : ℕ → ℕ → List Placed → Read Cond
either_at zero end ts = either_with end (λ p rest. Err (TooDeep p)) ts
either_at (suc d) end ts = either_with end (λ p rest. then (either_at d end rest) (closed end)) ts

-- what follows a parenthesis at the place p, if d more may be nested with it
abbrev pub inner_at : ℕ → ℕ → ℕ → List Placed → Read Cond
inner_at zero end p rest = Err (TooDeep p)
inner_at (suc d) end p rest = then (either_at d end rest) (closed end)

abbrev pub unit_at : ℕ → ℕ → List Placed → Read Cond
unit_at d end ts = unit_with end (inner_at d end) ts

abbrev pub all_at : ℕ → ℕ → List Placed → Read Cond
all_at d end ts = all_with end (inner_at d end) ts

-- ---- queries

abbrev pub clause_at : ℕ → ℕ → List Placed → Read Clause
clause_at d end ts =
    if_first (is_mark OpenSquare)
    (λ p rest. then (fixed (is_word Key) end rest) (λ k after. giving (λ c. same_key) (fixed (is_mark CloseSquare) end after)))
    (λ us. giving (condition (first_place us)) (unit_at d end us)) ts

abbrev pub clauses_at : ℕ → ℕ → List Placed → Read (List Clause)
clauses_at d end ts = separated (is_word And) one and_one (clause_at d end) ts

abbrev pub where_at : ℕ → ℕ → List Placed → Read (List Clause)
where_at d end ts = if_first (is_word Where) (λ p rest. clauses_at d end rest) (λ us. Ok ([], us)) ts

abbrev pub syntax : List Part → List Clause → ℕ × ℕ → Syntax
syntax parts clauses window = record { parts = parts; clauses = clauses; window = window.0; window_place = window.1 }

-- EVENT SEQ ( parts )
abbrev pub sequence_at : ℕ → List Placed → Read (List Part)
sequence_at end ts =
    then (fixed (is_word Event) end ts) (λ e rest. then (fixed (is_word Seq) end rest) (λ s after. then (fixed (is_mark Open) end after) (λ o inside.
    then (parts_at end inside) (λ ps closing. giving (λ c. ps) (fixed (is_mark Close) end closing)))))

-- WITHIN number
abbrev pub window_at : ℕ → List Placed → Read (ℕ × ℕ)
window_at end ts = then (fixed (is_word Within) end ts) (λ w rest. expect number_of end rest)

abbrev pub query_front : ℕ → ℕ → List Placed → Read Syntax
query_front d end ts =
    then (sequence_at end ts) (λ ps rest. then (where_at d end rest) (λ cs after. giving (syntax ps cs) (window_at end after)))

-- nothing may follow
abbrev pub finished : {X : Type 0} → Read X → Result X GrammarFault
finished (Ok (x, [])) = Ok x
finished (Ok (x, t ∷ ts)) = Err (WrongToken t.1)
finished (Err e) = Err e

-- a whole query, whose conditions nest at most d deep
abbrev pub query_at : ℕ → ℕ → List Placed → Result Syntax GrammarFault
query_at d end ts = finished (query_front d end ts)
