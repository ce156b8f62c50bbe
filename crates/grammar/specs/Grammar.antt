-- The grammar of queries: which rows of tokens read as what, one constructor for each way to write it. Assumes nothing.
use Rattle.std.specs.Prelude.{◌≡◌, ℕ, zero, suc, Bool, true, false, List, [], ◌∷◌, ◌++◌, pos, neg_ℤ, Some, Option}
use Rattle.grammar.specs.Known.{is_mark, is_word, variable_of, reading_of, kind_of, number_of, comparison_of}
use Rattle.grammar.specs.Reading.{name, written, part, syntax, first_place, one, and_one}
use Rattle.grammar.specs.Syntax.{Written, Cond, Clause, Word, Part, Syntax}
use Rattle.grammar.specs.Syntax.Clause.{same_key, condition}
use Rattle.grammar.specs.Syntax.Cond.{test, both, either}
use Rattle.grammar.specs.declared.test.Comparison.{Comparison}
use Rattle.grammar.specs.declared.test.Item.{Item}
use Rattle.grammar.specs.declared.test.Item.TheVariants as item
use Rattle.grammar.specs.declared.test.Name.{Name}
use Rattle.grammar.specs.declared.test.Side.{Side}
use Rattle.grammar.specs.declared.test.Side.TheVariants.{Alone, Sum, Difference}
use Rattle.letters.specs.Tokens.{Tok, Placed}
use Rattle.letters.specs.declared.symbol.Symbol.TheVariants.{Open, Close, Comma, Not, Dot, OpenSquare, CloseSquare, Plus, Minus}
use Rattle.letters.specs.declared.word.Class.TheVariants.{Event, Seq, Where, Within, And, Or, Any, Key}

-- one token that f knows: what it is, and its place
pub data Knows {X : Type 0} (f : Tok → Option X) : List Placed → X × ℕ → Type 0 where
  token : (t : Placed) (x : X) → f t.0 ≡ Some x → Knows f (t ∷ []) (x, t.1)

-- part { separator part }, grouped from the left
pub data Separated {X S : Type 0} (separator : Tok → Bool) (start : X → S) (join : S → X → S) (Part : List Placed → X → Type 0) : List Placed → S → Type 0 where
  first : (ts : List Placed) (x : X) → Part ts x → Separated separator start join Part ts (start x)
  next : (ts us : List Placed) (t : Placed) (s : S) (x : X) → Separated separator start join Part ts s → separator t.0 ≡ true → Part us x →
      Separated separator start join Part (ts ++ (t ∷ us)) (join s x)

-- ---- tests

pub data ReadsItem : List Placed → Item Name → Type 0 where
  reading : (v d r : Placed) (letter n : ℕ) → variable_of v.0 ≡ Some letter → is_mark Dot d.0 ≡ true → reading_of r.0 ≡ Some n →
      ReadsItem (v ∷ d ∷ r ∷ []) (item.Reading (name letter v.1) n)
  number : (t : Placed) (n : ℕ) → number_of t.0 ≡ Some n → ReadsItem (t ∷ []) (item.Number (pos n))
  minus : (m t : Placed) (n : ℕ) → is_mark Minus m.0 ≡ true → number_of t.0 ≡ Some n → ReadsItem (m ∷ t ∷ []) (item.Number (neg_ℤ (pos n)))

pub data ReadsSide : List Placed → Side Name → Type 0 where
  alone : (ts : List Placed) (i : Item Name) → ReadsItem ts i → ReadsSide ts (Alone i)
  sum : (ts us : List Placed) (t : Placed) (i j : Item Name) → ReadsItem ts i → is_mark Plus t.0 ≡ true → ReadsItem us j → ReadsSide (ts ++ (t ∷ us)) (Sum i j)
  difference : (ts us : List Placed) (t : Placed) (i j : Item Name) → ReadsItem ts i → is_mark Minus t.0 ≡ true → ReadsItem us j →
      ReadsSide (ts ++ (t ∷ us)) (Difference i j)

pub data ReadsTest : List Placed → Written → Type 0 where
  compared : (ts us : List Placed) (t : Placed) (left right : Side Name) (c : Comparison) → ReadsSide ts left → comparison_of t.0 ≡ Some c → ReadsSide us right →
      ReadsTest (ts ++ (t ∷ us)) (written (first_place ts) left c right)

-- ---- parts

pub data ReadsKinds : List Placed → List Word → Type 0 where
  kind : (ts : List Placed) (w : Word) → Knows kind_of ts w → ReadsKinds ts (one w)
  any : (a o c : Placed) (ts : List Placed) (ws : List Word) → is_word Any a.0 ≡ true → is_mark Open o.0 ≡ true →
      Separated (is_mark Comma) one and_one (Knows kind_of) ts ws → is_mark Close c.0 ≡ true → ReadsKinds (a ∷ o ∷ (ts ++ (c ∷ []))) ws

pub data ReadsPart : List Placed → Part → Type 0 where
  positive : (ts : List Placed) (v : Placed) (ws : List Word) (letter : ℕ) → ReadsKinds ts ws → variable_of v.0 ≡ Some letter →
      ReadsPart (ts ++ (v ∷ [])) (part (first_place ts) false ws (letter, v.1))
  negative : (n o v c : Placed) (ts : List Placed) (ws : List Word) (letter : ℕ) → is_mark Not n.0 ≡ true → is_mark Open o.0 ≡ true →
      ReadsKinds ts ws → variable_of v.0 ≡ Some letter → is_mark Close c.0 ≡ true →
      ReadsPart (n ∷ o ∷ (ts ++ (v ∷ c ∷ []))) (part n.1 true ws (letter, v.1))

-- ---- conditions; `Inner` is what may stand in a parenthesis

pub data ReadsUnit (Inner : List Placed → Cond → Type 0) : List Placed → Cond → Type 0 where
  lone : (ts : List Placed) (t : Written) → ReadsTest ts t → ReadsUnit Inner ts (test t)
  parenthesis : (o c : Placed) (ts : List Placed) (x : Cond) → is_mark Open o.0 ≡ true → Inner ts x → is_mark Close c.0 ≡ true →
      ReadsUnit Inner (o ∷ (ts ++ (c ∷ []))) x

abbrev pub ReadsAll : (List Placed → Cond → Type 0) → List Placed → Cond → Type 0
ReadsAll Inner = Separated (is_word And) (λ c. c) both (ReadsUnit Inner)

abbrev pub EitherOf : (List Placed → Cond → Type 0) → List Placed → Cond → Type 0
EitherOf Inner = Separated (is_word Or) (λ c. c) either (ReadsAll Inner)

-- a condition whose parentheses nest at most d deep
abbrev pub ReadsEither : ℕ → List Placed → Cond → Type 0
ReadsEither zero = EitherOf (λ ts x. ⊥)
ReadsEither (suc d) = EitherOf (ReadsEither d)

-- what may stand in a parenthesis, if d may be nested with it
abbrev pub Inside : ℕ → List Placed → Cond → Type 0
Inside zero = λ ts x. ⊥
Inside (suc d) = ReadsEither d

-- ---- queries

pub data ReadsClause (d : ℕ) : List Placed → Clause → Type 0 where
  key : (o k c : Placed) → is_mark OpenSquare o.0 ≡ true → is_word Key k.0 ≡ true → is_mark CloseSquare c.0 ≡ true → ReadsClause d (o ∷ k ∷ c ∷ []) same_key
  holds : (ts : List Placed) (x : Cond) → ReadsUnit (Inside d) ts x → ReadsClause d ts (condition (first_place ts) x)

pub data ReadsWhere (d : ℕ) : List Placed → List Clause → Type 0 where
  none : ReadsWhere d [] []
  some : (w : Placed) (ts : List Placed) (cs : List Clause) → is_word Where w.0 ≡ true → Separated (is_word And) one and_one (ReadsClause d) ts cs →
      ReadsWhere d (w ∷ ts) cs

pub data ReadsQuery (d : ℕ) : List Placed → Syntax → Type 0 where
  query : (e s o c w n : Placed) (ts us : List Placed) (ps : List Part) (cs : List Clause) (window : ℕ) →
      is_word Event e.0 ≡ true → is_word Seq s.0 ≡ true → is_mark Open o.0 ≡ true →
      Separated (is_mark Comma) one and_one ReadsPart ts ps → is_mark Close c.0 ≡ true →
      ReadsWhere d us cs → is_word Within w.0 ≡ true → number_of n.0 ≡ Some window →
      ReadsQuery d (e ∷ s ∷ o ∷ (ts ++ (c ∷ (us ++ (w ∷ n ∷ []))))) (syntax ps cs (window, n.1))
