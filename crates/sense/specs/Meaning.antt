-- What a query means: its parts, its clauses, with parts in the place of variables, and its window. Assumes nothing.
use Rattle.std.specs.Prelude.{ℕ, ◌+◌, ◌-◌, Bool, true, false, ◌||◌, List, [], ◌∷◌, ◌++◌, map, length, replicate, Some, None, Option, ◌==◌}
use Rattle.events.specs.Kind.{kind_named}
use Rattle.grammar.specs.Syntax.{Written, Cond, Clause, Word, Syntax}
use Rattle.grammar.specs.Syntax as syntax
use Rattle.grammar.specs.Syntax.Clause.{same_key, condition}
use Rattle.grammar.specs.Syntax.Cond.{test, both, either}
use Rattle.grammar.specs.declared.test.Item.{Item}
use Rattle.grammar.specs.declared.test.Item.TheVariants as item
use Rattle.grammar.specs.declared.test.Name.{Name}
use Rattle.grammar.specs.declared.test.Side.{Side}
use Rattle.grammar.specs.declared.test.Side.TheVariants.{Alone, Sum, Difference}
use Rattle.grammar.specs.declared.test.Test.{Test}
use Rattle.sense.specs.Sense.{owner}
use Rattle.sense.specs.declared.clauses.Step.{Step}
use Rattle.sense.specs.declared.clauses.Step.TheVariants as step
use Rattle.sense.specs.declared.part.Part.{Part}
use Rattle.std.specs.List.{range_with_len}

-- tests joined by AND and OR; a test names events by the number of their part, from 0
pub data Tree : Type 0 where
  leaf : Test ℕ → Tree
  and : Tree → Tree → Tree
  or : Tree → Tree → Tree

pub record Reading : Type 0 where
  pub parts : List Part
  -- whether all keys have to be the same
  pub key : Bool
  pub clauses : List Tree
  pub window : ℕ

-- ---- the meaning of what a text says

abbrev pub same_kind : Option ℕ → ℕ → Bool
same_kind None kind = false
same_kind (Some k) kind = k == kind

-- one of the words names the kind
abbrev pub lists_kind : List Word → ℕ → Bool
lists_kind [] kind = false
lists_kind (w ∷ ws) kind = same_kind (kind_named w.0) kind || lists_kind ws kind

-- for each of the sixteen kinds, whether it is listed
abbrev pub kinds_of : List Word → List Bool
kinds_of ws = map (lists_kind ws) (range_with_len 0 16)

abbrev pub part_of : syntax.Part → Part
part_of p = record { negative = p.negative; kinds = kinds_of p.kinds; variable = p.variable.letter }

abbrev pub number_in : Option (ℕ × Bool) → ℕ
number_in None = 0
number_in (Some o) = o.0

abbrev pub item_of : List syntax.Part → Item Name → Item ℕ
item_of ps (item.Reading n r) = item.Reading (number_in (owner ps n.letter)) r
item_of ps (item.Number v) = item.Number v

abbrev pub side_of : List syntax.Part → Side Name → Side ℕ
side_of ps (Alone i) = Alone (item_of ps i)
side_of ps (Sum i j) = Sum (item_of ps i) (item_of ps j)
side_of ps (Difference i j) = Difference (item_of ps i) (item_of ps j)

abbrev pub test_of : List syntax.Part → Test Name → Test ℕ
test_of ps t = record { left = side_of ps t.left; comparison = t.comparison; right = side_of ps t.right }

abbrev pub tree_of : List syntax.Part → Cond → Tree
tree_of ps (test w) = leaf (test_of ps w.says)
tree_of ps (both a b) = and (tree_of ps a) (tree_of ps b)
tree_of ps (either a b) = or (tree_of ps a) (tree_of ps b)

abbrev pub asks_key : List Clause → Bool
asks_key [] = false
asks_key (same_key ∷ cs) = true
asks_key (condition p c ∷ cs) = asks_key cs

abbrev pub trees_of : List syntax.Part → List Clause → List Tree
trees_of ps [] = []
trees_of ps (same_key ∷ cs) = trees_of ps cs
trees_of ps (condition p c ∷ cs) = tree_of ps c ∷ trees_of ps cs

abbrev pub reading_of : Syntax → Reading
reading_of q = record { parts = map part_of q.parts; key = asks_key q.clauses; clauses = trees_of q.parts q.clauses; window = q.window }

-- ---- how a meaning is laid out in rooms of a fixed size

-- in a room for n, whose other places hold x
abbrev pub laid : {X : Type 0} → ℕ → X → List X → List X
laid n x xs = xs ++ replicate (n - length xs) x

-- a tree in postfix order
abbrev pub postfix : Tree → List Step
postfix (leaf t) = step.Test t ∷ []
postfix (and a b) = postfix a ++ (postfix b ++ (step.And ∷ []))
postfix (or a b) = postfix a ++ (postfix b ++ (step.Or ∷ []))

-- all trees, one behind the other
abbrev pub steps_of : List Tree → List Step
steps_of [] = []
steps_of (t ∷ ts) = postfix t ++ steps_of ts

-- where each tree ends, if n steps stand before the first
abbrev pub ends_from : ℕ → List Tree → List ℕ
ends_from n [] = []
ends_from n (t ∷ ts) = (n + length (postfix t)) ∷ ends_from (n + length (postfix t)) ts
