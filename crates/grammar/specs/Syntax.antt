-- What a query text says, as a tree. Parentheses are gone; places are kept for the faults of sense. Assumes nothing.
use Rattle.std.specs.Prelude.{ℕ, Bool, List}
use Rattle.grammar.specs.declared.test.Name.{Name}
use Rattle.grammar.specs.declared.test.Test.{Test}

-- a test as it is written, with the place of its first token
pub record Written : Type 0 where
  pub says : Test Name
  pub place : ℕ

-- tests joined by AND and OR
pub data Cond : Type 0 where
  test : Written → Cond
  both : Cond → Cond → Cond
  either : Cond → Cond → Cond

-- a clause that asks for the same key, or a condition with the place of its first token
pub data Clause : Type 0 where
  same_key : Clause
  condition : ℕ → Cond → Clause

-- a kind word and its place
abbrev pub Word : Type 0
Word = List ℕ × ℕ

-- a part of the sequence; its place is that of its first token
pub record Part : Type 0 where
  pub place : ℕ
  pub negative : Bool
  pub kinds : List Word
  pub variable : Name

pub record Syntax : Type 0 where
  pub parts : List Part
  pub clauses : List Clause
  -- the window's value, and the place of its number
  pub window : ℕ
  pub window_place : ℕ
