-- The limits of a query, and all faults of what its text says. Assumes nothing.
use Rattle.std.specs.Prelude.{◌≡◌, ℕ, ◌+◌, ◌≤◌, Bool, true, false, cond, not, ◌&&◌, ◌||◌, List, [], ◌∷◌, ◌++◌, map, is_some, Some, None, Option, ◌==◌, ◌≢◌, nat_le}
use Rattle.events.specs.Kind.{kind_named}
use Rattle.grammar.specs.Syntax.{Written, Cond, Clause, Word, Part, Syntax}
use Rattle.grammar.specs.Syntax.Clause.{same_key, condition}
use Rattle.grammar.specs.Syntax.Cond.{test, both, either}
use Rattle.grammar.specs.declared.test.Item.{Item}
use Rattle.grammar.specs.declared.test.Item.TheVariants as item
use Rattle.grammar.specs.declared.test.Name.{Name}
use Rattle.grammar.specs.declared.test.Side.{Side}
use Rattle.grammar.specs.declared.test.Side.TheVariants.{Alone, Sum, Difference}
use Rattle.sense.specs.declared.fault.SenseFault.{SenseFault}
use Rattle.sense.specs.declared.fault.SenseFault.TheVariants.{UnknownKind, Doubled, Unbound, Shape, ManyTests, TwoNegatives, Window}
use Rattle.std.specs.List.{ContainsAt, AllByRecursion}

-- ---- what is counted

-- the first part that has the variable: its number, if the parts are numbered from i on, and whether it is negative
abbrev pub owner_from : ℕ → List Part → ℕ → Option (ℕ × Bool)
owner_from i [] v = None
owner_from i (p ∷ ps) v = cond (p.variable.letter == v) (Some (i, p.negative)) (owner_from (i + 1) ps v)

abbrev pub owner : List Part → ℕ → Option (ℕ × Bool)
owner ps v = owner_from 0 ps v

abbrev pub owned_negative : Option (ℕ × Bool) → Bool
owned_negative None = false
owned_negative (Some o) = o.1

-- v is the variable of a negative part
abbrev pub is_negative : List Part → ℕ → Bool
is_negative ps v = owned_negative (owner ps v)

abbrev pub positives : List Part → ℕ
positives [] = 0
positives (p ∷ ps) = cond p.negative (positives ps) (1 + positives ps)

abbrev pub item_names : Item Name → List Name
item_names (item.Reading n r) = n ∷ []
item_names (item.Number v) = []

abbrev pub side_names : Side Name → List Name
side_names (Alone i) = item_names i
side_names (Sum i j) = item_names i ++ item_names j
side_names (Difference i j) = item_names i ++ item_names j

-- the variables of a test, as they are written
abbrev pub test_names : Written → List Name
test_names w = side_names w.says.left ++ side_names w.says.right

abbrev pub cond_names : Cond → List Name
cond_names (test w) = test_names w
cond_names (both a b) = cond_names a ++ cond_names b
cond_names (either a b) = cond_names a ++ cond_names b

abbrev pub clause_names : Clause → List Name
clause_names same_key = []
clause_names (condition p c) = cond_names c

abbrev pub tests_in : Cond → ℕ
tests_in (test w) = 1
tests_in (both a b) = tests_in a + tests_in b
tests_in (either a b) = tests_in a + tests_in b

abbrev pub clause_tests : Clause → ℕ
clause_tests same_key = 0
clause_tests (condition p c) = tests_in c

abbrev pub tests_of : List Clause → ℕ
tests_of [] = 0
tests_of (c ∷ cs) = clause_tests c + tests_of cs

-- the negative ones among some variables
abbrev pub negatives : List Part → List Name → List ℕ
negatives ps [] = []
negatives ps (n ∷ ns) = cond (is_negative ps n.letter) (n.letter ∷ negatives ps ns) (negatives ps ns)

-- ---- the limits

-- each differs from all that follow
abbrev pub Distinct : List ℕ → Type 0
Distinct [] = Unit {0}
Distinct (v ∷ vs) = AllByRecursion (λ u. u ≢ v) vs × Distinct vs

-- a negative part is followed by a positive one
abbrev pub Followed : List Part → Type 0
Followed [] = Unit {0}
Followed (p ∷ []) = p.negative ≡ false
Followed (p ∷ r ∷ ps) = (p.negative ≡ true → r.negative ≡ false) × Followed (r ∷ ps)

pub record Limits (q : Syntax) : Type 0 where
  -- each kind word names a kind
  pub kinds : AllByRecursion (λ p. AllByRecursion (λ w. is_some (kind_named w.0) ≡ true) p.kinds) q.parts
  -- each variable stands once in the sequence
  pub once : Distinct (map (λ p. p.variable.letter) q.parts)
  -- there are 1 to 6 positive parts; at most one negative stands before each, and none after the last
  pub some : 1 ≤ positives q.parts
  pub few : positives q.parts ≤ 6
  pub followed : Followed q.parts
  -- tests use variables of the sequence, and there are at most 24
  pub bound : AllByRecursion (λ c. AllByRecursion (λ n. is_some (owner q.parts n.letter) ≡ true) (clause_names c)) q.clauses
  pub tests : tests_of q.clauses ≤ 24
  -- a clause uses at most one negative variable
  pub single : AllByRecursion (λ c. (u v : ℕ) → ContainsAt (negatives q.parts (clause_names c)) u → ContainsAt (negatives q.parts (clause_names c)) v → u ≡ v) q.clauses
  pub least_window : 1 ≤ q.window
  pub largest_window : q.window ≤ 864000

-- ---- the faults, each with its place

abbrev pub fault_where : Bool → SenseFault → List SenseFault
fault_where b f = cond b (f ∷ []) []

abbrev pub unknown_kinds : List Word → List SenseFault
unknown_kinds [] = []
unknown_kinds (w ∷ ws) = fault_where (not (is_some (kind_named w.0))) (UnknownKind w.1) ++ unknown_kinds ws

abbrev pub ends_negative : List Part → Bool
ends_negative [] = false
ends_negative (p ∷ []) = p.negative
ends_negative (p ∷ r ∷ ps) = ends_negative (r ∷ ps)

-- a second negative in a row, or a seventh positive
abbrev pub misplaced : List Part → Part → Bool
misplaced before p = cond p.negative (ends_negative before) (positives before == 6)

-- a part behind others
abbrev pub part_faults : List Part → Part → List SenseFault
part_faults before p =
    unknown_kinds p.kinds ++ (fault_where (is_some (owner before p.variable.letter)) (Doubled p.variable.place)
    ++ fault_where (misplaced before p) (Shape p.place))

abbrev pub parts_faults : List Part → List Part → List SenseFault
parts_faults before [] = []
parts_faults before (p ∷ ps) = part_faults before p ++ parts_faults (before ++ (p ∷ [])) ps

-- the last part may not be negative
abbrev pub last_faults : List Part → List SenseFault
last_faults [] = []
last_faults (p ∷ []) = fault_where p.negative (Shape p.place)
last_faults (p ∷ r ∷ ps) = last_faults (r ∷ ps)

abbrev pub unbound : List Part → List Name → List SenseFault
unbound ps [] = []
unbound ps (n ∷ ns) = fault_where (not (is_some (owner ps n.letter))) (Unbound n.place) ++ unbound ps ns

-- a condition behind n tests
abbrev pub cond_faults : List Part → ℕ → Cond → List SenseFault
cond_faults ps n (test w) = unbound ps (test_names w) ++ fault_where (n == 24) (ManyTests w.place)
cond_faults ps n (both a b) = cond_faults ps n a ++ cond_faults ps (n + tests_in a) b
cond_faults ps n (either a b) = cond_faults ps n a ++ cond_faults ps (n + tests_in a) b

abbrev pub other_than : ℕ → List ℕ → Bool
other_than v [] = false
other_than v (u ∷ us) = not (v == u) || other_than v us

-- not all are the same
abbrev pub differ : List ℕ → Bool
differ [] = false
differ (v ∷ vs) = other_than v vs

abbrev pub clause_faults : List Part → ℕ → Clause → List SenseFault
clause_faults ps n same_key = []
clause_faults ps n (condition p c) = cond_faults ps n c ++ fault_where (differ (negatives ps (cond_names c))) (TwoNegatives p)

abbrev pub clauses_faults : List Part → ℕ → List Clause → List SenseFault
clauses_faults ps n [] = []
clauses_faults ps n (c ∷ cs) = clause_faults ps n c ++ clauses_faults ps (n + clause_tests c) cs

abbrev pub window_faults : Syntax → List SenseFault
window_faults q = fault_where (not (nat_le 1 q.window && nat_le q.window 864000)) (Window q.window_place)

abbrev pub sense_faults : Syntax → List SenseFault
sense_faults q = parts_faults [] q.parts ++ (last_faults q.parts ++ (clauses_faults q.parts 0 q.clauses ++ window_faults q))
