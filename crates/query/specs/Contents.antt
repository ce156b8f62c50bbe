-- What is counted in a query. Assumes nothing.
use Rattle.std.specs.Prelude.{ℕ, ◌+◌, Bool, true, false, not, List, [], ◌∷◌, count_by}
use Rattle.sense.specs.Meaning.{Tree}
use Rattle.sense.specs.Meaning.Tree.{leaf, and, or}
use Rattle.sense.specs.declared.clauses.Step.{Step}
use Rattle.sense.specs.declared.clauses.Step.TheVariants.{Test, And, Or}
use Rattle.sense.specs.declared.part.Part.{Part}

abbrev pub same_bool : Bool → Bool → Bool
same_bool true b = b
same_bool false b = not b

-- how many parts are negative, or how many are not
abbrev pub parts_with : Bool → List Part → ℕ
parts_with negative ps = count_by (λ p. same_bool p.negative negative) ps

abbrev pub is_test : Step → Bool
is_test (Test t) = true
is_test And = false
is_test Or = false

abbrev pub tree_tests : Tree → ℕ
tree_tests (leaf t) = 1
tree_tests (and a b) = tree_tests a + tree_tests b
tree_tests (or a b) = tree_tests a + tree_tests b

-- how many tests there are in all
abbrev pub tests_in : List Tree → ℕ
tests_in [] = 0
tests_in (t ∷ ts) = tree_tests t + tests_in ts
