-- The lines that the programs print. Assumes nothing.
use Rattle.std.specs.Prelude.{ℕ, List, [], ◌∷◌, ◌++◌}

-- a first item and those that follow it, parted by one space
abbrev pub spaced : List ℕ → List (List ℕ) → List ℕ
spaced x [] = x
spaced x (y ∷ ys) = x ++ (32 ∷ spaced y ys)
