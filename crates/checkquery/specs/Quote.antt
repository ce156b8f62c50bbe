-- The line of a text that has a place, and the caret under it. Assumes nothing.
use Rattle.std.specs.Prelude.{ℕ, cond, List, [], ◌∷◌, ◌++◌, fold, map, take, drop, codes, ◌==◌}

-- what stands before the first line feed
abbrev pub first_line : List ℕ → List ℕ
first_line [] = []
first_line (b ∷ bs) = cond (b == 10) [] (b ∷ first_line bs)

-- a line after one byte more: a line feed begins it anew
abbrev pub line_more : List ℕ → ℕ → List ℕ
line_more line b = cond (b == 10) [] (line ++ (b ∷ []))

-- what stands behind the last line feed
abbrev pub last_line : List ℕ → List ℕ
last_line bs = fold line_more [] bs

-- what stands before the place, in its line
abbrev pub line_before : List ℕ → ℕ → List ℕ
line_before text place = last_line (take place text)

-- the line that has the place
abbrev pub line_at : List ℕ → ℕ → List ℕ
line_at text place = line_before text place ++ first_line (drop place text)

-- a tab for each tab and a space for each other byte
abbrev pub padding : List ℕ → List ℕ
padding bs = map (λ b. cond (b == 9) 9 32) bs

-- the line that has the place, and one with a caret under the place and a word behind it
abbrev pub quote_of : List ℕ → ℕ → List ℕ → List ℕ
quote_of text place word = line_at text place ++ (10 ∷ padding (line_before text place) ++ codes "^ " ++ word ++ (10 ∷ []))
