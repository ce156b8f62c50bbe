-- A room of a fixed size: its front is in use, and the rest is zeros. Assumes nothing.
use Rattle.std.proofs.Common.{◌≡◌, ℕ, ◌≤◌, List, ◌++◌, length, take, drop, replicate, sym, ap, ◌∙◌, arith}
use Rattle.std.proofs.lemmas.List.{length-take-le, take-append-drop}

-- what is left of n zeros after the first ones
abbrev pub zeros_after : ℕ → ℕ → List ℕ
zeros_after n used = drop used (replicate n 0)

-- as many are held as are in use
pub length_held : (room : List ℕ) (n used : ℕ) → length room ≡ n → used ≤ n → length (take used room) ≡ used
length_held room n used sized within = length-take-le used room (omega arith)

-- what is held, and zeros after it, are the room
pub room_back : (room : List ℕ) (n used : ℕ) → length room ≡ n → used ≤ n → drop used room ≡ zeros_after n used →
    take used room ++ zeros_after n (length (take used room)) ≡ room
room_back room n used sized within rest =
    ap (λ (k : ℕ). take used room ++ zeros_after n k) (length_held room n used sized within) ∙
    ap (λ (l : List ℕ). take used room ++ l) (sym rest) ∙ take-append-drop used room
