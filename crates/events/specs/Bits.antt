-- Numbers packed into one number, most significant bits first. Assumes nothing.
use Rattle.std.specs.Prelude.{ℕ, ◌+◌, ◌*◌, ◌/◌, ◌%◌, ◌^◌, ◌<◌, List, [], ◌∷◌, map}

-- how many bits fields of these widths take
abbrev pub width : List ℕ → ℕ
width [] = 0
width (w ∷ ws) = w + width ws

-- the number in which fields of these widths have these values
abbrev pub packed : List ℕ → List ℕ → ℕ
packed [] vs = 0
packed (w ∷ ws) [] = 0
packed (w ∷ ws) (v ∷ vs) = v * 2 ^ width ws + packed ws vs

-- the values of fields of these widths in the last bits of a number
abbrev pub unpacked : List ℕ → ℕ → List ℕ
unpacked [] n = []
unpacked (w ∷ ws) n = n / 2 ^ width ws % 2 ^ w ∷ unpacked ws n

-- as many values as widths, each within its width
abbrev pub Fitting : List ℕ → List ℕ → Type 0
Fitting [] [] = Unit {0}
Fitting [] (v ∷ vs) = ⊥
Fitting (w ∷ ws) [] = ⊥
Fitting (w ∷ ws) (v ∷ vs) = (v < 2 ^ w) × Fitting ws vs

-- bytes have eight bits each
abbrev pub eights : List ℕ → List ℕ
eights bytes = map (λ _. 8) bytes

-- bytes as one number, the first byte highest
abbrev pub number_of : List ℕ → ℕ
number_of bytes = packed (eights bytes) bytes
