-- The number of each refusal, and the line that reports one. Assumes nothing.
use Rattle.std.specs.Prelude.{◌≡◌, ℕ, List, [], ◌∷◌, codes, decimal}
use Rattle.refusals.specs.declared.Refusal.{Refusal}
use Rattle.refusals.specs.declared.Refusal.TheVariants.{Badge, NameLength, CodePoint, Tail}
use Rattle.refusals.specs.declared.Refused.{Refused}
use Rattle.refusals.specs.Lines.{spaced}

abbrev pub number_of : Refusal → ℕ
number_of Badge = 21
number_of NameLength = 22
number_of CodePoint = 23
number_of Tail = 24

-- a number names one refusal
abbrev pub Distinct : Type 0
Distinct = (a b : Refusal) → number_of a ≡ number_of b → a ≡ b

-- refused NUMBER AT
abbrev pub refused_line : Refused → List ℕ
refused_line x = spaced (codes "refused") (decimal (number_of x.refusal) ∷ decimal x.at ∷ [])
