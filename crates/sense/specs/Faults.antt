-- Faults of sense, and which comes first. Assumes nothing.
use Rattle.std.specs.Prelude.{◌≡◌, ℕ, ◌<◌, ◌≤◌, Bool, cond, ◌&&◌, ◌||◌, ◌⊎◌, List, Some, None, Option, ◌==◌, nat_lt}
use Rattle.sense.specs.declared.fault.SenseFault.{SenseFault}
use Rattle.std.specs.List.{fold}
use Rattle.sense.specs.declared.fault.SenseFault.TheVariants.{UnknownKind, Doubled, Unbound, Shape, ManyTests, TwoNegatives, Window}

abbrev pub number_of : SenseFault → ℕ
number_of (UnknownKind p) = 6
number_of (Doubled p) = 7
number_of (Unbound p) = 8
number_of (Shape p) = 9
number_of (ManyTests p) = 10
number_of (TwoNegatives p) = 11
number_of (Window p) = 12

abbrev pub place_of : SenseFault → ℕ
place_of (UnknownKind p) = p
place_of (Doubled p) = p
place_of (Unbound p) = p
place_of (Shape p) = p
place_of (ManyTests p) = p
place_of (TwoNegatives p) = p
place_of (Window p) = p

-- f comes before g: it has the smaller place, or the same place and the smaller number
abbrev pub comes_before : SenseFault → SenseFault → Bool
comes_before f g = nat_lt (place_of f) (place_of g) || (place_of f == place_of g && nat_lt (number_of f) (number_of g))

-- the earlier of a fault so far and another
abbrev pub noted : Option SenseFault → SenseFault → Option SenseFault
noted None f = Some f
noted (Some g) f = Some (cond (comes_before f g) f g)

-- the first of some faults, in whatever order they stand
abbrev pub least_from : Option SenseFault → List SenseFault → Option SenseFault
least_from so_far fs = fold noted so_far fs

abbrev pub least : List SenseFault → Option SenseFault
least fs = least_from None fs

-- one fault is no later than another
abbrev pub NoLater : SenseFault → SenseFault → Type 0
NoLater f g = (place_of f < place_of g) ⊎ ((place_of f ≡ place_of g) × (number_of f ≤ number_of g))
