-- Names that were entered, the newest first, and what can be asked of them. Assumes nothing.
use Rattle.std.specs.Prelude.{ℕ, ◌+◌, cond, List, [], ◌∷◌, is_some, Some, None, Option}
use Rattle.keys.specs.Name.{same_points}

-- an identity, and the line that had it
abbrev pub Entry : Type 0
Entry = List ℕ × ℕ

abbrev pub or_else : Option ℕ → Option ℕ → Option ℕ
or_else None other = other
or_else (Some x) other = Some x

-- the line of an entry that has the identity i
abbrev pub line_at : List ℕ → Entry → Option ℕ
line_at i e = cond (same_points i e.0) (Some e.1) None

-- the line of the oldest entry that has the identity i
abbrev pub first_line : List ℕ → List Entry → Option ℕ
first_line i [] = None
first_line i (e ∷ es) = or_else (first_line i es) (line_at i e)

-- how many identities there are: an entry counts where no older one has its identity
abbrev pub different : List Entry → ℕ
different [] = 0
different (e ∷ es) = cond (is_some (first_line e.0 es)) (different es) (different es + 1)
