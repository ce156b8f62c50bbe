-- The lines that are printed. Assumes nothing.
use Rattle.std.specs.Prelude.{ℕ, List, [], ◌∷◌, codes, decimal}
use Rattle.refusals.specs.Lines.{spaced}
use Rattle.refusals.specs.Numbers.{refused_line}
use Rattle.roster.specs.declared.lines.End.{End}
use Rattle.roster.specs.declared.lines.Listed.{Listed}
use Rattle.roster.specs.declared.listing.Answer.{Answer}
use Rattle.roster.specs.declared.listing.Answer.TheVariants.{Member, Refused}

-- name LINE FIRST SHELF
abbrev pub name_line : Listed → List ℕ
name_line x = spaced (codes "name") (decimal x.line ∷ decimal x.first ∷ decimal x.shelf ∷ [])

-- what a line is answered with
abbrev pub answer_line : Answer → List ℕ
answer_line (Member x) = name_line x
answer_line (Refused x) = refused_line x

-- end LINES MEMBERS
abbrev pub end_line : End → List ℕ
end_line x = spaced (codes "end") (decimal x.lines ∷ decimal x.members ∷ [])
