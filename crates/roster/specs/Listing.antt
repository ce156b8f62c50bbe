-- What a line of the list is answered with. Assumes nothing.
use Rattle.std.specs.Prelude.{◌≡◌, ℕ, List, ◌∷◌, None, Ok, Err, Result}
use Rattle.keys.specs.Name.{identity_of, shelf_of}
use Rattle.refusals.specs.declared.Refusal.{Refusal}
use Rattle.roster.specs.Entries.{Entry, first_line}
use Rattle.roster.specs.Members.{Stands}
use Rattle.roster.specs.declared.listing.Answer.{Answer}
use Rattle.roster.specs.declared.listing.Answer.TheVariants.{Member, Refused}
use Rattle.std.specs.Option.{unwrap_or}

-- A line that spells a name is answered with the first line of that name, this one where there is none before, and with its
-- shelf, and the name is entered. One that does not is refused, and then nothing is entered. Only a name that is new may find no
-- memory, and then nothing is entered either.
abbrev pub Answers : {E : Type 0} → Result (List ℕ) Refusal → ℕ → List Entry → List Entry → Result Answer E → Type 0
Answers (Ok cs) line entries members (Ok a) =
    (a ≡ Member (record { line = line; first = unwrap_or (first_line (identity_of cs) entries) line; shelf = shelf_of cs }))
    × Stands members ((identity_of cs, line) ∷ entries)
Answers (Ok cs) line entries members (Err e) = (first_line (identity_of cs) entries ≡ None) × Stands members entries
Answers (Err r) line entries members (Ok a) = (a ≡ Refused (record { refusal = r; at = line })) × Stands members entries
Answers (Err r) line entries members (Err e) = ⊥

-- the same, for every list of entries that the members before it stand for
abbrev pub Lists : {E : Type 0} → List Entry → Result (List ℕ) Refusal → ℕ → List Entry → Result Answer E → Type 0
Lists before spelled line after r = (entries : List Entry) → Stands before entries → Answers spelled line entries after r
