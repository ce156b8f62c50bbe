-- What the members are, and which entries they stand for. Assumes nothing.
use Rattle.std.specs.Prelude.{◌≡◌, ℕ, List, [], ◌∷◌, map, length, None, Ok, Err, Option, Result, Vec, vec_items}
use Rattle.std.specs.declared.alloc.Global.{Global}
use Rattle.std.specs.BTreeMap.{BTreeMap}
use Rattle.std.specs.Option.{unwrap_or}
use Rattle.roster.specs.Entries.{Entry, or_else, line_at, first_line, different}

-- an entry of a map from identities to lines
abbrev pub member_at : Vec ℕ Global × ℕ → Entry
member_at e = (vec_items e.0, e.1)

-- the members that such a map holds, in its order
abbrev pub members_in : BTreeMap (Vec ℕ Global) ℕ → List Entry
members_in m = map member_at m.entries

-- the line of the member that has the identity i
abbrev pub line_of : List ℕ → List Entry → Option ℕ
line_of i [] = None
line_of i (m ∷ ms) = or_else (line_at i m) (line_of i ms)

-- the members have the first line of each identity that was entered, and there is no other member
pub record Stands (members entries : List Entry) : Type 0 where
  pub firsts : (i : List ℕ) → line_of i members ≡ first_line i entries
  pub number : length members ≡ different entries

-- What an answer says of the identity i entered at a line: its first line, this one where there is none before, and the members
-- then stand for one entry more. At an error there was none before, and the members stand for what they stood for.
abbrev pub Entered : {E : Type 0} → List ℕ → ℕ → List Entry → List Entry → Result ℕ E → Type 0
Entered i line entries members (Ok first) = (first ≡ unwrap_or (first_line i entries) line) × Stands members ((i, line) ∷ entries)
Entered i line entries members (Err e) = (first_line i entries ≡ None) × Stands members entries

-- the same, for every list of entries that the members before it stood for
abbrev pub Enters : {E : Type 0} → List Entry → List ℕ → ℕ → List Entry → Result ℕ E → Type 0
Enters before i line after r = (entries : List Entry) → Stands before entries → Entered i line entries after r
