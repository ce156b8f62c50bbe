-- The law of sense: a draft has the first of all faults, and where there is none the text keeps the limits and the draft holds its meaning.
-- Assumes nothing.
use Rattle.std.specs.Prelude.{◌≡◌, ◌<◌, ◌≤◌, length, Some, None}
use Rattle.grammar.specs.Syntax.{Syntax}
use Rattle.sense.specs.Drafted.{blank}
use Rattle.sense.specs.Drafting.{drafted}
use Rattle.sense.specs.Faults.{least, NoLater}
use Rattle.sense.specs.Meaning.{Reading, reading_of, laid, steps_of, ends_from}
use Rattle.sense.specs.Sense.{Limits, sense_faults}
use Rattle.sense.specs.declared.clauses.Step.TheVariants.{And}
use Rattle.sense.specs.declared.draft.Draft.{Draft}
use Rattle.sense.specs.declared.fault.SenseFault.{SenseFault}
use Rattle.std.specs.List.{ContainsAt, AllByRecursion}

-- the draft holds the meaning r, each piece in its room
pub record Drafts (d : Draft) (r : Reading) : Type 0 where
  pub parts : d.parts.kept ≡ laid 12 blank r.parts
  pub parts_len : d.parts.len ≡ length r.parts
  pub key : d.clauses.key ≡ r.key
  pub steps : d.clauses.steps ≡ laid 47 And (steps_of r.clauses)
  pub used : d.clauses.used ≡ length (steps_of r.clauses)
  pub ends : d.clauses.ends ≡ laid 24 0 (ends_from 0 r.clauses)
  pub clauses_len : d.clauses.len ≡ length r.clauses
  pub window : d.window ≡ r.window

-- variables are single bytes, as in every text
abbrev pub Lettered : Syntax → Type 0
Lettered q = AllByRecursion (λ p. p.variable.letter < 256) q.parts

pub record SenseLaw (q : Syntax) : Type 0 where
  -- the draft knows the first of all faults
  pub fault : Lettered q → (drafted q).fault ≡ least (sense_faults q)
  -- the first is one of them, and no later than any
  pub some : (f : SenseFault) → least (sense_faults q) ≡ Some f → ContainsAt (sense_faults q) f
  pub first : (f : SenseFault) → least (sense_faults q) ≡ Some f → AllByRecursion (NoLater f) (sense_faults q)
  -- there is none exactly where the limits are kept; a query has a part
  pub kept : 1 ≤ length q.parts → least (sense_faults q) ≡ None → Limits q
  pub clean : Limits q → least (sense_faults q) ≡ None
  -- and then the draft holds what the text means
  pub meaning : Lettered q → Limits q → Drafts (drafted q) (reading_of q)

abbrev pub SenseHolds : Type 0
SenseHolds = (q : Syntax) → SenseLaw q
