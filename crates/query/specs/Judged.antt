-- What the sense layer answers for a draft. Assumes nothing.
use Rattle.std.specs.Prelude.{◌≡◌, List, Some, None, Ok, Err, Result}
use Rattle.grammar.specs.Grammar.{ReadsQuery}
use Rattle.grammar.specs.Syntax.{Syntax}
use Rattle.letters.specs.Tokens.{Placed}
use Rattle.query.specs.Meant.{meaning}
use Rattle.query.specs.declared.query.Query.{Query}
use Rattle.sense.specs.Drafting.{drafted}
use Rattle.sense.specs.Faults.{least}
use Rattle.sense.specs.Meaning.{reading_of}
use Rattle.sense.specs.Sense.{sense_faults}
use Rattle.sense.specs.declared.draft.Draft.{Draft}
use Rattle.sense.specs.declared.fault.SenseFault.{SenseFault}

-- the draft of what some tokens read as
abbrev pub DraftedFrom : Draft → Syntax → Type 0
DraftedFrom d q = (tokens : List Placed) × ReadsQuery 8 tokens q × (d ≡ drafted q)

-- the query that q means, or its first fault
abbrev pub Judges : Result Query SenseFault → Syntax → Type 0
Judges (Ok query) q = (least (sense_faults q) ≡ None) × (meaning query ≡ reading_of q)
Judges (Err f) q = least (sense_faults q) ≡ Some f
