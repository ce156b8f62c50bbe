-- The law of sense. Assumes nothing.
use Rattle.std.proofs.Common.{ap}
use Rattle.grammar.specs.Syntax.{Syntax}
use Rattle.sense.proofs.Held.{meaning_held}
use Rattle.sense.proofs.Least.{least_none, least_some, least_first}
use Rattle.sense.proofs.Limited.{limits_kept, limits_clean}
use Rattle.sense.proofs.Texts.{drafted_is}
use Rattle.sense.specs.Faults.{least}
use Rattle.sense.specs.Law.{SenseLaw}
use Rattle.sense.specs.Sense.{sense_faults}
use Rattle.sense.specs.declared.draft.Draft.{Draft}

pub sense_law : (q : Syntax) → SenseLaw q
sense_law q = record {
  fault = λ l. ap (λ (d : Draft). d.fault) (drafted_is q l);
  some = least_some (sense_faults q);
  first = least_first (sense_faults q);
  kept = λ some e. limits_kept q some (least_none (sense_faults q) e);
  clean = λ l. ap least (limits_clean q l);
  meaning = meaning_held q;
}
