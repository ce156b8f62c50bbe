-- A draft with more faults. Assumes nothing.
use Rattle.std.proofs.Common.{◌≡◌, Bool, true, false, List, refl}
use Rattle.sense.specs.Drafted.{fault_if}
use Rattle.sense.specs.Faults.{least_from}
use Rattle.sense.specs.Sense.{fault_where}
use Rattle.sense.specs.declared.draft.Draft.{Draft}
use Rattle.sense.specs.declared.fault.SenseFault.{SenseFault}

-- a draft with some more faults
abbrev pub faulted : Draft → List SenseFault → Draft
faulted d fs = record { parts = d.parts; clauses = d.clauses; window = d.window; fault = least_from d.fault fs }

pub fault_if_is : (b : Bool) (f : SenseFault) (d : Draft) → fault_if b f d ≡ faulted d (fault_where b f)
fault_if_is true f d = refl
fault_if_is false f d = refl
