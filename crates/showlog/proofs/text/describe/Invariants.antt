use Rattle.std.proofs.Common.{◌≡◌, ◌++◌, map, string_bytes}
use Rattle.events.specs.Log.{told}
use Rattle.showlog.specs.Lines.{log_text, records_after}
use Rattle.showlog.proofs.text.describe.Given as goal

-- what was read so far is written, and its records are counted
abbrev pub invariant-loop-item : goal.invariant-loop-item
invariant-loop-item l =
    (string_bytes l.text ≡ string_bytes l.initial.text ++ log_text l.before (map told l.yielded))
    × (l.records ≡ records_after l.before (map told l.yielded))
