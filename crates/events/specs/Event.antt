-- Events as text. Assumes nothing.
use Rattle.std.specs.Prelude.{ℕ, List, [], ◌∷◌, ℤ, pos, decimal, slice_index_or}
use Rattle.events.specs.Kind.{word_of}
use Rattle.events.specs.Record.{Fields, fields}
use Rattle.events.specs.declared.event.Event.{Event}
use Rattle.keys.specs.declared.badge.Badge.{Badge}
use Rattle.refusals.specs.Lines.{spaced}
use Rattle.std.specs.Option.{unwrap_or}
use Rattle.std.specs.Fmt.{signed_decimal}

-- the word of a kind, or the number of what is no kind
abbrev pub kind_text : ℕ → List ℕ
kind_text kind = unwrap_or (word_of kind) (decimal kind)

-- R0 R1 R2 R3
abbrev pub readings_text : List ℤ → List ℕ
readings_text rs = spaced (signed_decimal (slice_index_or rs 0 (pos 0))) (signed_decimal (slice_index_or rs 1 (pos 0)) ∷ signed_decimal (slice_index_or rs 2 (pos 0)) ∷ signed_decimal (slice_index_or rs 3 (pos 0)) ∷ [])

-- KIND TIME BADGE R0 R1 R2 R3
abbrev pub fields_line : Fields → List ℕ
fields_line f = spaced (kind_text f.kind) (decimal f.time ∷ decimal f.badge ∷ readings_text f.readings ∷ [])

abbrev pub event_line : Event Badge → List ℕ
event_line e = fields_line (fields e)
