-- A record of the badge log: 24 bytes, in which the fields of an event are packed, most significant bit first.
-- Assumes nothing.
use Rattle.std.specs.Prelude.{◌≡◌, ℕ, ◌-◌, ◌^◌, ◌<◌, cond, List, [], ◌∷◌, map, length, replicate, ℤ, pos, negsuc, ◌-ℤ◌, nat_lt, slice_index}
use Rattle.events.specs.Bits.{packed, unpacked, number_of}
use Rattle.events.specs.declared.event.Event.{Event}
use Rattle.keys.specs.declared.badge.Badge.{Badge}
use Rattle.std.specs.List.{AllByRecursion}

-- what a record tells
pub record Fields : Type 0 where
  pub kind : ℕ
  pub time : ℕ
  pub badge : ℕ
  pub readings : List ℤ

abbrev pub fields : Event Badge → Fields
fields e = record { kind = e.kind; time = e.time; badge = e.key; readings = e.readings }

-- kind, time, badge, and four readings
abbrev pub widths : List ℕ
widths = 4 ∷ 32 ∷ 28 ∷ 32 ∷ 32 ∷ 32 ∷ 32 ∷ []

-- two's complement: 32 bits from 2 ^ 31 on stand for a number below 0
abbrev pub signed_32 : ℕ → ℤ
signed_32 n = cond (nat_lt n (2 ^ 31)) (pos n) (pos n -ℤ pos (2 ^ 32))

abbrev pub bits_32 : ℤ → ℕ
bits_32 (pos n) = n
bits_32 (negsuc n) = 2 ^ 32 - 1 - n

-- the fields by their values, and back
abbrev pub fields_from : List ℕ → Fields
fields_from vs = record {
  kind = slice_index vs 0;
  time = slice_index vs 1;
  badge = slice_index vs 2;
  readings = signed_32 (slice_index vs 3) ∷ signed_32 (slice_index vs 4) ∷ signed_32 (slice_index vs 5) ∷ signed_32 (slice_index vs 6) ∷ [];
}

abbrev pub values_of : Fields → List ℕ
values_of f = f.kind ∷ f.time ∷ f.badge ∷ map bits_32 f.readings

-- the values of the fields in a record, by its bytes as one number
unfoldable pub values_in : List ℕ → List ℕ
values_in bytes = unpacked widths (number_of bytes)

abbrev pub decoded : List ℕ → Fields
decoded bytes = fields_from (values_in bytes)

unfoldable pub encoded : Fields → List ℕ
encoded f = unpacked (replicate 24 8) (packed widths (values_of f))

-- 24 bytes
abbrev pub Record : List ℕ → Type 0
Record bytes = (length bytes ≡ 24) × AllByRecursion (λ b. b < 2 ^ 8) bytes

-- a reading of 32 bits
abbrev pub Reading : ℤ → Type 0
Reading (pos n) = n < 2 ^ 31
Reading (negsuc n) = n < 2 ^ 31

-- fields that a record has room for
pub record Recordable (f : Fields) : Type 0 where
  pub kind : f.kind < 2 ^ 4
  pub time : f.time < 2 ^ 32
  pub badge : f.badge < 2 ^ 28
  pub four : length f.readings ≡ 4
  pub readings : AllByRecursion Reading f.readings

-- every record has fields of which it is the encoding, and all fields that a record has room for come back
abbrev pub Inverse : Type 0
Inverse = ((bytes : List ℕ) → Record bytes → encoded (decoded bytes) ≡ bytes) × ((f : Fields) → Recordable f → decoded (encoded f) ≡ f)
