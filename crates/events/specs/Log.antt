-- What a badge log reads as. Assumes nothing.
use Rattle.std.specs.Prelude.{◌≡◌, ℕ, zero, suc, ◌*◌, ◌≤◌, cond, List, [], ◌∷◌, ◌++◌, map, length, take, drop, Some, None, Ok, Err, Option, Result, ◌==◌, nat_lt}
use Rattle.events.specs.Record.{Fields, fields, decoded}
use Rattle.events.specs.declared.event.Event.{Event}
use Rattle.events.specs.declared.log.Records.{Records}
use Rattle.keys.specs.declared.badge.Badge.{Badge}
use Rattle.std.specs.Result.{result_map_both}
use Rattle.refusals.specs.declared.Refusal.{Refusal}
use Rattle.refusals.specs.declared.Refusal.TheVariants.{Tail}
use Rattle.std.specs.Iterator.{Drains}
use Rattle.std.specs.Option.{option_map}

-- an event or a refusal, as the reader gives it and by its fields
abbrev pub Item : Type 0
Item = Result (Event Badge) Refusal

abbrev pub Told : Type 0
Told = Result Fields Refusal

abbrev pub told : Item → Told
told item = result_map_both fields (λ r. r) item

-- A log is a row of records of 24 bytes, and perhaps a tail of 1 to 23 bytes, which is refused.
pub data ReadsAs : List ℕ → List Told → Type 0 where
  ended : ReadsAs [] []
  tail : (bytes : List ℕ) → 1 ≤ length bytes → length bytes ≤ 23 → ReadsAs bytes (Err Tail ∷ [])
  next : (bytes rest : List ℕ) (items : List Told) → length bytes ≡ 24 → ReadsAs rest items → ReadsAs (bytes ++ rest) (Ok (decoded bytes) ∷ items)

-- what the first bytes of a log tell; 24 bytes, or all that there are, are then read
abbrev pub first : List ℕ → Option Told
first log = cond (length log == 0) None (Some (cond (nat_lt (length log) 24) (Err Tail) (Ok (decoded (take 24 log)))))

-- What a log reads as, by computation: an item for what stands first, and then what the rest reads as. Each item takes a byte at
-- least, so as many turns as there are bytes suffice.
abbrev pub items_of : Option Told → List Told → List Told
items_of None more = []
items_of (Some t) more = t ∷ more

abbrev pub reading : ℕ → List ℕ → List Told
reading zero log = []
reading (suc turns) log = items_of (first log) (reading turns (drop 24 log))

abbrev pub log_of : List ℕ → List Told
log_of log = reading (length log) log

abbrev pub unread : Records → List ℕ
unread s = s.rest.now

-- one call of the reader: what stood first, and what is left
abbrev pub reads : Records → Option Item → Records → Type 0
reads s r t = (option_map told r ≡ first (unread s)) × (unread t ≡ drop 24 (unread s))

pub record WholeLog : Type 0 where
  -- each log has a reading, the computed one, and no other
  pub some : (log : List ℕ) → ReadsAs log (log_of log)
  pub only : (log : List ℕ) (items : List Told) → ReadsAs log items → items ≡ log_of log
  -- and that is what calls of the reader give until they give nothing
  pub given : (s : Records) (items : List Item) → Drains reads s items → map told items ≡ log_of (unread s)
  -- whole records at the front of a log may be read by themselves
  pub pieces : (n : ℕ) (front back : List ℕ) → length front ≡ 24 * n → log_of (front ++ back) ≡ log_of front ++ log_of back
