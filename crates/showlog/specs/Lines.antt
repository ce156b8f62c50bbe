-- A log in words. Assumes nothing.
use Rattle.std.specs.Prelude.{◌≡◌, ℕ, ◌+◌, ◌*◌, min, List, [], ◌∷◌, ◌++◌, length, Ok, Err, codes, decimal}
use Rattle.events.specs.Event.{fields_line}
use Rattle.events.specs.Log.{Told, log_of}
use Rattle.events.specs.Record.{fields}
use Rattle.refusals.specs.Lines.{spaced}
use Rattle.refusals.specs.Numbers.{refused_line}
use Rattle.showlog.specs.declared.lines.End.{End}
use Rattle.showlog.specs.declared.lines.Numbered.{Numbered}

-- end N
abbrev pub end_line : End → List ℕ
end_line x = spaced (codes "end") (decimal x.records ∷ [])

-- one record more; the count stays at the largest number of 64 bits once there
abbrev pub more : ℕ → ℕ
more n = min (n + 1) 18446744073709551615

-- the line for a record or a refusal, with the number of the record, or of the one that should have been there
abbrev pub line : ℕ → Told → List ℕ
line n (Ok f) = spaced (decimal n) (fields_line f ∷ [])
line n (Err r) = refused_line (record { refusal = r; at = n })

-- N KIND TIME BADGE R0 R1 R2 R3
abbrev pub numbered_line : Numbered → List ℕ
numbered_line x = line x.number (Ok (fields x.event))

-- how many records there are, where there were n before
abbrev pub records_after : ℕ → List Told → ℕ
records_after n [] = n
records_after n (Ok f ∷ items) = records_after (more n) items
records_after n (Err r ∷ items) = records_after n items

-- a line for each item, each ended by a line feed, where there were n records before
abbrev pub log_text : ℕ → List Told → List ℕ
log_text n [] = []
log_text n (Ok f ∷ items) = line (more n) (Ok f) ++ (10 ∷ log_text (more n) items)
log_text n (Err r ∷ items) = line (more n) (Err r) ++ (10 ∷ log_text n items)

-- The text and the count of a log are those of its pieces, one after the other, where all but the last have whole records.
pub record Piecewise : Type 0 where
  pub text : (k n : ℕ) (front back : List ℕ) → length front ≡ 24 * k →
      log_text n (log_of (front ++ back)) ≡ log_text n (log_of front) ++ log_text (records_after n (log_of front)) (log_of back)
  pub count : (k n : ℕ) (front back : List ℕ) → length front ≡ 24 * k →
      records_after n (log_of (front ++ back)) ≡ records_after (records_after n (log_of front)) (log_of back)
