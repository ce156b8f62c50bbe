-- The kinds of event and their words. Assumes nothing.
use Rattle.std.specs.Prelude.{◌≡◌, ◌++◌, decimal, ℕ, ◌<◌, ◌≤◌, Bool, false, cond, List, [], ◌∷◌, Some, None, codes, Option, Result, MatchResult, nat_lt, slice_index_or}
use Rattle.events.specs.declared.kind.Kind.{Kind}
use Rattle.events.specs.declared.kind.Kind.TheVariants.{BadgeIn, BadgeOut, SeatOn, SeatOff, Start, Stop, Stroke, Split, StrapOn, StrapOff, Pause, Resume, DoorIn, DoorOut, Fault, Cleaned}
use Rattle.events.specs.declared.kind.UnknownKind.{UnknownKind}
use Rattle.std.specs.List.{find}
use Rattle.std.specs.Option.{option_map}
use Rattle.std.specs.Str.{bytes_eq}

-- the number of a kind
abbrev pub kind_number : Kind → ℕ
kind_number BadgeIn = 0
kind_number BadgeOut = 1
kind_number SeatOn = 2
kind_number SeatOff = 3
kind_number Start = 4
kind_number Stop = 5
kind_number Stroke = 6
kind_number Split = 7
kind_number StrapOn = 8
kind_number StrapOff = 9
kind_number Pause = 10
kind_number Resume = 11
kind_number DoorIn = 12
kind_number DoorOut = 13
kind_number Fault = 14
kind_number Cleaned = 15

-- the result is the kind with this number, or an error with a number that no kind has
abbrev pub Numbers : ℕ → Result Kind UnknownKind → Type 0
Numbers number r = MatchResult r (λ kind. kind_number kind ≡ number) (λ e. (e.0 ≡ number) × (16 ≤ number))

-- what is said of such a number
abbrev pub unknown_text : ℕ → List ℕ
unknown_text number = codes "no kind of event has number " ++ decimal number

-- in the order of their numbers, from 0
abbrev pub words : List (List ℕ)
words =
    codes "BADGEIN" ∷ codes "BADGEOUT" ∷ codes "SEATON" ∷ codes "SEATOFF" ∷
    codes "START" ∷ codes "STOP" ∷ codes "STROKE" ∷ codes "SPLIT" ∷
    codes "STRAPON" ∷ codes "STRAPOFF" ∷ codes "PAUSE" ∷ codes "RESUME" ∷
    codes "DOORIN" ∷ codes "DOOROUT" ∷ codes "FAULT" ∷ codes "CLEANED" ∷ []

abbrev pub word_of : ℕ → Option (List ℕ)
word_of kind = cond (nat_lt kind 16) (Some (slice_index_or words kind [])) None

abbrev pub same_word : Option (List ℕ) → List ℕ → Bool
same_word None w = false
same_word (Some own) w = bytes_eq own w

abbrev pub has_word : ℕ → List ℕ → Bool
has_word kind w = same_word (word_of kind) w

-- the kinds, in the order of their numbers
abbrev pub kinds : List Kind
kinds =
    BadgeIn ∷ BadgeOut ∷ SeatOn ∷ SeatOff ∷ Start ∷ Stop ∷ Stroke ∷ Split ∷
    StrapOn ∷ StrapOff ∷ Pause ∷ Resume ∷ DoorIn ∷ DoorOut ∷ Fault ∷ Cleaned ∷ []

-- the first kind that has the word, and its number
abbrev pub kind_with : List ℕ → Option Kind
kind_with w = find (λ kind. has_word (kind_number kind) w) kinds

abbrev pub kind_named : List ℕ → Option ℕ
kind_named w = option_map kind_number (kind_with w)

-- a kind is found exactly where it has the word
pub record NamedLaw (w : List ℕ) : Type 0 where
  pub found : (kind : ℕ) → kind_named w ≡ Some kind → word_of kind ≡ Some w
  pub finds : (kind : ℕ) → word_of kind ≡ Some w → kind_named w ≡ Some kind

-- no two kinds share a word
abbrev pub WordsDiffer : Type 0
WordsDiffer = (i j : ℕ) → i < 16 → j < 16 → word_of i ≡ word_of j → i ≡ j
