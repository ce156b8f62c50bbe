-- Which letters stand for a base letter and a mark, and how a spelling is taken apart. Assumes nothing.
use Rattle.std.specs.Prelude.{◌≡◌, ℕ, ◌<◌, Bool, true, ◌&&◌, nat_lt, List, [], ◌∷◌, length, None, Option, ◌==◌, slice_index_or}
use Rattle.std.specs.List.{find, list_all}
use Rattle.keys.specs.declared.letters.Letter.{Letter}

abbrev pub letter : ℕ → ℕ → ℕ → Letter
letter composed base mark = record { composed = composed; base = base; mark = mark }

-- the accented letters of Latin-1; the marks are grave U+0300, acute U+0301, circumflex U+0302, tilde U+0303, diaeresis
-- U+0308, ring U+030A and cedilla U+0327
unfoldable pub table : List Letter
table =
    letter 0xC0 0x41 0x0300 ∷  -- latin capital letter a with grave
    letter 0xC1 0x41 0x0301 ∷  -- latin capital letter a with acute
    letter 0xC2 0x41 0x0302 ∷  -- latin capital letter a with circumflex
    letter 0xC3 0x41 0x0303 ∷  -- latin capital letter a with tilde
    letter 0xC4 0x41 0x0308 ∷  -- latin capital letter a with diaeresis
    letter 0xC5 0x41 0x030A ∷  -- latin capital letter a with ring above
    letter 0xC7 0x43 0x0327 ∷  -- latin capital letter c with cedilla
    letter 0xC8 0x45 0x0300 ∷  -- latin capital letter e with grave
    letter 0xC9 0x45 0x0301 ∷  -- latin capital letter e with acute
    letter 0xCA 0x45 0x0302 ∷  -- latin capital letter e with circumflex
    letter 0xCB 0x45 0x0308 ∷  -- latin capital letter e with diaeresis
    letter 0xCC 0x49 0x0300 ∷  -- latin capital letter i with grave
    letter 0xCD 0x49 0x0301 ∷  -- latin capital letter i with acute
    letter 0xCE 0x49 0x0302 ∷  -- latin capital letter i with circumflex
    letter 0xCF 0x49 0x0308 ∷  -- latin capital letter i with diaeresis
    letter 0xD1 0x4E 0x0303 ∷  -- latin capital letter n with tilde
    letter 0xD2 0x4F 0x0300 ∷  -- latin capital letter o with grave
    letter 0xD3 0x4F 0x0301 ∷  -- latin capital letter o with acute
    letter 0xD4 0x4F 0x0302 ∷  -- latin capital letter o with circumflex
    letter 0xD5 0x4F 0x0303 ∷  -- latin capital letter o with tilde
    letter 0xD6 0x4F 0x0308 ∷  -- latin capital letter o with diaeresis
    letter 0xD9 0x55 0x0300 ∷  -- latin capital letter u with grave
    letter 0xDA 0x55 0x0301 ∷  -- latin capital letter u with acute
    letter 0xDB 0x55 0x0302 ∷  -- latin capital letter u with circumflex
    letter 0xDC 0x55 0x0308 ∷  -- latin capital letter u with diaeresis
    letter 0xDD 0x59 0x0301 ∷  -- latin capital letter y with acute
    letter 0xE0 0x61 0x0300 ∷  -- latin small letter a with grave
    letter 0xE1 0x61 0x0301 ∷  -- latin small letter a with acute
    letter 0xE2 0x61 0x0302 ∷  -- latin small letter a with circumflex
    letter 0xE3 0x61 0x0303 ∷  -- latin small letter a with tilde
    letter 0xE4 0x61 0x0308 ∷  -- latin small letter a with diaeresis
    letter 0xE5 0x61 0x030A ∷  -- latin small letter a with ring above
    letter 0xE7 0x63 0x0327 ∷  -- latin small letter c with cedilla
    letter 0xE8 0x65 0x0300 ∷  -- latin small letter e with grave
    letter 0xE9 0x65 0x0301 ∷  -- latin small letter e with acute
    letter 0xEA 0x65 0x0302 ∷  -- latin small letter e with circumflex
    letter 0xEB 0x65 0x0308 ∷  -- latin small letter e with diaeresis
    letter 0xEC 0x69 0x0300 ∷  -- latin small letter i with grave
    letter 0xED 0x69 0x0301 ∷  -- latin small letter i with acute
    letter 0xEE 0x69 0x0302 ∷  -- latin small letter i with circumflex
    letter 0xEF 0x69 0x0308 ∷  -- latin small letter i with diaeresis
    letter 0xF1 0x6E 0x0303 ∷  -- latin small letter n with tilde
    letter 0xF2 0x6F 0x0300 ∷  -- latin small letter o with grave
    letter 0xF3 0x6F 0x0301 ∷  -- latin small letter o with acute
    letter 0xF4 0x6F 0x0302 ∷  -- latin small letter o with circumflex
    letter 0xF5 0x6F 0x0303 ∷  -- latin small letter o with tilde
    letter 0xF6 0x6F 0x0308 ∷  -- latin small letter o with diaeresis
    letter 0xF9 0x75 0x0300 ∷  -- latin small letter u with grave
    letter 0xFA 0x75 0x0301 ∷  -- latin small letter u with acute
    letter 0xFB 0x75 0x0302 ∷  -- latin small letter u with circumflex
    letter 0xFC 0x75 0x0308 ∷  -- latin small letter u with diaeresis
    letter 0xFD 0x79 0x0301 ∷  -- latin small letter y with acute
    letter 0xFF 0x79 0x0308 ∷  -- latin small letter y with diaeresis
    []

-- the entry for the letter c
abbrev pub found : List Letter → ℕ → Option Letter
found ls c = find (λ l. l.composed == c) ls

-- whether each letter is below those after it
abbrev pub rises : List Letter → Bool
rises [] = true
rises (l ∷ ls) = list_all (λ m. nat_lt l.composed m.composed) ls && rises ls

-- the table ascends
abbrev pub Ascending : List Letter → Type 0
Ascending ls = (i j : ℕ) (d : Letter) → i < j → j < length ls → (slice_index_or ls i d).composed < (slice_index_or ls j d).composed

-- no base and no mark is itself a letter of the table
abbrev pub Closed : List Letter → Type 0
Closed ls = (i : ℕ) (d : Letter) → i < length ls → (found ls (slice_index_or ls i d).base ≡ None) × (found ls (slice_index_or ls i d).mark ≡ None)
