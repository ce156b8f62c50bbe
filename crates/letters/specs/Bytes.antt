-- Which bytes begin and continue which token. Assumes nothing.
use Rattle.std.specs.Prelude.{◌≡◌, ℕ, Bool, ◌&&◌, ◌||◌, ◌==◌, List, take, drop, nat_le}
use Rattle.std.specs.List.{prefix_len}

-- 0 to 9
abbrev pub is_digit : ℕ → Bool
is_digit b = nat_le 48 b && nat_le b 57

-- A to Z and a to z
abbrev pub is_letter : ℕ → Bool
is_letter b = (nat_le 65 b && nat_le b 90) || (nat_le 97 b && nat_le b 122)

abbrev pub is_word : ℕ → Bool
is_word b = is_digit b || is_letter b

-- tab, line feed, carriage return and space
abbrev pub is_blank : ℕ → Bool
is_blank b = b == 9 || (b == 10 || (b == 13 || b == 32))

-- calls that give these results are a test of bytes
abbrev pub Tests : (ℕ → Bool → Type 0) → (ℕ → Bool) → Type 0
Tests gives pass = (b : ℕ) (r : Bool) → gives b r → r ≡ pass b

-- the longest front whose bytes all pass such a test, and what follows it
pub record SplitWhile (gives : ℕ → Bool → Type 0) (text taken others : List ℕ) : Type 0 where
  pub front : (pass : ℕ → Bool) → Tests gives pass → taken ≡ take (prefix_len pass text) text
  pub back : (pass : ℕ → Bool) → Tests gives pass → others ≡ drop (prefix_len pass text) text
