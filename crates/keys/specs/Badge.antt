-- Which numbers are badges. Assumes nothing.
use Rattle.std.specs.Prelude.{ℕ, cond, Ok, Err, Result, nat_le}
use Rattle.refusals.specs.declared.Refusal.{Refusal}
use Rattle.refusals.specs.declared.Refusal.TheVariants.{Badge}

-- a number up to 268,435,455 is a badge; a larger one is refused
abbrev pub badge_answer : ℕ → Result ℕ Refusal
badge_answer n = cond (nat_le n 268435455) (Ok n) (Err Badge)
