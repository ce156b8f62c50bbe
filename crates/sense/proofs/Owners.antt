-- Parts behind others: who has a variable, how many are positive, and which is the last. Assumes nothing.
use Rattle.std.proofs.lemmas.Bool.Decides.{nat_tests}
use Rattle.std.proofs.Common.{◌≡◌, ℕ, ◌+◌, ◌≤◌, Bool, true, false, cond, eqb, List, [], ◌∷◌, ◌++◌, length, Some, None, Option, refl, ap, ◌∙◌, arith}
use Rattle.grammar.specs.Syntax.{Part}
use Rattle.sense.proofs.Faulted.{faulted}
use Rattle.sense.specs.Drafted.{last_at, last_negative, parts_ended_by}
use Rattle.sense.specs.Meaning.{number_in}
use Rattle.sense.specs.declared.draft.Draft.{Draft}
use Rattle.std.specs.Option.{option_or}
use Rattle.sense.specs.Sense.{owner_from, owner, positives, ends_negative, last_faults, fault_where}
use Rattle.sense.specs.declared.fault.SenseFault.TheVariants.{Shape}
use Rattle.sense.specs.declared.parts.LastPart.{LastPart}
use Rattle.sense.specs.declared.parts.LastPart.TheVariants.{Positive}

-- the owner if there is one more part
abbrev pub owns : Part → ℕ → ℕ → Option (ℕ × Bool)
owns p i v = cond (eqb p.variable.letter v) (Some (i, p.negative)) None

owner_from_push : (i : ℕ) (ps : List Part) (p : Part) (v : ℕ) → owner_from i (ps ++ (p ∷ [])) v ≡ option_or (owner_from i ps v) (owns p (i + length ps) v)
owner_from_push i [] p v = let none : i ≡ i + 0 = omega arith in ap (λ (k : ℕ). owns p k v) none
owner_from_push i (r ∷ ps) p v =
    let one : i + 1 + length ps ≡ i + length (r ∷ ps) = omega arith in
    grind (arith, nat_tests, one, owner_from_push (i + 1) ps p v)

-- the owner in a list with one more part behind it
pub owner_push : (ps : List Part) (p : Part) (v : ℕ) → owner (ps ++ (p ∷ [])) v ≡ option_or (owner ps v) (owns p (length ps) v)
owner_push ps p v = let one : 0 + length ps ≡ length ps = omega arith in owner_from_push 0 ps p v ∙ ap (λ (k : ℕ). option_or (owner ps v) (owns p k v)) one

owner_from_number : (i : ℕ) (ps : List Part) (v : ℕ) → number_in (owner_from i ps v) ≤ i + length ps
owner_from_number i [] v = omega arith
owner_from_number i (p ∷ ps) v = grind (arith, nat_tests, owner_from_number (i + 1) ps v)

-- an owner's number is one of a part
pub owner_number : (ps : List Part) (v : ℕ) → number_in (owner ps v) ≤ length ps
owner_number ps v = omega (arith, owner_from_number 0 ps v)

pub positives_push : (ps : List Part) (p : Part) → positives (ps ++ (p ∷ [])) ≡ cond p.negative (positives ps) (positives ps + 1)
positives_push [] p = refl
positives_push (r ∷ ps) p = grind (arith, nat_tests, positives_push ps p)

pub ends_push : (ps : List Part) (p : Part) → ends_negative (ps ++ (p ∷ [])) ≡ p.negative
ends_push [] p = refl
ends_push (r ∷ []) p = refl
ends_push (r ∷ s ∷ ps) p = ends_push (s ∷ ps) p

-- the last part, as a draft keeps it
abbrev pub last_part : List Part → LastPart
last_part [] = Positive 0
last_part (p ∷ []) = last_at p.place p.negative
last_part (p ∷ r ∷ ps) = last_part (r ∷ ps)

pub last_push : (ps : List Part) (p : Part) → last_part (ps ++ (p ∷ [])) ≡ last_at p.place p.negative
last_push [] p = refl
last_push (r ∷ []) p = refl
last_push (r ∷ s ∷ ps) p = last_push (s ∷ ps) p

negative_at : (b : Bool) (place : ℕ) → last_negative (last_at place b) ≡ b
negative_at true place = refl
negative_at false place = refl

pub last_ends : (ps : List Part) → last_negative (last_part ps) ≡ ends_negative ps
last_ends [] = refl
last_ends (p ∷ []) = negative_at p.negative p.place
last_ends (p ∷ r ∷ ps) = last_ends (r ∷ ps)

-- what a negative part at the end does to a draft
ended_if : (b : Bool) (place : ℕ) (d : Draft) → parts_ended_by (last_at place b) d ≡ faulted d (fault_where b (Shape place))
ended_if true place d = refl
ended_if false place d = refl

pub last_is : (ps : List Part) (d : Draft) → parts_ended_by (last_part ps) d ≡ faulted d (last_faults ps)
last_is [] d = refl
last_is (p ∷ []) d = ended_if p.negative p.place d
last_is (p ∷ r ∷ ps) d = last_is (r ∷ ps) d
