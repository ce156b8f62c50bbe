-- A query made of a draft that has no fault. Assumes nothing.
use Rattle.std.proofs.Common.{◌≡◌, ℕ, suc, ◌+◌, List, [], ◌∷◌, length, take, None, sym, refl, ap, ◌∙◌, subst}
use Rattle.grammar.specs.Syntax.{Syntax}
use Rattle.query.proofs.Lettered.{lettered, some_part}
use Rattle.query.proofs.Rebuilt.{take_laid, trees_of_steps}
use Rattle.query.specs.Held.{decoded, trees, HoldsParts, HoldsSteps, HoldsEnds, IsRead}
use Rattle.query.specs.Judged.{DraftedFrom}
use Rattle.sense.proofs.Whole.{sense_law}
use Rattle.sense.specs.Drafted.{blank}
use Rattle.sense.specs.Faults.{least}
use Rattle.sense.specs.Law.{Drafts}
use Rattle.sense.specs.Meaning.{Reading, Tree, reading_of, laid, postfix, steps_of, ends_from}
use Rattle.sense.specs.Sense.{Limits, sense_faults}
use Rattle.sense.specs.declared.clauses.Step.TheVariants.{And}
use Rattle.sense.specs.declared.draft.Draft.{Draft}

-- what a draft means
abbrev pub draft_meaning : Draft → Reading
draft_meaning d = decoded d.parts.kept d.parts.len d.clauses.key d.clauses.steps d.clauses.used d.window

-- the first fault of what was drafted
pub first_fault : (d : Draft) (q : Syntax) → DraftedFrom d q → d.fault ≡ least (sense_faults q)
first_fault d q from = ap (λ (e : Draft). e.fault) from.2 ∙ (sense_law q).fault (lettered from.1)

pub within : (d : Draft) (q : Syntax) → DraftedFrom d q → d.fault ≡ None → Limits q
within d q from none = (sense_law q).kept (some_part from.1) (sym (first_fault d q from) ∙ none)

drafts : (d : Draft) (q : Syntax) → DraftedFrom d q → Limits q → Drafts d (reading_of q)
drafts d q from limits = subst (λ (e : Draft). Drafts e (reading_of q)) (sym from.2) ((sense_law q).meaning (lettered from.1) limits)

pub front : {X : Type 0} (n : ℕ) (x : X) (xs : List X) (len : ℕ) (piece : List X) → xs ≡ laid n x piece → len ≡ length piece → take len xs ≡ piece
front n x xs len piece is counted = (λ i. take (counted i) (is i)) ∙ take_laid n x piece

means : (d : Draft) (r : Reading) → Drafts d r → draft_meaning d ≡ r
means d r h =
    let parts = front 12 blank d.parts.kept d.parts.len r.parts h.parts h.parts_len in
    let steps = front 47 And d.clauses.steps d.clauses.used (steps_of r.clauses) h.steps h.used in
    let clauses = ap trees steps ∙ trees_of_steps r.clauses in
    λ i. record { parts = parts i; key = h.key i; clauses = clauses i; window = h.window i }

pub meaning_is : (d : Draft) (q : Syntax) → DraftedFrom d q → d.fault ≡ None → draft_meaning d ≡ reading_of q
meaning_is d q from none = means d (reading_of q) (drafts d q from (within d q from none))

pub as_many : (n : ℕ) (ts : List Tree) → length (ends_from n ts) ≡ length ts
as_many n [] = refl
as_many n (t ∷ ts) = ap suc (as_many (n + length (postfix t)) ts)

pub holds_parts : (d : Draft) (q : Syntax) → DraftedFrom d q → d.fault ≡ None → HoldsParts d.parts.kept d.parts.len (draft_meaning d)
holds_parts d q from none =
    let h = drafts d q from (within d q from none) in
    subst (λ (r : Reading). HoldsParts d.parts.kept d.parts.len r) (sym (meaning_is d q from none)) (h.parts, h.parts_len)

pub holds_steps : (d : Draft) (q : Syntax) → DraftedFrom d q → d.fault ≡ None → HoldsSteps d.clauses.steps d.clauses.used (draft_meaning d)
holds_steps d q from none =
    let h = drafts d q from (within d q from none) in
    subst (λ (r : Reading). HoldsSteps d.clauses.steps d.clauses.used r) (sym (meaning_is d q from none)) (h.steps, h.used)

pub holds_ends : (d : Draft) (q : Syntax) → DraftedFrom d q → d.fault ≡ None → HoldsEnds d.clauses.ends d.clauses.len (draft_meaning d)
holds_ends d q from none =
    let h = drafts d q from (within d q from none) in
    subst (λ (r : Reading). HoldsEnds d.clauses.ends d.clauses.len r) (sym (meaning_is d q from none))
    (h.ends, h.clauses_len ∙ sym (as_many 0 (reading_of q).clauses))

pub is_read : (d : Draft) (q : Syntax) → DraftedFrom d q → d.fault ≡ None → IsRead (draft_meaning d)
is_read d q from none = (from.0, q, from.1, within d q from none, meaning_is d q from none)
