use Rattle.std.proofs.Common.{◌≡◌, Some, None, sym, ◌∙◌, rules}
use Rattle.query.proofs.Making.{first_fault, meaning_is, holds_parts, holds_steps, holds_ends, is_read}
use Rattle.query.proofs.reader.check_sense.Goals as goal

pub returns-in-Some : goal.returns-in-Some
returns-in-Some c q from = let some : c.args.draft.now.fault ≡ Some c.in-Some.fault = search rules in sym (first_fault c.args.draft.now q from) ∙ some

pub invariant_of-result : goal.invariant_of-result
invariant_of-result c =
    let d = c.args.draft.now in
    let q = c.requires.0 in
    let from = c.requires.1 in
    let none : d.fault ≡ None = search rules in
    record {
      sequence = holds_parts d q from none;
      conditions = holds_steps d q from none;
      clauses = holds_ends d q from none;
      read = ∣ is_read d q from none ∣₁;
    }

pub returns : goal.returns
returns c q from =
    let d = c.args.draft.now in
    let none : d.fault ≡ None = search rules in
    (sym (first_fault d q from) ∙ none, meaning_is d q from none)
