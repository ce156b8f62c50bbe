use Rattle.std.proofs.Common.{refl}
use Rattle.query.proofs.Contained.{new_text, new_reading, new_answer, says_read}
use Rattle.query.proofs.query.Query.new.Goals as goal

pub invariant_of-result : goal.invariant_of-result
invariant_of-result c = record {
  sequence = (refl, refl);
  conditions = (refl, refl);
  clauses = (refl, refl);
  read = ∣ says_read new_text new_reading new_answer ∣₁;
}

pub returns : goal.returns
returns c = new_answer
