-- The answer for a query text: what it means, or its fault. Each layer is tried on the whole text before the next. Assumes nothing.
use Rattle.std.specs.Prelude.{◌≡◌, ℕ, List, length, Some, None, Ok, Err, Option, Result}
use Rattle.grammar.specs.Reading.{query_at}
use Rattle.grammar.specs.Syntax.{Syntax}
use Rattle.grammar.specs.declared.fault.GrammarFault.{GrammarFault}
use Rattle.letters.specs.Faults.{Judged, letters_answer}
use Rattle.letters.specs.Tokens.{Placed, tokens_of}
use Rattle.query.specs.Meant.{meaning}
use Rattle.query.specs.declared.fault.Fault.{Fault}
use Rattle.query.specs.declared.fault.Fault.TheVariants.{Letters, Grammar, Sense}
use Rattle.query.specs.declared.query.Query.{Query}
use Rattle.sense.specs.Faults.{least}
use Rattle.sense.specs.Meaning.{Reading, reading_of}
use Rattle.sense.specs.Sense.{sense_faults}
use Rattle.sense.specs.declared.fault.SenseFault.{SenseFault}

abbrev pub text_tokens : List ℕ → List Placed
text_tokens text = tokens_of (length text) text

abbrev pub after_sense : Syntax → Option SenseFault → Result Reading Fault
after_sense q None = Ok (reading_of q)
after_sense q (Some f) = Err (Sense f)

abbrev pub after_grammar : Result Syntax GrammarFault → Result Reading Fault
after_grammar (Ok q) = after_sense q (least (sense_faults q))
after_grammar (Err f) = Err (Grammar f)

-- with conditions nested at most d deep
abbrev pub after_letters : ℕ → List ℕ → Judged → Result Reading Fault
after_letters d text (Ok u) = after_grammar (query_at d (length text) (text_tokens text))
after_letters d text (Err f) = Err (Letters f)

abbrev pub answer_at : ℕ → List ℕ → Result Reading Fault
answer_at d text = after_letters d text (letters_answer text)

unfoldable pub answer_of : List ℕ → Result Reading Fault
answer_of text = answer_at 8 text

-- what a call of the reader answers, and what it leaves in the caller's place: the query read, or what was there
abbrev pub Answers : Result (Unit {0}) Fault → Query → Query → Result Reading Fault → Type 0
Answers (Ok u) old new answer = answer ≡ Ok (meaning new)
Answers (Err f) old new answer = (answer ≡ Err f) × (new ≡ old)
