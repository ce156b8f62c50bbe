-- The law of the query language. Assumes nothing.
use Rattle.std.specs.Prelude.{◌≡◌, ℕ, ◌≤◌, List, length, Ok, Err}
use Rattle.grammar.specs.Grammar.{ReadsQuery}
use Rattle.grammar.specs.Law.{GoesWrong, GoesDeep}
use Rattle.grammar.specs.Syntax.{Syntax}
use Rattle.grammar.specs.declared.fault.GrammarFault.TheVariants.{WrongToken, TooDeep}
use Rattle.letters.specs.Faults.{judged, letters_answer, LettersLaw}
use Rattle.letters.specs.declared.fault.LetterFault.{LetterFault}
use Rattle.query.specs.Answer.{answer_of, text_tokens}
use Rattle.query.specs.declared.fault.Fault.TheVariants.{Letters, Grammar, Sense}
use Rattle.sense.specs.Faults.{NoLater}
use Rattle.sense.specs.Meaning.{Reading, reading_of}
use Rattle.sense.specs.Sense.{Limits, sense_faults}
use Rattle.sense.specs.declared.fault.SenseFault.{SenseFault}
use Rattle.std.specs.List.{ContainsAt, AllByRecursion}

-- A text says r: it is not too long, none of its tokens is a stray byte or a long number, and they read, with conditions nested at most
-- eight deep, as something that keeps the limits and means r.
pub record Says (text : List ℕ) (r : Reading) : Type 0 where
  pub short : length text ≤ 4096
  pub lettered : AllByRecursion (λ t. judged t ≡ Ok tt) (text_tokens text)
  pub syntax : Syntax
  pub reads : ReadsQuery 8 (text_tokens text) syntax
  pub limits : Limits syntax
  pub means : r ≡ reading_of syntax

pub record LanguageLaw (text : List ℕ) : Type 0 where
  -- a text is read exactly where it says something, as what it says
  pub read : (r : Reading) → answer_of text ≡ Ok r → Says text r
  pub said : (r : Reading) → Says text r → answer_of text ≡ Ok r
  -- its tokens have at most one reading in the grammar, however deep; so it says one thing at most
  pub one_syntax : (d e : ℕ) (q s : Syntax) → ReadsQuery d (text_tokens text) q → ReadsQuery e (text_tokens text) s → q ≡ s
  pub one_reading : (r s : Reading) → Says text r → Says text s → r ≡ s
  -- a fault of letters is the text's length, or no later than that of any token
  pub letters : (f : LetterFault) → answer_of text ≡ Err (Letters f) → letters_answer text ≡ Err f
  pub lettered : LettersLaw text
  -- a wrong token is the first with which the tokens so far begin no query; a parenthesis is too deep if they begin only deeper ones
  pub wrong : (p : ℕ) → answer_of text ≡ Err (Grammar (WrongToken p)) → GoesWrong 8 (length text) (text_tokens text) p
  pub deep : (p : ℕ) → answer_of text ≡ Err (Grammar (TooDeep p)) → GoesDeep 8 (text_tokens text) p
  -- a fault of sense is one of all those of what the tokens read as, and no later than any
  pub sense : (f : SenseFault) → answer_of text ≡ Err (Sense f) →
      (q : Syntax) × ReadsQuery 8 (text_tokens text) q × ContainsAt (sense_faults q) f × AllByRecursion (NoLater f) (sense_faults q)
