-- The answer for a text, layer by layer, and the law of the language. Assumes nothing.
use Rattle.std.proofs.Common.{◌≡◌, ℕ, List, length, Some, None, Ok, Err, Option, Result, sym, refl, ap, ◌∙◌, arith}
use Rattle.grammar.proofs.Whole.{grammar_law}
use Rattle.grammar.specs.Grammar.{ReadsQuery}
use Rattle.grammar.specs.Reading.{query_at}
use Rattle.grammar.specs.Syntax.{Syntax}
use Rattle.grammar.specs.declared.fault.GrammarFault.{GrammarFault}
use Rattle.grammar.specs.declared.fault.GrammarFault.TheVariants.{WrongToken, TooDeep}
use Rattle.letters.proofs.Least.{letters_law}
use Rattle.letters.specs.Faults.{Judged, letters_answer}
use Rattle.letters.specs.declared.fault.LetterFault.{LetterFault}
use Rattle.query.proofs.Lettered.{some_part}
use Rattle.query.specs.Answer.{text_tokens, after_sense, after_grammar, after_letters, answer_of}
use Rattle.query.specs.Descent.{as_draft}
use Rattle.query.specs.Judged.{DraftedFrom}
use Rattle.query.specs.Law.{Says, LanguageLaw}
use Rattle.query.specs.declared.fault.Fault.{Fault}
use Rattle.query.specs.declared.fault.Fault.TheVariants.{Letters, Grammar, Sense}
use Rattle.sense.proofs.Whole.{sense_law}
use Rattle.sense.specs.Drafting.{drafted}
use Rattle.sense.specs.Faults.{least, NoLater}
use Rattle.sense.specs.Meaning.{Reading, reading_of}
use Rattle.sense.specs.Sense.{sense_faults}
use Rattle.sense.specs.declared.draft.Draft.{Draft}
use Rattle.sense.specs.declared.fault.SenseFault.{SenseFault}
use Rattle.std.specs.List.{ContainsAt, AllByRecursion}

-- the grammar's answer for a text
abbrev parsed : List ℕ → Result Syntax GrammarFault
parsed text = query_at 8 (length text) (text_tokens text)

-- ---- the answer, from those of the layers

pub bad_letters : (text : List ℕ) (f : LetterFault) → letters_answer text ≡ Err f → answer_of text ≡ Err (Letters f)
unfolding answer_of
bad_letters text f is = ap (after_letters 8 text) is

good_letters : (text : List ℕ) → letters_answer text ≡ Ok tt → answer_of text ≡ after_grammar (parsed text)
unfolding answer_of
good_letters text is = ap (after_letters 8 text) is

pub bad_grammar : (text : List ℕ) (e : GrammarFault) → letters_answer text ≡ Ok tt → parsed text ≡ Err e → answer_of text ≡ Err (Grammar e)
bad_grammar text e letters is = good_letters text letters ∙ ap after_grammar is

pub bad_sense : (text : List ℕ) (q : Syntax) (f : SenseFault) → letters_answer text ≡ Ok tt → parsed text ≡ Ok q → least (sense_faults q) ≡ Some f → answer_of text ≡ Err (Sense f)
bad_sense text q f letters is first = good_letters text letters ∙ ap after_grammar is ∙ ap (after_sense q) first

pub good : (text : List ℕ) (q : Syntax) → letters_answer text ≡ Ok tt → parsed text ≡ Ok q → least (sense_faults q) ≡ None → answer_of text ≡ Ok (reading_of q)
good text q letters is none = good_letters text letters ∙ ap after_grammar is ∙ ap (after_sense q) none

-- ---- what was drafted

pub drafted_fault : (r : Result Syntax GrammarFault) (e : GrammarFault) → Err e ≡ as_draft r → r ≡ Err e
drafted_fault (Ok q) e is = let z : ◌≡◌ {A = ℕ} 0 1 = cc in absurd (omega arith)
drafted_fault (Err f) e is = let same : e ≡ f = cc in ap Err (sym same)

pub drafted_syntax : (r : Result Syntax GrammarFault) (d : Draft) → Ok d ≡ as_draft r → (q : Syntax) × (r ≡ Ok q) × (d ≡ drafted q)
drafted_syntax (Ok q) d is = (q, refl, (cc))
drafted_syntax (Err f) d is = let z : ◌≡◌ {A = ℕ} 0 1 = cc in absurd (omega arith)

pub from_text : (text : List ℕ) (d : Draft) (q : Syntax) → parsed text ≡ Ok q → d ≡ drafted q → DraftedFrom d q
from_text text d q is same = (text_tokens text, (grammar_law 8 (length text) (text_tokens text)).sound q is, same)

-- ---- the ways to an answer

data Way (text : List ℕ) : Result Reading Fault → Type 0 where
  by_letters : (f : LetterFault) → letters_answer text ≡ Err f → Way text (Err (Letters f))
  by_grammar : (e : GrammarFault) → parsed text ≡ Err e → Way text (Err (Grammar e))
  by_sense : (q : Syntax) (f : SenseFault) → parsed text ≡ Ok q → least (sense_faults q) ≡ Some f → Way text (Err (Sense f))
  through : (q : Syntax) → letters_answer text ≡ Ok tt → parsed text ≡ Ok q → least (sense_faults q) ≡ None → Way text (Ok (reading_of q))

way_sense : (text : List ℕ) (q : Syntax) (o : Option SenseFault) → letters_answer text ≡ Ok tt → parsed text ≡ Ok q → least (sense_faults q) ≡ o → Way text (after_sense q o)
way_sense text q None letters is first = through q letters is first
way_sense text q (Some f) letters is first = by_sense q f is first

way_grammar : (text : List ℕ) (r : Result Syntax GrammarFault) → letters_answer text ≡ Ok tt → parsed text ≡ r → Way text (after_grammar r)
way_grammar text (Ok q) letters is = way_sense text q (least (sense_faults q)) letters is refl
way_grammar text (Err e) letters is = by_grammar e is

way_letters : (text : List ℕ) (j : Judged) → letters_answer text ≡ j → Way text (after_letters 8 text j)
way_letters text (Ok u) is = way_grammar text (parsed text) is refl
way_letters text (Err f) is = by_letters f is

way : (text : List ℕ) → Way text (answer_of text)
unfolding answer_of
way text = way_letters text (letters_answer text) refl

-- ---- the law

module _ (text : List ℕ) where
  read_as : (a : Result Reading Fault) → Way text a → (r : Reading) → a ≡ Ok r → Says text r
  read_as a (by_letters f is) r e = let z : ◌≡◌ {A = ℕ} 0 1 = cc in absurd (omega arith)
  read_as a (by_grammar f is) r e = let z : ◌≡◌ {A = ℕ} 0 1 = cc in absurd (omega arith)
  read_as a (by_sense q f is first) r e = let z : ◌≡◌ {A = ℕ} 0 1 = cc in absurd (omega arith)
  read_as a (through q letters is none) r e =
      let fine = (letters_law text).clean letters in
      let reads = (grammar_law 8 (length text) (text_tokens text)).sound q is in
      record {
        short = fine.0;
        lettered = fine.1;
        syntax = q;
        reads = reads;
        limits = (sense_law q).kept (some_part reads) none;
        means = (cc);
      }

  said_so : (r : Reading) → Says text r → answer_of text ≡ Ok r
  said_so r s =
      good text s.syntax ((letters_law text).cleared s.short s.lettered) ((grammar_law 8 (length text) (text_tokens text)).complete s.syntax s.reads)
      ((sense_law s.syntax).clean s.limits) ∙ ap Ok (sym s.means)

  same_ok : (r s : Reading) → ◌≡◌ {A = Result Reading Fault} (Ok r) (Ok s) → r ≡ s
  same_ok r s e = cc

  of_letters : (a : Result Reading Fault) → Way text a → (f : LetterFault) → a ≡ Err (Letters f) → letters_answer text ≡ Err f
  of_letters a (by_letters g is) f e = let same : g ≡ f = cc in is ∙ ap Err same
  of_letters a (by_grammar g is) f e = let z : ◌≡◌ {A = ℕ} 0 1 = cc in absurd (omega arith)
  of_letters a (by_sense q g is first) f e = let z : ◌≡◌ {A = ℕ} 0 1 = cc in absurd (omega arith)
  of_letters a (through q letters is none) f e = let z : ◌≡◌ {A = ℕ} 0 1 = cc in absurd (omega arith)

  of_grammar : (a : Result Reading Fault) → Way text a → (f : GrammarFault) → a ≡ Err (Grammar f) → parsed text ≡ Err f
  of_grammar a (by_letters g is) f e = let z : ◌≡◌ {A = ℕ} 0 1 = cc in absurd (omega arith)
  of_grammar a (by_grammar g is) f e = let same : g ≡ f = cc in is ∙ ap Err same
  of_grammar a (by_sense q g is first) f e = let z : ◌≡◌ {A = ℕ} 0 1 = cc in absurd (omega arith)
  of_grammar a (through q letters is none) f e = let z : ◌≡◌ {A = ℕ} 0 1 = cc in absurd (omega arith)

  of_sense : (a : Result Reading Fault) → Way text a → (f : SenseFault) → a ≡ Err (Sense f) →
      (q : Syntax) × ReadsQuery 8 (text_tokens text) q × ContainsAt (sense_faults q) f × AllByRecursion (NoLater f) (sense_faults q)
  of_sense a (by_letters g is) f e = let z : ◌≡◌ {A = ℕ} 0 1 = cc in absurd (omega arith)
  of_sense a (by_grammar g is) f e = let z : ◌≡◌ {A = ℕ} 0 1 = cc in absurd (omega arith)
  of_sense a (by_sense q g is first) f e =
      let same : g ≡ f = cc in
      let found = first ∙ ap Some same in
      (q, (grammar_law 8 (length text) (text_tokens text)).sound q is, (sense_law q).some f found, (sense_law q).first f found)
  of_sense a (through q letters is none) f e = let z : ◌≡◌ {A = ℕ} 0 1 = cc in absurd (omega arith)

pub language_law : (text : List ℕ) → LanguageLaw text
language_law text = record {
  read = read_as text (answer_of text) (way text);
  said = said_so text;
  one_syntax = (grammar_law 8 (length text) (text_tokens text)).one;
  one_reading = λ r s a b. same_ok text r s (sym (said_so text r a) ∙ said_so text s b);
  letters = of_letters text (answer_of text) (way text);
  lettered = letters_law text;
  wrong = λ p e. (grammar_law 8 (length text) (text_tokens text)).wrong p (of_grammar text (answer_of text) (way text) (WrongToken p) e);
  deep = λ p e. (grammar_law 8 (length text) (text_tokens text)).deep p (of_grammar text (answer_of text) (way text) (TooDeep p) e);
  sense = of_sense text (answer_of text) (way text);
}
