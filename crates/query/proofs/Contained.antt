-- What the fields of a query hold. Assumes nothing.
use Rattle.std.proofs.Common.{◌≡◌, ℕ, ◌+◌, true, false, cond, List, [], ◌∷◌, ◌++◌, length, set, Ok, codes, count_by, sym, refl, ap, ◌∙◌, arith}
use Rattle.std.proofs.lemmas.List.Sums.{sum_by-append}
use Rattle.query.proofs.Answering.{language_law}
use Rattle.query.specs.Answer.{answer_of, text_tokens}
use Rattle.query.specs.Contents.{is_test, tree_tests, tests_in}
use Rattle.query.specs.Held.{IsRead}
use Rattle.query.specs.Meant.{OneValue}
use Rattle.sense.specs.Drafted.{no_kinds, blank}
use Rattle.sense.specs.Meaning.{Reading, Tree, laid, postfix, steps_of, ends_from}
use Rattle.sense.specs.Meaning.Tree.{leaf, and, or}
use Rattle.sense.specs.declared.clauses.Step.{Step}
use Rattle.sense.specs.declared.clauses.Step.TheVariants.{And, Or}

pub one_value : OneValue
one_value p q e = record {
  parts = p.sequence.0 ∙ ap (λ (r : Reading). laid 12 blank r.parts) e ∙ sym q.sequence.0;
  parts_len = p.sequence.1 ∙ ap (λ (r : Reading). length r.parts) e ∙ sym q.sequence.1;
  key = ap (λ (r : Reading). r.key) e;
  steps = p.conditions.0 ∙ ap (λ (r : Reading). laid 47 And (steps_of r.clauses)) e ∙ sym q.conditions.0;
  steps_len = p.conditions.1 ∙ ap (λ (r : Reading). length (steps_of r.clauses)) e ∙ sym q.conditions.1;
  ends = p.clauses.0 ∙ ap (λ (r : Reading). laid 24 0 (ends_from 0 r.clauses)) e ∙ sym q.clauses.0;
  clauses_len = p.clauses.1 ∙ ap (λ (r : Reading). length (ends_from 0 r.clauses)) e ∙ sym q.clauses.1;
  window = ap (λ (r : Reading). r.window) e;
}

-- what a text says is read
pub says_read : (text : List ℕ) (r : Reading) → answer_of text ≡ Ok r → IsRead r
says_read text r e = let s = (language_law text).read r e in (text_tokens text, s.syntax, s.reads, s.limits, s.means)

-- the query of a new place
abbrev pub new_text : List ℕ
new_text = codes "EVENT SEQ(START a) WITHIN 1"

abbrev pub new_reading : Reading
new_reading = record {
  parts = record { negative = false; kinds = set no_kinds 4 true; variable = 97 } ∷ [];
  key = false;
  clauses = [];
  window = 1;
}

pub new_answer : answer_of new_text ≡ Ok new_reading
unfolding answer_of
new_answer = refl

-- ---- counting

tests_append : (xs ys : List Step) → count_by is_test (xs ++ ys) ≡ count_by is_test xs + count_by is_test ys
tests_append = sum_by-append (λ x. cond (is_test x) 1 0)

postfix_tests : (t : Tree) → count_by is_test (postfix t) ≡ tree_tests t
postfix_tests (leaf t) = refl
postfix_tests (and a b) =
    tests_append (postfix a) (postfix b ++ (And ∷ [])) ∙
    omega (arith, postfix_tests a, postfix_tests b, tests_append (postfix b) (And ∷ []))
postfix_tests (or a b) =
    tests_append (postfix a) (postfix b ++ (Or ∷ [])) ∙
    omega (arith, postfix_tests a, postfix_tests b, tests_append (postfix b) (Or ∷ []))

pub steps_tests : (ts : List Tree) → count_by is_test (steps_of ts) ≡ tests_in ts
steps_tests [] = refl
steps_tests (t ∷ ts) = tests_append (postfix t) (steps_of ts) ∙ omega (arith, postfix_tests t, steps_tests ts)
