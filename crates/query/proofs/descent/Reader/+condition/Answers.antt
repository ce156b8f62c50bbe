use Rattle.std.proofs.Common.{length, sym, ap, ◌∙◌, rules}
use Rattle.grammar.specs.Known.{is_word}
use Rattle.grammar.specs.Reading.{Read, then, giving, more}
use Rattle.letters.specs.Tokens.{ahead, end_of}
use Rattle.letters.specs.declared.word.Class.TheVariants as class
use Rattle.query.proofs.Nested.{and_next, or_next, either_is}
use Rattle.query.proofs.Rows.{begun, again, ended, failed}
use Rattle.query.proofs.descent.Reader.+condition.Goals as goal
use Rattle.query.specs.Descent.{unit_run, all_run}
use Rattle.sense.specs.Drafted.{joined}
use Rattle.sense.specs.declared.clauses.Step.TheVariants.{And, Or}
use Rattle.sense.specs.declared.draft.Draft.{Draft}
use Rattle.std.proofs.lemmas.Result.{err_from_is_err_and}

pub read_all-loop-self-init : goal.read_all-loop-self-init
read_all-loop-self-init t c = begun (is_word class.And) (and_next c.args.depth) _

pub read_all-returns-in_err-read_unit-2 : goal.read_all-returns-in_err-read_unit-2
read_all-returns-in_err-read_unit-2 t c =
    let p = err_from_is_err_and c.from_residual-in_err-read_unit-2.result c.from_residual-in_err-read_unit-2.ensures.1 in
    rw (p.1, p.2)
    (record {
      value = failed (is_word class.And) (and_next c.args.depth) (unit_run c.args.depth) _ _ _ _ _ c.in_ok-read_unit.ensures.value c.in_ok-read_unit.ensures.onward c.loop-self.invariant
          c.loop-self-test.ensures (ap (giving (λ (d : Draft). joined d And)) c.in_err-read_unit-2.ensures.value);
      onward = search rules;
    })

pub read_all-loop-self-preserved : goal.read_all-loop-self-preserved
read_all-loop-self-preserved t c =
    rw c.join.ensures
    (again (is_word class.And) (and_next c.args.depth) _ _ c.loop-self.invariant c.loop-self-test.ensures
    (ap (giving (λ (d : Draft). joined d And)) c.in_ok-read_unit-2.ensures.value) c.in_ok-read_unit-2.ensures.onward)

pub read_all-returns : goal.read_all-returns
read_all-returns t c =
    record {
      value = ended (is_word class.And) (and_next c.args.depth) (unit_run c.args.depth) _ _ _ _ c.in_ok-read_unit.ensures.value c.in_ok-read_unit.ensures.onward c.loop-self.invariant
          c.loop-self-test.ensures;
      onward = search rules;
    }

pub read_either-returns-in_err-read_all : goal.read_either-returns-in_err-read_all
read_either-returns-in_err-read_all t c =
    let p = err_from_is_err_and c.from_residual.result c.from_residual.ensures.1 in
    let end = end_of c.args.self.now.tokens in
    rw (p.1, p.2)
    (record {
      value = ap (λ (r : Read Draft). then r (λ d rest. more (is_word class.Or) (or_next c.args.depth end) (length rest) d rest)) c.in_err-read_all.ensures.value ∙
          sym (either_is c.args.depth end c.args.self.now.draft (ahead c.args.self.now.tokens));
      onward = search rules;
    })

pub read_either-loop-self-init : goal.read_either-loop-self-init
read_either-loop-self-init t c = begun (is_word class.Or) (or_next c.args.depth) _

pub read_either-returns-in_err-read_all-2 : goal.read_either-returns-in_err-read_all-2
read_either-returns-in_err-read_all-2 t c =
    let p = err_from_is_err_and c.from_residual-in_err-read_all-2.result c.from_residual-in_err-read_all-2.ensures.1 in
    rw (p.1, p.2)
    (record {
      value = failed (is_word class.Or) (or_next c.args.depth) (all_run c.args.depth) _ _ _ _ _ c.in_ok-read_all.ensures.value c.in_ok-read_all.ensures.onward c.loop-self.invariant
          c.loop-self-test.ensures (ap (giving (λ (d : Draft). joined d Or)) c.in_err-read_all-2.ensures.value) ∙
          sym (either_is c.args.depth (end_of c.args.self.now.tokens) c.args.self.now.draft (ahead c.args.self.now.tokens));
      onward = search rules;
    })

pub read_either-loop-self-preserved : goal.read_either-loop-self-preserved
read_either-loop-self-preserved t c =
    rw c.join.ensures
    (again (is_word class.Or) (or_next c.args.depth) _ _ c.loop-self.invariant c.loop-self-test.ensures
    (ap (giving (λ (d : Draft). joined d Or)) c.in_ok-read_all-2.ensures.value) c.in_ok-read_all-2.ensures.onward)

pub read_either-returns : goal.read_either-returns
read_either-returns t c =
    record {
      value = ended (is_word class.Or) (or_next c.args.depth) (all_run c.args.depth) _ _ _ _ c.in_ok-read_all.ensures.value c.in_ok-read_all.ensures.onward c.loop-self.invariant
          c.loop-self-test.ensures ∙
          sym (either_is c.args.depth (end_of c.args.self.now.tokens) c.args.self.now.draft (ahead c.args.self.now.tokens));
      onward = search rules;
    }
