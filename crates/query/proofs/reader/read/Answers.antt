use Rattle.std.proofs.Common.{length, Ok, sym, refl, ap, ◌∙◌}
use Rattle.grammar.specs.Reading.{query_at}
use Rattle.query.proofs.Answering.{bad_letters, bad_grammar, bad_sense, good, drafted_fault, drafted_syntax, from_text, language_law}
use Rattle.query.proofs.reader.read.Goals as goal
use Rattle.query.specs.Answer.{text_tokens}
use Rattle.std.proofs.lemmas.Result.{err_from_is_err_and}

pub returns-in_err-check_letters : goal.returns-in_err-check_letters
returns-in_err-check_letters c =
    let p = err_from_is_err_and c.from_residual.result c.from_residual.ensures.1 in
    rw (p.1, p.2) (record { value = (bad_letters c.args.text.now _ (sym c.in_err-check_letters.ensures.answer), refl); law = language_law c.args.text.now })

pub returns-in_err-draft : goal.returns-in_err-draft
returns-in_err-draft c =
    let p = err_from_is_err_and c.from_residual-in_err-draft.result c.from_residual-in_err-draft.ensures.1 in
    let text = c.args.text.now in
    rw (p.1, p.2) (record {
      value = (bad_grammar text _ (sym c.in_ok-check_letters.ensures.answer) (drafted_fault (query_at 8 (length text) (text_tokens text)) _ c.in_err-draft.ensures), refl);
      law = language_law text;
    })

pub check_sense-requires : goal.check_sense-requires
check_sense-requires c =
    let q = drafted_syntax _ c.in_ok-draft.draft c.in_ok-draft.ensures in
    (q.0, from_text c.args.text.now c.in_ok-draft.draft q.0 q.1 q.2)

pub returns-in_err-place : goal.returns-in_err-place
returns-in_err-place c =
    let p = err_from_is_err_and c.from_residual-in_err-place.result c.from_residual-in_err-place.ensures.1 in
    let text = c.args.text.now in
    let q = drafted_syntax _ c.in_ok-draft.draft c.in_ok-draft.ensures in
    rw (p.1, p.2) (record {
      value = (
        bad_sense text q.0 _ (sym c.in_ok-check_letters.ensures.answer) q.1
            (c.in_err-place.ensures q.0 (from_text text c.in_ok-draft.draft q.0 q.1 q.2)),
        refl,
      );
      law = language_law text;
    })

pub returns : goal.returns
returns c =
    let text = c.args.text.now in
    let q = drafted_syntax _ c.in_ok-draft.draft c.in_ok-draft.ensures in
    let judged = c.in_ok-place.ensures q.0 (from_text text c.in_ok-draft.draft q.0 q.1 q.2) in
    record { value = good text q.0 (sym c.in_ok-check_letters.ensures.answer) q.1 judged.0 ∙ ap Ok (sym judged.1); law = language_law text }
