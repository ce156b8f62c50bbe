use Rattle.std.proofs.Common.{length}
use Rattle.query.proofs.Simulated.{drafts}
use Rattle.query.proofs.reader.check_grammar.Goals as goal
use Rattle.query.specs.Answer.{text_tokens}
use Rattle.std.proofs.lemmas.Result.{err_from_is_err_and}

pub returns-in_err-read_query : goal.returns-in_err-read_query
returns-in_err-read_query c =
    let p = err_from_is_err_and c.from_residual.result c.from_residual.ensures.1 in
    let text = c.args.text.now in
    let start = c.new-reader.ensures in
    let read = simp (start.end, start.tokens) at c.in_err-read_query.ensures in
    rw (p.1, p.2) (drafts 8 (length text) c.new-reader.result.draft (text_tokens text) _ start.draft read)

pub returns : goal.returns
returns c =
    let text = c.args.text.now in
    let start = c.new-reader.ensures in
    let read = simp (start.end, start.tokens) at c.in_ok-read_query.ensures in
    drafts 8 (length text) c.new-reader.result.draft (text_tokens text) _ start.draft read
