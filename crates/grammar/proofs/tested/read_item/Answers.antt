use Rattle.std.proofs.Common.{sym, rules}
use Rattle.grammar.proofs.tested.read_item.Goals as goal

pub returns-in_err-expect : goal.returns-in_err-expect
returns-in_err-expect c = record { value = rw (sym c.in_ok-token.ensures.onward.end) (search rules); onward = search rules }

pub returns-in_err-reading : goal.returns-in_err-reading
returns-in_err-reading c =
    let text = c.in_ok-token.ensures.onward.end in
    let same = c.in_ok-expect.ensures.onward.end in
    let dot = simp text at c.in_ok-expect.ensures.value in
    let reading = simp (same, text) at c.in_err-reading.ensures.value in
    search rules

pub returns-in-Some : goal.returns-in-Some
returns-in-Some c =
    let text = c.in_ok-token.ensures.onward.end in
    let same = c.in_ok-expect.ensures.onward.end in
    let dot = simp text at c.in_ok-expect.ensures.value in
    let reading = simp (same, text) at c.in_ok-reading.ensures.value in
    search rules
