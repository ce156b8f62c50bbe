use Rattle.std.proofs.Common.{◌≡◌, ℕ, Bool, take, drop, ap, ◌∙◌, rules}
use Rattle.letters.proofs.token.split_while.Goals as goal
use Rattle.std.proofs.lemmas.Iterator.Consumers.{count_from_yields_List}
use Rattle.std.proofs.lemmas.Iterator.Search.{YieldsList-from_take_while}
use Rattle.std.proofs.lemmas.Iterator.{YieldsList-from_slice}
use Rattle.std.proofs.lemmas.List.Folds.{length-prefix_len}
use Rattle.letters.specs.Bytes.{Tests}
use Rattle.std.specs.List.{prefix_len}

pub returns : goal.returns
returns g c =
    let text = c.args.text.now in
    let many : (pass : ℕ → Bool) → Tests (λ b r. goal.F-post g c.args.test b r) pass → c.count.result ≡ prefix_len pass text = λ pass tests.
    count_from_yields_List c.take_while.result _ c.count.ensures.ran
    (YieldsList-from_take_while _ pass (YieldsList-from_slice text cc) c.take_while.ensures.closure c.take_while.ensures.done (λ x b q k. search (rules, tests))) ∙ length-prefix_len pass text in
    record {
      front = λ pass tests. c.split_at.ensures.front ∙ ap (λ n. take n text) (many pass tests);
      back = λ pass tests. c.split_at.ensures.back ∙ ap (λ n. drop n text) (many pass tests);
    }
