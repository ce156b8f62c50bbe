use Rattle.std.proofs.Common.{◌≡◌, ℕ, ◌≤◌}
use Rattle.grammar.specs.Shown.{count}
use Rattle.letters.specs.Tokens.{end_of}
use Rattle.query.proofs.Rows.{Sofar}
use Rattle.query.proofs.descent.Reader.row.Given as goal
use Rattle.query.specs.Descent.{Run, Runs}

abbrev pub invariant-loop-separator : goal.invariant-loop-separator
invariant-loop-separator g l =
    (count l.self.tokens ≤ count l.initial.self.tokens)
    × (end_of l.self.tokens ≡ end_of l.initial.self.tokens)
    × ((run : ℕ → Run) → Runs (λ s r t. goal.F-post g l.item s r t) run → Sofar (g.W.Wanted.test l.separator) run l.initial.self l.self)

abbrev pub decreases-loop-separator : goal.decreases-loop-separator
decreases-loop-separator g l = count l.self.tokens
