use Rattle.std.proofs.Common.{ℕ, List, [], ◌∷◌, ◌++◌, Some, None, ap, ◌∙◌, append_assoc, append-nil, length-append, rules}
use Rattle.std.proofs.lemmas.List.{drop_all}
use Rattle.keys.proofs.Spelt.{identity_step}
use Rattle.keys.proofs.name.decompose.Goals as goal
use Rattle.keys.proofs.name.decompose.Goals.{in-Some, in-None}

pub loop-point-preserved : goal.loop-point-preserved
loop-point-preserved c =
    let inv = c.loop-point.invariant in
    elim c.match-letter_of.branch [
      | in-Some w ↦ (
        identity_step c.args.points.now c.loop-point.identity c.match-letter_of.identity c.loop-point.point-index (Some w.in-Some.letter) (search rules) w.in-Some.ensures inv.0
            (w.identity-is ∙ w.push-in-Some.ensures ∙ ap (λ (l : List ℕ). l ++ (w.in-Some.letter.mark ∷ [])) w.push.ensures ∙ append_assoc _ (w.in-Some.letter.base ∷ []) _),
        search (rules, length-append),
      )
      | in-None w ↦ (
        identity_step c.args.points.now c.loop-point.identity c.match-letter_of.identity c.loop-point.point-index None (search rules) w.in-None.ensures inv.0 (w.identity-is ∙ w.push-in-None.ensures),
        search (rules, length-append),
      )
    ]

pub returns : goal.returns
returns c = search (rules, append-nil, drop_all c.loop-point.point-index c.args.points.now c.loop-point-test.false)
