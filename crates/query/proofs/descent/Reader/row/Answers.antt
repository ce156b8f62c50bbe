use Rattle.std.proofs.Common.{arith, refl, ◌∙◌}
use Rattle.query.proofs.Rows.{begun, again, ended, failed}
use Rattle.query.proofs.descent.Reader.row.Goals as goal
use Rattle.std.proofs.lemmas.Result.{err_from_is_err_and}

pub loop-separator-init : goal.loop-separator-init
loop-separator-init g c = (omega arith, refl, λ run runs. begun _ run _)

pub loop-separator-smaller : goal.loop-separator-smaller
loop-separator-smaller g c =
    let on = c.requires.onward _ _ _ c.in_ok-item-2.ensures in
    omega (arith, on.fewer, c.loop-separator-test.ensures.moved.fewer)

pub loop-separator-preserved : goal.loop-separator-preserved
loop-separator-preserved g c =
    let on = c.requires.onward _ _ _ c.in_ok-item-2.ensures in
    let skips = c.loop-separator-test.ensures in (
      omega (arith, on.fewer, skips.moved.fewer, c.loop-separator.invariant.0),
      on.end ∙ skips.moved.end ∙ c.loop-separator.invariant.1,
      λ run runs. again _ run _ _ (c.loop-separator.invariant.2 run runs) skips (runs _ _ _ c.in_ok-item-2.ensures) on,
    )

pub returns-in_err-item-2-clause-value : goal.returns-in_err-item-2-clause-value
returns-in_err-item-2-clause-value g c =
    let p = err_from_is_err_and c.from_residual-in_err-item-2.result c.from_residual-in_err-item-2.ensures.1 in
    let on = c.requires.onward _ _ _ c.in_ok-item.ensures in
    rw (p.1, p.2) (record {
      reads = λ run runs. failed _ run run _ _ _ _ _ (runs _ _ _ c.in_ok-item.ensures) on (c.loop-separator.invariant.2 run runs) c.loop-separator-test.ensures
          (runs _ _ _ c.in_err-item-2.ensures);
    })

pub returns-clause-value : goal.returns-clause-value
returns-clause-value g c =
    let on = c.requires.onward _ _ _ c.in_ok-item.ensures in record {
      reads = λ run runs. ended _ run run _ _ _ _ (runs _ _ _ c.in_ok-item.ensures) on (c.loop-separator.invariant.2 run runs) c.loop-separator-test.ensures;
    }

pub returns-clause-onward : goal.returns-clause-onward
returns-clause-onward g c =
    let on = c.requires.onward _ _ _ c.in_ok-item.ensures in
    rw c.loop-separator-test.ensures.moved
    (record { fewer = omega (arith, on.fewer, c.loop-separator.invariant.0); end = c.loop-separator.invariant.1 ∙ on.end })
