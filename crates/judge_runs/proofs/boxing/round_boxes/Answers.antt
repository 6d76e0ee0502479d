-- `judge_runs::boxing::round_boxes` meets its contract. The loop's invariant: the box is round the first i boxes.
use mathlib.Core.Path.{◌≡◌, refl, ◌∙◌, ap, ap₂}
use native.Mathlib.Omega.{arith}
use Rattle.judge_runs.specs.Inside.{round_both, round_boxes}
use Rattle.judge_runs.proofs.Boxes.{round_next}
use Rattle.judge_runs.proofs.boxing.round_boxes.Goals as goal

pub loop-i-init : goal.loop-i-init
unfolding round_boxes
loop-i-init c = (omega arith, refl)

pub loop-i-preserved : goal.loop-i-preserved
loop-i-preserved c =
    let a = c.args in (
      omega (arith, c.loop-i-test.true),
      c.round_both-around.ensures ∙ ap₂ round_both c.loop-i.invariant.1 c.box_in.ensures
          ∙ round_next a.first a.list.now a.at c.loop-i.i,
    )

pub returns : goal.returns
returns c =
    let a = c.args in
    let n : c.loop-i.i ≡ a.count = omega (arith, c.loop-i-test.false) in
    c.loop-i.invariant.1 ∙ ap (round_boxes a.first a.list.now a.at) n

pub loop-i-smaller : goal.loop-i-smaller
loop-i-smaller c = omega arith
