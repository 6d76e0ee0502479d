-- The depths of the curves of an outline. The loop's invariant: with k curves done, their depths stand at the front of the list and are added up.
use mathlib.Core.Path.{sym, ◌∙◌, ap}
use native.Mathlib.Omega.{arith}
use lib.IntN.{pos}
use Rattle.std.specs.Prelude.{Ok}
use Rattle.setting.specs.Setting.{lists}
use Rattle.band_passes.specs.Forms.{Outline}
use Rattle.band_passes.specs.Inside.{curves_in}
use Rattle.band_passes.proofs.Reading.{rest_next}
use Rattle.band_foretold.specs.Foretelling.{depths_of, depth_numbers, numbers_written}
use Rattle.band_foretell.proofs.Telling.{telling_start, telling_length, telling_few, telling_on}
use Rattle.band_foretell.proofs.Telling.{telling_answer, telling_list, shallow}
use Rattle.band_foretell.proofs.depths.depths_of.Goals as goal

pub loop-k-init : goal.loop-k-init
loop-k-init c = telling_start c.requires.1

pub curve_at-requires : goal.curve_at-requires
curve_at-requires c =
    (rest_next c.loop-k.invariant.rest c.loop-k-test.true).here.stands

pub depth_of-depth-requires : goal.depth_of-depth-requires
depth_of-depth-requires c =
    let x = (rest_next c.loop-k.invariant.rest c.loop-k-test.true).here in
    rw c.curve_at.ensures (c.requires.0, x.sized, x.suits.takes, c.requires.2)

pub put-requires : goal.put-requires
put-requires c =
    (omega (arith, telling_length c.loop-k.invariant, c.requires.3), shallow (lists c.args.m) (pos c.args.t) _ c.depth_of-depth.ensures)

pub with_depth-sums-requires : goal.with_depth-sums-requires
with_depth-sums-requires c =
    (telling_few c.loop-k.invariant (omega (arith, c.requires.1.few)), shallow (lists c.args.m) (pos c.args.t) _ c.depth_of-depth.ensures)

pub next_at-at-requires : goal.next_at-at-requires
next_at-at-requires c =
    (rest_next c.loop-k.invariant.rest c.loop-k-test.true).here.stands.0

pub loop-k-preserved : goal.loop-k-preserved
loop-k-preserved c =
    rw c.next_at-at.ensures
    (telling_on c.loop-k.invariant c.loop-k-test.true c.curve_at.ensures c.depth_of-depth.ensures c.with_depth-sums.ensures
    c.put.ensures)

pub shape_of-depths : goal.shape_of-depths
shape_of-depths c = telling_length c.loop-k.invariant

pub returns : goal.returns
returns c =
    let a = c.args in
    let h = c.loop-k-test.false in
    let f = c.loop-k.invariant in record {
      value = ap Ok c.answer_of.ensures ∙ telling_answer f h c.requires.3;
      depths_after = telling_list f h c.requires.3
          ∙ sym (ap (λ r. numbers_written (Ok r) (depth_numbers (depths_of (lists a.m) (pos a.t) (curves_in Outline a.ns.now a.curves))) a.depths.now)
          c.answer_of.ensures);
    }
