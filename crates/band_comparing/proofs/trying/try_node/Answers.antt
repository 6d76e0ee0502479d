-- A node tried: its two numbers, then its boxes.
use mathlib.Core.Path.{◌≡◌, ◌∙◌, ap}
use Prim.Native.Nat.{ℕ, ◌+◌, ◌^◌, ◌≤◌}
use native.Mathlib.Nat.{lt_trans}
use native.Mathlib.Omega.{arith}
use lib.Dec.{lit<}
use lib.ListN.{length}
use lib.IntN.{pos}
use mir.Syntax.{w32, w64}
use mir.Val.{to_z}
use mir.Facts.{to_z-of_z, to_z_pos}
use Rattle.setting.specs.Setting.{lists, break_points}
use Rattle.curve_nodes.specs.Nodes.{depth}
use Rattle.bound_node.specs.Boxes.{meets}
use Rattle.band_records.specs.Records.{boxes_to, node_numbers}
use Rattle.integers.proofs.Ranges.{stored}
use Rattle.std.specs.Prelude.{Option}
use Rattle.band_comparing.specs.Inside.{reach_of, tried_of, Tryable}
use Rattle.band_comparing.proofs.ReachLaws.{number_under}
use Rattle.band_comparing.proofs.TryLaws.{node_head}
use Rattle.band_comparing.proofs.trying.try_node.Goals as goal
use Rattle.band_comparing.proofs.trying.try_node.Goals.{After-reach_number-first, After-depth-depth}

-- they leave no more
first : (c : After-reach_number-first) → c.reach_number-first.result ≤ length c.args.given.now
first c = number_under _ _ _ _ c.reach_number-first.ensures c.requires.0.there

-- what the test of the boxes asks, at the depth that was computed
tryable : (d : After-depth-depth) → let a = d.args in
    Tryable a.given.now d.reach_number-second.result (a.at + 2) (2 ^ 60) a.by.m a.by.scale a.rows.now d.depth-depth.result a.curve (stored w64 a.t)
tryable d =
    let p = d.requires.0 in
    record {
      there = number_under _ _ _ _ d.reach_number-second.ensures (number_under _ _ _ _ d.reach_number-first.ensures p.there);
      place = omega (arith, p.place);
      lent = p.lent;
      sized = rw d.depth-depth.ensures p.sized;
      takes = p.takes;
      shallow = rw d.depth-depth.ensures p.shallow;
      small = rw (to_z-of_z d.ranges.t) p.small;
    }

-- the boxes after the two numbers, at the tolerance and the depth that are meant
tried : {r : Option ℕ} (d : After-depth-depth) → let a = d.args in let σ = lists a.by.m in
    r ≡ tried_of (meets σ (stored w64 a.t) d.depth-depth.result a.curve)
    (reach_of a.given.now d.reach_number-second.result (a.at + 2) (boxes_to σ (break_points σ) d.depth-depth.result a.curve))
    → r ≡ tried_of (meets σ a.t (depth a.node) a.curve)
    (reach_of a.given.now a.reach a.at (node_numbers a.number a.node (boxes_to σ (break_points σ) (depth a.node) a.curve)))
tried d e =
    let a = d.args in
    let σ = lists a.by.m in
    let number_is : to_z w32 a.number ≡ pos a.number = to_z_pos w32 d.requires.1.curve in
    let node_is : to_z w32 a.node ≡ pos a.node = to_z_pos w32 (lt_trans d.requires.1.below (lit< tt)) in
    (rw (to_z-of_z d.ranges.t, d.depth-depth.ensures) at e)
    ∙ ap (tried_of (meets σ a.t (depth a.node) a.curve)) (node_head a.given.now a.reach a.at a.number a.node
    (boxes_to σ (break_points σ) (depth a.node) a.curve) number_is node_is d.reach_number-first.ensures d.reach_number-second.ensures)

pub reach_number-second-requires : goal.reach_number-second-requires
reach_number-second-requires c = first c

pub try_higher-requires : goal.try_higher-requires
try_higher-requires c = (tryable (goal.at.try_higher-requires c).After-depth-depth, c.if-curve-gt3.true)

pub try_low-requires : goal.try_low-requires
try_low-requires c = (tryable (goal.at.try_low-requires c).After-depth-depth, c.if-curve-gt3.false)

pub returns-then-curve-gt3 : goal.returns-then-curve-gt3
returns-then-curve-gt3 c = tried (goal.at.returns-then-curve-gt3 c).After-depth-depth c.try_higher.ensures

pub returns-else-curve-gt3 : goal.returns-else-curve-gt3
returns-else-curve-gt3 c = tried (goal.at.returns-else-curve-gt3 c).After-depth-depth c.try_low.ensures
