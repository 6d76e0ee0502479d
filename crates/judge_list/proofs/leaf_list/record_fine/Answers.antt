-- `judge_list::leaf_list::record_fine` meets its contract: the curve, the node and the sides, all at once.
use mathlib.Core.Path.{◌≡◌}
use mathlib.Core.Bool.{◌&&◌}
use Prim.Native.Nat.{suc, ◌+◌, ◌*◌, ◌-◌, ◌/◌}
use native.Mathlib.Nat.{add-zero}
use native.Mathlib.Omega.{arith}
use mir.Facts.{to_z-of_z}
use Rattle.integers.proofs.Between.{element_fits}
use Rattle.setting.specs.Setting.{lists}
use Rattle.judge_list.specs.Inside.{fine_at}
use Rattle.judge_list.proofs.Numbers.{sides_in_turn}
use Rattle.judge_list.proofs.leaf_list.record_fine.Goals as goal

pub returns : goal.returns
returns c =
    let a = c.args in
    let ns = a.leaves.now in
    let curve = element_fits ns a.at c.curve-1.given in
    let node = element_fits ns (a.at + 1) c.node-1.given in
    let most = (lists a.m).most in
    let fours = 4 * ((a.m + 1) / 2) in
    let left = 2 * a.m + 2 - fours in
    let all : fours + left ≡ 2 * suc a.m = omega arith in
    let behind : a.at + (2 + 2 * fours) ≡ a.at + 2 + 2 * fours = omega arith in
    let last = rw behind at c.sides_fine-last.ensures in
    rw (add-zero, to_z-of_z curve, to_z-of_z node, c.sides_fine-most.ensures, last)
    (rw (add-zero, all) at (sides_in_turn (fine_at most ns a.at 0 && fine_at most ns a.at 1) ns (a.at + 2) fours left))
