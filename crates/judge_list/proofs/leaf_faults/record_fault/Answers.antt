-- `judge_list::leaf_faults::record_fault` meets its contract: the curve, the node, and then the boxes.
use Rattle.std.proofs.Common.{rules, ◌≡◌, sym, ◌∙◌, ap, ◌+◌}
use native.Mathlib.Nat.{add-zero}
use Rattle.integers.proofs.Between.{element_fits}
use Rattle.integers.proofs.First.{moved}
use Rattle.setting.specs.Setting.{lists}
use Rattle.boxes.specs.Ranges.{place_of}
use Rattle.boxes.proofs.Faults.{place_some, place_none}
use Rattle.judge_list.specs.Inside.{in_boxes, fine_at}
use Rattle.judge_list.proofs.Numbers.{boxes_below, curve_bad, node_bad, boxes_next}
use Rattle.judge_list.proofs.leaf_faults.record_fault.Goals as goal
use Rattle.judge_list.proofs.leaf_faults.record_fault.Goals.{After-contains, After-contains-2}

curve : (c : After-contains) → c.contains.result ≡ fine_at (lists c.args.m).most c.args.leaves.now c.args.at 0
curve c =
    let a = c.args in
    let fits = element_fits a.leaves.now a.at c.curve-1.given in
    rw add-zero (search rules)

node : (c : After-contains-2) → c.contains-2.result ≡ fine_at (lists c.args.m).most c.args.leaves.now c.args.at 1
node c =
    let a = c.args in
    let fits = element_fits a.leaves.now (a.at + 1) c.node-1.given in
    search rules

pub returns-then-not-contains : goal.returns-then-not-contains
returns-then-not-contains c =
    let a = c.args in
    sym (ap place_of (curve_bad (lists a.m) a.leaves.now a.at (sym (curve (goal.at.returns-then-not-contains c).After-contains) ∙ c.if-not-contains.true)))

pub returns-then-not-contains-2 : goal.returns-then-not-contains-2
returns-then-not-contains-2 c =
    let a = c.args in
    let at = goal.at.returns-then-not-contains-2 c in
    let curve-fine = sym (curve at.After-contains) ∙ c.if-not-contains.false in
    sym (ap place_of (node_bad (lists a.m) a.leaves.now a.at curve-fine (sym (node at.After-contains-2) ∙ c.if-not-contains-2.true)))

-- past both tests a fault of the record is one of its boxes
pub returns-in_err-place : goal.returns-in_err-place
returns-in_err-place c =
    let a = c.args in
    let at = goal.at.returns-in_err-place c in
    let e = boxes_next (lists a.m) a.leaves.now a.at (sym (curve at.After-contains) ∙ c.if-not-contains.false)
    (sym (node at.After-contains-2) ∙ c.if-not-contains-2.false) in
    c.from_residual.ensures ∙ sym (ap place_of (e ∙ ap (moved 2) (place_none _ c.in_err-place.ensures)))

pub overflow_add-result : goal.overflow_add-result
overflow_add-result c =
    let a = c.args in
    let b = boxes_below a.leaves.now (a.at + 2) (in_boxes (lists a.m)) _ (place_some _ c.in_ok-place.ensures) in
    search rules

pub returns : goal.returns
returns c =
    let a = c.args in
    let at = goal.at.returns c in
    let e = boxes_next (lists a.m) a.leaves.now a.at (sym (curve at.After-contains) ∙ c.if-not-contains.false)
    (sym (node at.After-contains-2) ∙ c.if-not-contains-2.false) in
    sym (ap place_of (e ∙ ap (moved 2) (place_some _ c.in_ok-place.ensures)))
