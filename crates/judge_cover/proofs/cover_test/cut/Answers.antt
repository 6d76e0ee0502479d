-- `judge_cover::cover_test::cut` meets its contract: the edge of the side is compared with one end of the range.
use mathlib.Core.Path.{◌≡◌, sym, ◌∙◌, ap}
use mathlib.Core.Bool.{Bool}
use lib.IntN.{pos, ◌-ℤ◌}
use Rattle.integers.proofs.Machine.{fits! }
use Rattle.judge_cover.specs.Deciding.{ordered}
use Rattle.judge_cover.proofs.Sizes.{Small, sizes, kept, turned, weights, edge_low, edge_high}
use Rattle.judge_cover.proofs.Cuts.{cut_low, keep_low, cut_high, keep_high, cut_none}
use Rattle.judge_cover.proofs.cover_test.cut.Goals as goal
use Rattle.judge_cover.proofs.cover_test.cut.Goals.{After-in_order, After-in_order-then-b-lt0}

-- ---- the first box is outside
pub overflow_sub-edge : goal.overflow_sub-edge
overflow_sub-edge c =
    let small : Small _ c.args.a = record { small = c.requires.1 } in
    fits! (search (sizes, small) depth 40) tt

pub in_order-requires : goal.in_order-requires
in_order-requires c =
    let a = c.args.a in
    let b = c.args.b in
    (c.requires.0.low, rw (edge_low a b c.requires.1 c.requires.2) (record { first = c.requires.2; second = turned a c.requires.1 }))

-- what the comparison with the low end says
low_is : (c : After-in_order) (t : Bool) → c.in_order.result ≡ t
    → ordered c.args.range.low (weights c.args.b (pos 0 -ℤ c.args.a)) ≡ t
low_is c t e =
    ap (ordered c.args.range.low) (sym (edge_low c.args.a c.args.b c.requires.1 c.requires.2)) ∙ sym c.in_order.ensures ∙ e

pub returns-then-in_order : goal.returns-then-in_order
returns-then-in_order c =
    let a = c.args.a in
    let b = c.args.b in
    let t = rw (kept a c.requires.1) at c.if-a-lt0.true in
    rw (edge_low a b c.requires.1 c.requires.2) (cut_low c.args.range a b t (low_is (goal.at.returns-then-in_order c).After-in_order _ c.if-in_order.true))

pub returns-then-a-lt0 : goal.returns-then-a-lt0
returns-then-a-lt0 c =
    let t = rw (kept c.args.a c.requires.1) at c.if-a-lt0.true in
    keep_low c.args.range c.args.a c.args.b t (low_is (goal.at.returns-then-a-lt0 c).After-in_order _ c.if-in_order.false)

-- ---- the second box is outside
pub overflow_sub-edge-then-b-lt0 : goal.overflow_sub-edge-then-b-lt0
overflow_sub-edge-then-b-lt0 c =
    let small : Small _ c.args.b = record { small = c.requires.2 } in
    fits! (search (sizes, small) depth 40) tt

pub in_order-requires-then-b-lt0 : goal.in_order-requires-then-b-lt0
in_order-requires-then-b-lt0 c =
    let a = c.args.a in
    let b = c.args.b in
    (c.requires.0.high, rw (edge_high a b c.requires.1 c.requires.2) (record { first = turned b c.requires.2; second = c.requires.1 }))

high_is : (c : After-in_order-then-b-lt0) (t : Bool) → c.in_order-then-b-lt0.result ≡ t
    → ordered c.args.range.high (weights (pos 0 -ℤ c.args.b) c.args.a) ≡ t
high_is c t e =
    ap (ordered c.args.range.high) (sym (edge_high c.args.a c.args.b c.requires.1 c.requires.2)) ∙ sym c.in_order-then-b-lt0.ensures ∙ e

pub returns-then-in_order-2 : goal.returns-then-in_order-2
returns-then-in_order-2 c =
    let l = rw (kept c.args.a c.requires.1) at c.if-a-lt0.false in
    let t = rw (kept c.args.b c.requires.2) at c.if-b-lt0.true in
    keep_high c.args.range c.args.a c.args.b l t (high_is (goal.at.returns-then-in_order-2 c).After-in_order-then-b-lt0 _ c.if-in_order-2.true)

pub returns-then-b-lt0 : goal.returns-then-b-lt0
returns-then-b-lt0 c =
    let a = c.args.a in
    let b = c.args.b in
    let l = rw (kept a c.requires.1) at c.if-a-lt0.false in
    let t = rw (kept b c.requires.2) at c.if-b-lt0.true in
    rw (edge_high a b c.requires.1 c.requires.2) (cut_high c.args.range a b l t (high_is (goal.at.returns-then-b-lt0 c).After-in_order-then-b-lt0 _ c.if-in_order-2.false))

-- ---- neither is
pub returns : goal.returns
returns c =
    let l = rw (kept c.args.a c.requires.1) at c.if-a-lt0.false in
    let m = rw (kept c.args.b c.requires.2) at c.if-b-lt0.false in
    cut_none c.args.range c.args.a c.args.b l m
