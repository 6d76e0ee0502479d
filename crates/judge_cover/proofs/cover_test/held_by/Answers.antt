-- `judge_cover::cover_test::held_by` meets its contract: the whole range, cut by the sides of x and then of y, has weights left where its ends are in
-- order.
use mathlib.Core.Path.{◌∙◌, ap}
use Rattle.judge_cover.specs.Deciding.{ordered, cut_sides, whole}
use Rattle.judge_cover.proofs.Sizes.{sides_small, whole_small}
use Rattle.judge_cover.proofs.cover_test.held_by.Goals as goal

pub cut_sides-range-requires : goal.cut_sides-range-requires
cut_sides-range-requires c = (whole_small, c.requires.0)

pub cut_sides-range-requires-2 : goal.cut_sides-range-requires-2
cut_sides-range-requires-2 c =
    (rw c.cut_sides-range.ensures (sides_small whole c.args.x whole_small c.requires.0), c.requires.1)

pub in_order-requires : goal.in_order-requires
in_order-requires c =
    let x = c.cut_sides-range.ensures in
    let y = c.cut_sides-range-2.ensures ∙ ap (λ r. cut_sides r c.args.y) x in
    let small = sides_small (cut_sides whole c.args.x) c.args.y (sides_small whole c.args.x whole_small c.requires.0) c.requires.1 in
    (rw y small.low, rw y small.high)

pub returns : goal.returns
returns c =
    let x = c.cut_sides-range.ensures in
    let y = c.cut_sides-range-2.ensures ∙ ap (λ r. cut_sides r c.args.y) x in
    c.in_order.ensures ∙ ap (λ r. ordered r.low r.high) y
