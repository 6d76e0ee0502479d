-- `judge_cover::cover_test::holds` meets its contract: a point apart in x or in y is turned away, and the cuts decide the rest.
use mathlib.Core.Path.{◌∙◌, ap₂}
use Rattle.judge_cover.specs.Deciding.{sides_x, sides_y, held_by}
use Rattle.judge_cover.proofs.Sizes.{Seen, seen, apart_seen}
use Rattle.judge_cover.proofs.Cuts.{apart_x, apart_y, not_apart}
use Rattle.judge_cover.proofs.cover_test.holds.Goals as goal
use Rattle.judge_cover.proofs.cover_test.holds.Goals.{After-sides-in_x, After-sides-in_y}

in_x : (c : After-sides-in_x) → let a = c.args in Seen c.sides-in_x.result (sides_x a.first a.second a.x)
in_x c = seen c.ranges.x c.requires.0.x c.requires.1.x c.requires.2 c.sides-in_x.ensures

pub returns-then-apart : goal.returns-then-apart
returns-then-apart c =
    let a = c.args in
    apart_x a.first a.second a.x a.y (apart_seen (in_x (goal.at.returns-then-apart c).After-sides-in_x) c.apart.ensures c.if-apart.true)

in_y : (c : After-sides-in_y) → let a = c.args in Seen c.sides-in_y.result (sides_y a.first a.second a.y)
in_y c = seen c.ranges.y c.requires.0.y c.requires.1.y c.requires.3 c.sides-in_y.ensures

pub returns-else-not-apart : goal.returns-else-not-apart
returns-else-not-apart c =
    let a = c.args in
    rw c.if-not-apart.false (apart_y a.first a.second a.x a.y (apart_seen (in_x (goal.at.returns-else-not-apart c).After-sides-in_x) c.apart.ensures c.if-apart.false)
    (apart_seen (in_y (goal.at.returns-else-not-apart c).After-sides-in_y) c.apart-2.ensures c.if-not-apart.false))

pub returns-then-not-apart : goal.returns-then-not-apart
returns-then-not-apart c =
    let a = c.args in
    let sx = in_x (goal.at.returns-then-not-apart c).After-sides-in_x in
    let sy = in_y (goal.at.returns-then-not-apart c).After-sides-in_y in
    c.held_by.ensures
    ∙ ap₂ held_by sx.is sy.is
    ∙ not_apart a.first a.second a.x a.y (apart_seen sx c.apart.ensures c.if-apart.false)
    (apart_seen sy c.apart-2.ensures c.if-not-apart.true)

pub apart-requires : goal.apart-requires
apart-requires c = (in_x c).small

pub apart-requires-2 : goal.apart-requires-2
apart-requires-2 c = (in_y c).small

pub held_by-requires : goal.held_by-requires
held_by-requires c = ((in_x (goal.at.held_by-requires c).After-sides-in_x).small, (in_y (goal.at.held_by-requires c).After-sides-in_y).small)
