-- `boxes::first_bad` meets its contract: each return is one of the four tests, behind those before it.
use mathlib.Core.Path.{◌≡◌, sym, ◌∙◌}
use mathlib.Core.Bool.{true}
use mir.Facts.{to_z-of_z}
use borrow.Author.Tests.{not-true, not-false}
use Rattle.boxes.specs.Ranges.{in_range, low_fine}
use Rattle.boxes.proofs.Faults.{at_x_low, at_x_high, at_y_low, at_y_high, all_fine}
use Rattle.boxes.proofs.first_bad.Goals as goal
use Rattle.boxes.proofs.first_bad.Goals.{Else-not-in_range, Else-not-low_fine, Else-not-low_fine-2}

pub returns-then-not-low_fine : goal.returns-then-not-low_fine
returns-then-not-low_fine c =
    let e = sym c.low_fine.ensures ∙ not-true c.low_fine.result c.if-not-low_fine.true-raw in
    let f = c.ranges in
    at_x_low _ (rw (to_z-of_z f.x_low, to_z-of_z f.x_high) at e)

x-low-fine : (c : Else-not-low_fine) → low_fine c.args.x_low c.args.x_high ≡ true
x-low-fine c =
    let e = sym c.low_fine.ensures ∙ not-false c.low_fine.result c.if-not-low_fine.false-raw in
    let f = c.ranges in
    rw (to_z-of_z f.x_low, to_z-of_z f.x_high) at e

pub returns-then-not-in_range : goal.returns-then-not-in_range
returns-then-not-in_range c =
    let e = sym c.in_range.ensures ∙ not-true c.in_range.result c.if-not-in_range.true-raw in
    let f = c.ranges in
    at_x_high _ (x-low-fine (goal.at.returns-then-not-in_range c).Else-not-low_fine) (rw (to_z-of_z f.x_high) at e)

x-high-fine : (c : Else-not-in_range) → in_range c.args.x_high ≡ true
x-high-fine c =
    let e = sym c.in_range.ensures ∙ not-false c.in_range.result c.if-not-in_range.false-raw in
    let f = c.ranges in
    rw (to_z-of_z f.x_high) at e

pub returns-then-not-low_fine-2 : goal.returns-then-not-low_fine-2
returns-then-not-low_fine-2 c =
    let e = sym c.low_fine-2.ensures ∙ not-true c.low_fine-2.result c.if-not-low_fine-2.true-raw in
    let f = c.ranges in
    at_y_low _ (x-low-fine (goal.at.returns-then-not-low_fine-2 c).Else-not-low_fine) (x-high-fine (goal.at.returns-then-not-low_fine-2 c).Else-not-in_range)
    (rw (to_z-of_z f.y_low, to_z-of_z f.y_high) at e)

y-low-fine : (c : Else-not-low_fine-2)
    → low_fine c.args.y_low c.args.y_high
    ≡ true
y-low-fine c =
    let e = sym c.low_fine-2.ensures ∙ not-false c.low_fine-2.result c.if-not-low_fine-2.false-raw in
    let f = c.ranges in
    rw (to_z-of_z f.y_low, to_z-of_z f.y_high) at e

pub returns-then-not-in_range-2 : goal.returns-then-not-in_range-2
returns-then-not-in_range-2 c =
    let e = sym c.in_range-2.ensures ∙ not-true c.in_range-2.result c.if-not-in_range-2.true-raw in
    let f = c.ranges in
    at_y_high _ (x-low-fine (goal.at.returns-then-not-in_range-2 c).Else-not-low_fine) (x-high-fine (goal.at.returns-then-not-in_range-2 c).Else-not-in_range) (y-low-fine (goal.at.returns-then-not-in_range-2 c).Else-not-low_fine-2)
    (rw (to_z-of_z f.y_high) at e)

pub returns : goal.returns
returns c =
    let e = sym c.in_range-2.ensures ∙ not-false c.in_range-2.result c.if-not-in_range-2.false-raw in
    let f = c.ranges in
    all_fine _ (x-low-fine (goal.at.returns c).Else-not-low_fine) (x-high-fine (goal.at.returns c).Else-not-in_range) (y-low-fine (goal.at.returns c).Else-not-low_fine-2)
    (rw (to_z-of_z f.y_high) at e)
