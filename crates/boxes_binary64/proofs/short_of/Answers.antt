-- `boxes_binary64::short_of` meets its contract: the two tests say whether the box is a single point, and each number is what its function ensures.
use borrow.Author.Rules.{rules}
use mathlib.Core.Path.{ap}
use mathlib.Core.Logic.{⊎_elim}
use lib.IntN.{ℤ, ◌+ℤ◌, ◌-ℤ◌}
use mir.Syntax.{w32}
use mir.Val.{of_z}
use Rattle.boxes.specs.Ranges.{Interval}
use Rattle.boxes_binary64.proofs.Handed.{read_back, read_two, same_bits}
use Rattle.boxes_binary64.proofs.Checked.{intervals}
use Rattle.boxes_binary64.proofs.Sums.{sum_fits, difference_fits, held_sum, held_difference}
use Rattle.boxes_binary64.proofs.short_of.Goals as goal
use Rattle.boxes_binary64.proofs.short_of.Goals.{Start}

pub returns-then-y_low-y_high : goal.returns-then-y_low-y_high
returns-then-y_low-y_high c =
    let b = c.args.b in (
      record {
        x = same_bits b.x_low b.x_high (search rules) (search rules) c.if-x_low-x_high.true;
        y = same_bits b.y_low b.y_high (search rules) (search rules) c.if-y_low-y_high.true;
      },
      read_back c.sixteenth.result b.x_low 16 (search rules) c.sixteenth.ensures,
      read_back c.sixteenth-then-y_low-y_high.result b.y_low 16 (search rules) c.sixteenth-then-y_low-y_high.ensures,
    )

-- the two sides of the box
sides : (s : Start) → let b = s.args.b in (Interval b.x_low b.x_high) × (Interval b.y_low b.y_high)
sides s = intervals s.args.b s.requires

pub returns : goal.returns
returns c =
    let b = c.args.b in (
      (λ p. ⊎_elim (λ f. f.1 (ap (of_z w32) p.y)) (λ f. f (ap (of_z w32) p.x)) c.else-x_low-x_high.either),
      read_two (λ (x y : ℤ). x +ℤ y) c.thirty_second.result b.x_low b.x_high 32 (search rules) (search rules)
          (sum_fits (sides (goal.at.returns c).Start).0) c.thirty_second.ensures,
      read_two (λ (x y : ℤ). x +ℤ y) c.thirty_second-2.result b.y_low b.y_high 32 (search rules) (search rules)
          (sum_fits (sides (goal.at.returns c).Start).1) c.thirty_second-2.ensures,
      read_two (λ (x y : ℤ). x -ℤ y) c.thirty_second-3.result b.x_high b.x_low 32 (search rules) (search rules)
          (difference_fits (sides (goal.at.returns c).Start).0) c.thirty_second-3.ensures,
      read_two (λ (x y : ℤ). x -ℤ y) c.thirty_second-4.result b.y_high b.y_low 32 (search rules) (search rules)
          (difference_fits (sides (goal.at.returns c).Start).1) c.thirty_second-4.ensures,
    )

pub overflow_add-x_low : goal.overflow_add-x_low
overflow_add-x_low c = held_sum (sides (goal.at.overflow_add-x_low c).Start).0

pub overflow_add-y_low : goal.overflow_add-y_low
overflow_add-y_low c = held_sum (sides (goal.at.overflow_add-y_low c).Start).1

pub overflow_sub-x_high : goal.overflow_sub-x_high
overflow_sub-x_high c = held_difference (sides (goal.at.overflow_sub-x_high c).Start).0

pub overflow_sub-y_high : goal.overflow_sub-y_high
overflow_sub-y_high c = held_difference (sides (goal.at.overflow_sub-y_high c).Start).1
