-- For contracts of private functions, and of `holds`, which other crates call: how large the numbers are by which the
-- code decides.
use Rattle.std.specs.Prelude.{◌^◌, ◌≤◌, ℤ, nat_abs}
use Rattle.boxes.specs.declared.Box.{Box}
use Rattle.boxes.specs.Ranges.{farthest}
use Rattle.judge_cover.specs.declared.held.Weights.{Weights}
use Rattle.judge_cover.specs.declared.held.Range.{Range}
use Rattle.judge_cover.specs.declared.held.Sides.{Sides}

-- no product of these is above 2^60
pub record SmallWeights (w : Weights) : Type 0 where
  pub first : nat_abs w.first ≤ 2 ^ 30
  pub second : nat_abs w.second ≤ 2 ^ 30

pub record SmallRange (r : Range) : Type 0 where
  pub low : SmallWeights r.low
  pub high : SmallWeights r.high

pub record SmallSides (s : Sides) : Type 0 where
  pub low_first : nat_abs s.low_first ≤ 2 ^ 30
  pub low_second : nat_abs s.low_second ≤ 2 ^ 30
  pub high_first : nat_abs s.high_first ≤ 2 ^ 30
  pub high_second : nat_abs s.high_second ≤ 2 ^ 30

-- a low and a high in range, and a box whose numbers are
pub record SpanInRange (l h : ℤ) : Type 0 where
  pub low : nat_abs l ≤ farthest
  pub high : nat_abs h ≤ farthest

pub record BoxInRange (b : Box) : Type 0 where
  pub x : SpanInRange b.x_low b.x_high
  pub y : SpanInRange b.y_low b.y_high
