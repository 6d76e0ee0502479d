-- Demand 3 of the points of a list that is judged in one call, from what is given to the numbers in the caller's list.
use Rattle.std.specs.Prelude.{◌≡◌, List, ℕ, ◌+◌, ◌*◌, ◌<◌, ℤ, pos}
use Rattle.integers.specs.Entry.{entry}
use Rattle.setting.specs.Setting.{Setting, lists}
use Rattle.outline.specs.Checks.{Outlined}
use Rattle.judge.specs.Judging.{Judgement, Judged}
use Rattle.judge_points.specs.Points.{judgement_numbers}
use Rattle.demand_3.specs.Demand3.{IsOn, GivenDemand3}

-- What is given, an outline or a B-spline, accepted at T; the leaves rs written for it; the points ps, of which this is
-- point i, from 0; and the list of answers.
pub record PointDemand3 (σ : Setting) (T : ℤ) (o : Outlined) (rs ps answers : List ℤ) (i : ℕ) : Type 0 where
  -- the answer that judging gives to these leaves and this point
  pub judgement : Judgement
  pub judged : Judged (lists σ.pieces) rs (entry ps (2 * i)) (entry ps (2 * i + 1)) judgement
  -- its numbers stand in the list of answers, and 1 in front says that the point is judged on
  pub numbers : (k : ℕ) → k < 3 → entry answers (3 * i + k) ≡ entry (judgement_numbers judgement) k
  pub one_is_on : entry answers (3 * i) ≡ pos 1 → IsOn judgement
  -- demand 3 holds of it
  pub demand_3 : GivenDemand3 σ T o rs (entry ps (2 * i)) (entry ps (2 * i + 1)) judgement
