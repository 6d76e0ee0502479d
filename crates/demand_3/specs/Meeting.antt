-- The point between two curves of an accepted outline (document 02, request 03): what the leaves and judging say of it.
use Rattle.std.specs.Prelude.{◌≡◌, List, ℕ, suc, ◌+◌, ◌*◌, ◌<◌, length, ℤ, pos, ◌*ℤ◌}
use Rattle.integers.specs.Entry.{entry}
use Rattle.curve_nodes.specs.declared.Curve.{Curve}
use Rattle.setting.specs.Setting.{Setting, covers, record_length}
use Rattle.walk_tree.specs.Leaves.{Spans}
use Rattle.judge_cover.specs.Covers.{CoverHolds}
use Rattle.judge.specs.Judging.{Judgement}
use Rattle.demand_3.specs.Demand3.{IsOn}

-- (x, y) is the last control point of the curve, in sixteenths
pub record EndsAt (c : Curve) (x y : ℤ) : Type 0 where
  pub in_x : x ≡ pos 16 *ℤ entry c.x c.degree
  pub in_y : y ≡ pos 16 *ℤ entry c.y c.degree

-- The list has a record of curve number k whose node has the parameter p / (p + r) in its stretch, and a cover of this
-- record holds the point (x, y).
pub record HeldAt (σ : Setting) (rs : List ℤ) (k p r : ℕ) (x y : ℤ) : Type 0 where
  pub place : ℕ
  pub inside : record_length σ * place < length rs
  pub curve_is : entry rs (record_length σ * place) ≡ pos k
  pub node : ℕ
  pub node_is : entry rs (record_length σ * place + 1) ≡ pos node
  pub parameter : Spans node p r
  pub cover : ℕ
  pub one_of : cover < covers σ
  pub holds : CoverHolds σ rs place cover x y

-- The point (x, y) where curve k ends and curve k + 1 begins is on. The leaves cover it twice: the last leaf of curve
-- k, at its parameter 1, and the first leaf of curve k + 1, at its parameter 0.
pub record CoveredTwice (σ : Setting) (rs : List ℤ) (k : ℕ) (x y : ℤ) (answer : Judgement) : Type 0 where
  pub on : IsOn answer
  pub last_leaf : HeldAt σ rs k 1 0 x y
  pub first_leaf : HeldAt σ rs (suc k) 0 1 x y
