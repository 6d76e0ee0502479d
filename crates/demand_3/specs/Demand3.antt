-- Demand 3 as one claim, from a list of curves and a tolerance to the answer of judging. It is about the numbers of the
-- list of leaves that banding writes for these curves, and about whatever judging answers to them.
use Rattle.std.specs.Prelude.{◌≡◌, List, ◌∷◌, ◌++◌, ℕ, ◌+◌, ◌*◌, ◌≤◌, ◌<◌, length, ℤ, pos, Float}
use Rattle.integers.specs.Entry.{entry}
use Rattle.setting.specs.Setting.{Setting, lists, splines, scale, record_length}
use Rattle.curve_nodes.specs.declared.Curve.{Curve}
use Rattle.curve_nodes.specs.Nodes.{depth}
use Rattle.curve_nodes.specs.Points.{Equals, Within}
use Rattle.outline.specs.Checks.{Outlined, curves, outlined}
use Rattle.outline_binary64.specs.Lists.{outlined_binary64}
use Rattle.outline_splines.specs.Splines.{splined}
use Rattle.walk_depths.specs.Premise.{Flat}
use Rattle.judge.specs.Judging.{Judgement, on}

-- number k of the curves cs, from 0, is c
pub record CurveOf (cs : List Curve) (k : ℕ) (c : Curve) : Type 0 where
  pub before : List Curve
  pub after : List Curve
  pub split : cs ≡ before ++ c ∷ after
  pub number : length before ≡ k

-- the answer is on
pub record IsOn (answer : Judgement) : Type 0 where
  pub leaf : ℕ
  pub cover : ℕ
  pub is : answer ≡ on leaf cover

-- one of the curves and one rational parameter p / (p + r) at which that curve is within T of the point: the square of
-- their distance is at most T squared
pub record Somewhere (σ : Setting) (T : ℤ) (cs : List Curve) (x y : ℤ) : Type 0 where
  pub number : ℕ
  pub curve : Curve
  pub of : CurveOf cs number curve
  pub p : ℕ
  pub r : ℕ
  pub some : 0 < p + r
  pub near : Within (scale σ) T curve p r x y

-- record i of the list is that of a node whose depth is at most j
pub record Shallow (σ : Setting) (rs : List ℤ) (i j : ℕ) : Type 0 where
  pub node : ℕ
  pub is : entry rs (record_length σ * i + 1) ≡ pos node
  pub depth_at_most : depth node ≤ j

-- The curves cs, accepted at T; the leaves rs written for them; a point; and the answer that judging gives to these
-- leaves and this point.
pub record Demand3 (σ : Setting) (T : ℤ) (cs : List Curve) (rs : List ℤ) (x y : ℤ) (answer : Judgement) : Type 0 where
  -- every point that equals one of the curves at some rational parameter is judged on
  pub every_point_on : (k : ℕ) (c : Curve) → CurveOf cs k c → (p r : ℕ) → 0 < p + r → Equals (scale σ) c p r x y
      → IsOn answer
  -- for every point judged on there are one curve and one rational parameter at which that curve is within T
  pub every_on_near : IsOn answer → Somewhere σ T cs x y
  -- every leaf of a curve with largest second difference M has depth at most j, for every j with
  -- 2 × (16 × G × M + 20000 × 4^j)² ≤ (10000 × T × 4^j)²
  pub every_leaf_shallow : (i : ℕ) → record_length σ * i < length rs → (k : ℕ) (c : Curve) → CurveOf cs k c
      → entry rs (record_length σ * i) ≡ pos k → (j : ℕ) → Flat σ T c j → Shallow σ rs i j

-- What is given has no fault, and demand 3 holds of its curves.
pub record GivenDemand3 (σ : Setting) (T : ℤ) (o : Outlined) (rs : List ℤ) (x y : ℤ) (answer : Judgement) : Type 0 where
  pub all : List Curve
  pub are : o ≡ curves all
  pub demand_3 : Demand3 σ T all rs x y answer

-- demand 3 of the outline ns
abbrev pub OutlineDemand3 : Setting → ℤ → (ns rs : List ℤ) → (x y : ℤ) → Judgement → Type 0
OutlineDemand3 σ T ns rs x y answer = GivenDemand3 σ T (outlined σ.most σ.pieces ns) rs x y answer

-- demand 3 of the outline in binary64 xs, whose curves are those of the whole numbers read
abbrev pub Binary64Demand3 : ℕ → ℤ → List Float → (rs : List ℤ) → (x y : ℤ) → Judgement → Type 0
Binary64Demand3 m T xs rs x y answer = GivenDemand3 (lists m) T (outlined_binary64 4096 m xs) rs x y answer

-- demand 3 of the B-spline of the points ns
abbrev pub SplineDemand3 : ℕ → ℤ → (ns rs : List ℤ) → (x y : ℤ) → Judgement → Type 0
SplineDemand3 m T ns rs x y answer = GivenDemand3 (splines m) T (splined ns) rs x y answer
