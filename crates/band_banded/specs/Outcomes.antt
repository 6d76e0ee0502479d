-- What the theorems of banding speak of: the faults and the report of an outline, and the refusals of a B-spline. No
-- contract cites these; crates/band/proofs/Theorems.antt does, and SplineAnswers.antt beside it.
use Rattle.std.specs.Prelude.{◌≡◌, true, List, ℕ, ◌*◌, ◌≤◌, ◌<◌, length, ℤ}
use Rattle.refusals.specs.declared.Refusal.{Refusal}
use Rattle.refusals.specs.declared.Refusal.TheVariants.{Pieces, Tolerance, SplineLength, SplineCoordinate, TooWide}
use Rattle.refusals.specs.declared.Refusal.TheVariants.{TooFewRecords}
use Rattle.curve_nodes.specs.declared.Curve.{Curve}
use Rattle.outline.specs.Checks.{tolerance_fine, Outlined, curves, outlined}
use Rattle.setting.specs.Setting.{Setting, pieces_fine, record_length}
use Rattle.band_passes.specs.Leaves.{leaves_of, nodes_of}
use Rattle.band_passes.specs.FirstWide.{AllMeet}

-- ---- outlines
-- the checks before the walk, 18 and 1 and those of what is given, find no fault, and the curves given are cs
pub record Clear (σ : Setting) (T : ℤ) (o : Outlined) (cs : List Curve) : Type 0 where
  pub pieces : pieces_fine σ.pieces ≡ true
  pub tolerance : tolerance_fine T ≡ true
  pub outline : o ≡ curves cs

-- the checks of an outline are 2 to 6, 20 and 17
abbrev pub Faultless : Setting → ℤ → List ℤ → List Curve → Type 0
Faultless σ T ns cs = Clear σ T (outlined σ.most σ.pieces ns) cs

-- check 19: nothing is too wide, but there are l leaves, more than the setting takes
pub record Many (σ : Setting) (T : ℤ) (cs : List Curve) (l : ℕ) : Type 0 where
  pub meet : AllMeet σ T cs
  pub more : σ.leaves < leaves_of σ T cs
  pub leaves : leaves_of σ T cs ≡ l

-- check 8: nothing is too wide and the leaves are not too many, but the l of them find no room
pub record Few (σ : Setting) (T : ℤ) (cs : List Curve) (room l : ℕ) : Type 0 where
  pub meet : AllMeet σ T cs
  pub taken : leaves_of σ T cs ≤ σ.leaves
  pub short : room < record_length σ * leaves_of σ T cs
  pub leaves : leaves_of σ T cs ≡ l

-- nothing is refused, and a curves, b leaves and c nodes are reported
pub record Report (σ : Setting) (T : ℤ) (cs : List Curve) (room a b c : ℕ) : Type 0 where
  pub meet : AllMeet σ T cs
  pub taken : leaves_of σ T cs ≤ σ.leaves
  pub enough : record_length σ * leaves_of σ T cs ≤ room
  pub curves : length cs ≡ a
  pub leaves : leaves_of σ T cs ≡ b
  pub nodes : nodes_of σ T cs ≡ c

-- ---- B-splines: the refusals that they can get, in the order in which they are tried. A list of points has no degrees
-- and no curve of its own that could be cut short or stand apart, so 2, 3, 4, 5, 6, 17 and 20 are none of them, and 19
-- is none since every leaf is taken (request 13).
pub data SplineRefusal : Refusal → Type 0 where
  pieces : SplineRefusal Pieces
  tolerance : SplineRefusal Tolerance
  count_of_numbers : (n : ℕ) → SplineRefusal (SplineLength n)
  coordinate : (i : ℕ) → SplineRefusal (SplineCoordinate i)
  wide : (k n : ℕ) → SplineRefusal (TooWide k n)
  few : (l : ℕ) → SplineRefusal (TooFewRecords l)
