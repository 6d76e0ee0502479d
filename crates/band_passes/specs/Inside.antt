-- For contracts inside the engine alone, no part of a public promise: how curves are read from a list, by its form,
-- what the two passes ask of them, and what the first finds.
use Rattle.std.specs.Prelude.{◌≡◌, Bool, true, false, List, [], ◌∷◌, ℕ, zero, suc, ◌+◌, ◌*◌, ◌≤◌, length, ℤ, Result, Ok}
use Rattle.std.specs.Prelude.{Err}
use Rattle.std.proofs.Math.Option.{none, some}
use Rattle.setting.specs.Setting.{Setting, record_length}
use Rattle.refusals.specs.declared.Refusal.{Refusal}
use Rattle.integers.specs.Entry.{entry}
use Rattle.curve_nodes.specs.declared.Curve.{Curve}
use Rattle.curve_nodes.specs.Bounds.{Sized}
use Rattle.outline.specs.Curves.{degree_fine, next_at, curve_at}
use Rattle.outline_binary64.specs.Lists.{wholes}
use Rattle.outline_binary64.specs.Inside.{Stands}
use Rattle.outline_splines.specs.Splines.{spline_at}
use Rattle.walk_tree.specs.Tree.{first_failing}
use Rattle.walk_curve.specs.Walked.{node_meets, ends_of}
use Rattle.walk_curve.specs.Inside.{Suits}
use Rattle.band_passes.specs.declared.forms.CurveList.{CurveList}
use Rattle.band_passes.specs.declared.forms.CurveList.TheVariants as Given
use Rattle.band_passes.specs.Forms.{Form, Outline, Binary64, Spline}
use Rattle.band_passes.specs.Leaves.{first_too_wide, leaves_of}

-- ---- the numbers of a list, by its form: those of the list of integers, or the whole numbers read from that of f64
abbrev pub form_of : CurveList → Form
form_of (Given.Outline ns) = Outline
form_of (Given.Binary64 xs) = Binary64
form_of (Given.Spline ns) = Spline

abbrev pub numbers_of : CurveList → List ℤ
numbers_of (Given.Outline ns) = ns.now
numbers_of (Given.Binary64 xs) = wholes xs.now
numbers_of (Given.Spline ns) = ns.now

-- ---- what they give, by their form: the curve at an index, where the next one is, and whether its control values are
-- sixths
abbrev pub read_at : Form → List ℤ → ℕ → Curve
read_at Outline ns at = curve_at ns at
read_at Binary64 ns at = curve_at ns at
read_at Spline ns at = spline_at ns at

abbrev pub next_of : Form → List ℤ → ℕ → ℕ
next_of Outline ns at = next_at ns at
next_of Binary64 ns at = next_at ns at
next_of Spline ns at = at + 2

abbrev pub sixths_of : Form → Bool
sixths_of Outline = false
sixths_of Binary64 = false
sixths_of Spline = true

-- there is a curve to be read
abbrev pub StandsAt : Form → List ℤ → ℕ → Type 0
StandsAt Outline ns at = (degree_fine (entry ns at) ≡ true) × (next_at ns at ≤ length ns)
StandsAt Binary64 ns at = Stands ns at
StandsAt Spline ns at = at + 8 ≤ length ns

-- n curves, read one after the other from an index on
abbrev pub curves_from : (read : ℕ → Curve) (next : ℕ → ℕ) → (n at : ℕ) → List Curve
curves_from read next zero at = []
curves_from read next (suc n) at = read at ∷ curves_from read next n (next at)

abbrev pub curves_in : Form → List ℤ → ℕ → List Curve
curves_in f ns n = curves_from (read_at f ns) (next_of f ns) n 0

-- a curve can be read, and 64 bits have room to walk it
pub record Walkable (σ : Setting) (f : Form) (ns : List ℤ) (at : ℕ) : Type 0 where
  pub stands : StandsAt f ns at
  pub sized : Sized 0 (read_at f ns at)
  pub suits : Suits σ (read_at f ns at).degree

-- so it is of n curves from an index on
pub data AllWalkable (σ : Setting) (f : Form) (ns : List ℤ) : (n at : ℕ) → Type 0 where
  end : {at : ℕ} → AllWalkable σ f ns 0 at
  more : {n at : ℕ} → Walkable σ f ns at → AllWalkable σ f ns n (next_of f ns at) → AllWalkable σ f ns (suc n) at

-- the list has n curves, not too many for a count of their leaves
pub record Readable (σ : Setting) (f : Form) (ns : List ℤ) (n : ℕ) : Type 0 where
  pub all : AllWalkable σ f ns n 0
  pub few : n ≤ 65536

-- check 7, or else how many leaves the curves have
unfoldable pub counted_of : Setting → ℤ → List Curve → Result ℕ Refusal
counted_of σ T cs = elim (first_too_wide σ T 0 cs) [ some r ↦ Err r | none ↦ Ok (leaves_of σ T cs) ]

-- every end of the walk of curve c is a leaf at T
pub record EndsMeet (σ : Setting) (T : ℤ) (c : Curve) : Type 0 where
  pub sized : Sized 0 c
  pub suits : Suits σ c.degree
  pub passing : first_failing (node_meets σ T c) (ends_of σ T c) ≡ none

-- every leaf of the n curves has its place in a list of `room` numbers
pub record Fillable (σ : Setting) (T : ℤ) (f : Form) (ns : List ℤ) (n room : ℕ) : Type 0 where
  pub readable : Readable σ f ns n
  pub passing : first_too_wide σ T 0 (curves_in f ns n) ≡ none
  pub enough : record_length σ * leaves_of σ T (curves_in f ns n) ≤ room
