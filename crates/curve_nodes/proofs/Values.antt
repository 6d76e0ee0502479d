-- The halves of a curve: the mirror law, and their values; and a coordinate against its largest control value.
use mathlib.Core.Path.{◌≡◌, refl, ap₂}
use mathlib.Core.List.{List}
use Prim.Native.Nat.{ℕ, zero, suc, ◌+◌, ◌≤◌}
use native.Mathlib.Nat.{le_of_eq}
use lib.IntN.{ℤ, pos, neg_ℤ, ◌*ℤ◌, pow}
use lib.Signed.{◌≤ℤ◌}
use Rattle.setting.specs.Setting.{most_degree}
use Rattle.integers.proofs.RingLaws.{pow_natural, *ℤ_neg}
use Rattle.integers.proofs.Size.{abs_high, abs_low}
use Rattle.curve_bernstein.specs.Value.{value}
use Rattle.curve_halves.specs.Halves.{padded}
use Rattle.curve_halves.specs.Sizes.{Each}
use Rattle.curve_halves.proofs.Values.{mirror_padded, half, value_within}
use Rattle.curve_nodes.specs.declared.Curve.{Curve}
use Rattle.curve_nodes.specs.Halves.{left_half, right_half, reversed_of}
use Rattle.curve_nodes.specs.Nodes.{half_of}

-- a curve's half is the half of both coordinates
pub curve_half : (b : ℕ) (c : Curve)
    → half_of b c ≡ record { degree = c.degree; x = padded (half b c.degree c.x); y = padded (half b c.degree c.y) }
unfolding left_half right_half
curve_half zero c = refl
curve_half (suc b) c = refl

-- the mirror law: the right half, its control points in reverse order, is the left half of the curve with its control points in reverse order
pub mirror_curve : (c : Curve) → c.degree ≤ most_degree → reversed_of (right_half c) ≡ left_half (reversed_of c)
unfolding left_half right_half reversed_of
mirror_curve c h =
    ap₂ (λ (xs ys : List ℤ). record { degree = c.degree; x = xs; y = ys }) (mirror_padded c.degree h c.x) (mirror_padded c.degree h c.y)

-- so at the greatest degree too
pub mirror_quintic : (c : Curve) → c.degree ≡ 5 → reversed_of (right_half c) ≡ left_half (reversed_of c)
mirror_quintic c e = mirror_curve c (le_of_eq e)

-- ---- a coordinate lies within its largest control value
module _ (p r B d : ℕ) (cs : List ℤ) (e : Each B cs) where
  pub value_high : value (pos p) (pos r) d cs ≤ℤ (pow (pos (p + r)) d *ℤ pos B)
  value_high = rw pow_natural (abs_high (value (pos p) (pos r) d cs) (value_within p r B d cs e))

  pub value_low : (pow (pos (p + r)) d *ℤ neg_ℤ (pos B)) ≤ℤ value (pos p) (pos r) d cs
  value_low = rw (pow_natural, *ℤ_neg) (abs_low (value (pos p) (pos r) d cs) (value_within p r B d cs e))
