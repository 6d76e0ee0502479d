-- A form has one spelling: where it is read at the same place of two texts, the bytes up to its end are the same.
use mathlib.Core.Path.{◌≡◌, sym, ◌∙◌, ap, subst}
use mathlib.Core.List.{List}
use Prim.Native.Nat.{ℕ, ◌-◌}
use native.Mathlib.Omega.{arith}
use lib.ListN.{take, drop}
use lib.Seq.{take_at}
use lib.IntN.{ℤ}
use Rattle.std.specs.Prelude.{Some}
use Rattle.text_forms.specs.declared.forms.Points.{Points}
use Rattle.text_forms.specs.declared.forms.Form.TheVariants.{Tolerance, Curve, Point}
use Rattle.text_forms.specs.Forms.{form_at}
use Rattle.write_exact.specs.Written.{Written, tolerance_line, curve_line, point_line, LineWritten}
use Rattle.write_exact.proofs.Written.{form_written}

taken : (s : List ℕ) (i j : ℕ) (bytes : List ℕ) → Written s i j bytes → take (j - i) (drop i s) ≡ bytes
taken s i j bytes w = ap (take (j - i)) w.bytes_there ∙ take_at bytes (drop j s) (j - i) (omega (arith, w.end_there))

module _ (s t : List ℕ) (i j : ℕ) where
  same : (bytes : List ℕ) → Written s i j bytes → Written t i j bytes → take (j - i) (drop i s) ≡ take (j - i) (drop i t)
  same bytes v w = taken s i j bytes v ∙ sym (taken t i j bytes w)

  pub one_tolerance : (T : ℤ) → form_at s i ≡ Some (Tolerance T j) → form_at t i ≡ Some (Tolerance T j)
      → take (j - i) (drop i s) ≡ take (j - i) (drop i t)
  one_tolerance T e f = same (tolerance_line T) (subst (LineWritten s i) e (form_written s i)) (subst (LineWritten t i) f (form_written t i))

  pub one_curve : (p : Points) → form_at s i ≡ Some (Curve p j) → form_at t i ≡ Some (Curve p j) → take (j - i) (drop i s) ≡ take (j - i) (drop i t)
  one_curve p e f = same (curve_line p) (subst (LineWritten s i) e (form_written s i)) (subst (LineWritten t i) f (form_written t i))

  pub one_point : (x y : ℤ) → form_at s i ≡ Some (Point x y j) → form_at t i ≡ Some (Point x y j) → take (j - i) (drop i s) ≡ take (j - i) (drop i t)
  one_point x y e f = same (point_line x y) (subst (LineWritten s i) e (form_written s i)) (subst (LineWritten t i) f (form_written t i))
