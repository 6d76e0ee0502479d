-- From either form the box is regained: nothing of it is lost.
use mathlib.Core.Path.{◌≡◌, refl, ap, ap₂, ◌∙◌}
use mathlib.Core.List.{[], ◌∷◌}
use mathlib.Core.Bool.{Bool}
use Prim.Native.Nat.{ℕ, suc, ◌*◌, ◌/◌}
use native.Mathlib.Nat.{mul-div_cancel}
use lib.IntN.{ℤ, pos, negsuc, neg_ℤ, ◌+ℤ◌, ◌-ℤ◌, ◌*ℤ◌}
use lib.Signed.{lt_z_yes}
use lib.Ieee.{Float, nan, inf, fin, up, down}
use lib.Ieee.Fits.{down_pos}
use Rattle.integers.specs.Rounding.{floor}
use Rattle.integers.proofs.Rounding.{floor_raised}
use Rattle.integers.proofs.Ring.{ring, sides}
use Rattle.boxes.specs.declared.Box.{Box}
use Rattle.binary64.specs.Exact.{Exactly, signed}
use Rattle.boxes_binary64.specs.declared.StageBox.{StageBox}
use Rattle.boxes_binary64.specs.declared.Short.{Short}
use Rattle.boxes_binary64.specs.declared.Short.TheVariants.{Point, Middle}
use Rattle.boxes_binary64.specs.Boxes.{InUnits, ShortOf}
use Rattle.boxes_binary64.specs.Regained.{times, from_units, low_end, high_end, from_short}

-- z regained from z / d
pub times_is : (d : ℕ) (x : Float) (z : ℤ) → Exactly x z d → times d x ≡ z
times_is d nan z v = absurd v
times_is d (inf s) z v = absurd v
times_is d (fin s m e) (pos n) v =
    ap (λ (t : Bool). signed t (m * up e * d / down e)) v.0 ∙ ap (λ (k : ℕ). pos (k / down e)) v.1 ∙ ap pos (mul-div_cancel n (down_pos e))
times_is d (fin s m e) (negsuc n) v =
    ap (λ (t : Bool). signed t (m * up e * d / down e)) v.0 ∙ ap (λ (k : ℕ). neg_ℤ (pos (k / down e))) v.1 ∙ ap (λ (k : ℕ). neg_ℤ (pos k)) (mul-div_cancel (suc n) (down_pos e))

-- ---- the ends, from the middle and a half width
halved : (z : ℤ) → floor (z *ℤ pos 2 +ℤ pos 0) (pos 2) ≡ z
unfolding floor
halved z = floor_raised (lt_z_yes tt) z (pos 0) ∙ ring (z ∷ []) (search sides depth 40 fits 9999) refl

low_regained : (l h : ℤ) → floor ((l +ℤ h) -ℤ (h -ℤ l)) (pos 2) ≡ l
low_regained l h = ap (λ z. floor z (pos 2)) (ring (l ∷ h ∷ []) (search sides depth 40 fits 9999) refl) ∙ halved l

high_regained : (l h : ℤ) → floor ((l +ℤ h) +ℤ (h -ℤ l)) (pos 2) ≡ h
high_regained l h = ap (λ z. floor z (pos 2)) (ring (l ∷ h ∷ []) (search sides depth 40 fits 9999) refl) ∙ halved h

low_end_law : (x w : Float) (l h : ℤ) → Exactly x (l +ℤ h) 32 → Exactly w (h -ℤ l) 32 → low_end x w ≡ l
low_end_law x w l h v u = ap₂ (λ a b. floor (a -ℤ b) (pos 2)) (times_is 32 x (l +ℤ h) v) (times_is 32 w (h -ℤ l) u) ∙ low_regained l h

high_end_law : (x w : Float) (l h : ℤ) → Exactly x (l +ℤ h) 32 → Exactly w (h -ℤ l) 32 → high_end x w ≡ h
high_end_law x w l h v u = ap₂ (λ a b. floor (a +ℤ b) (pos 2)) (times_is 32 x (l +ℤ h) v) (times_is 32 w (h -ℤ l) u) ∙ high_regained l h

-- ---- the box
pub units_regained : (b : Box) (r : StageBox) → InUnits b r → from_units r ≡ b
units_regained b r v = λ i. record {
  x_low = times_is 16 r.x_low b.x_low v.x_low i;
  x_high = times_is 16 r.x_high b.x_high v.x_high i;
  y_low = times_is 16 r.y_low b.y_low v.y_low i;
  y_high = times_is 16 r.y_high b.y_high v.y_high i;
}

pub short_regained : (b : Box) (r : Short) → ShortOf b r → from_short r ≡ b
short_regained b (Point x y) v =
    let in_x = times_is 16 x b.x_low v.1 in
    let in_y = times_is 16 y b.y_low v.2 in
    λ i. record { x_low = in_x i; x_high = (in_x ∙ v.0.x) i; y_low = in_y i; y_high = (in_y ∙ v.0.y) i }
short_regained b (Middle x y half-width half-height) v = λ i. record {
  x_low = low_end_law x half-width b.x_low b.x_high v.1 v.3 i;
  x_high = high_end_law x half-width b.x_low b.x_high v.1 v.3 i;
  y_low = low_end_law y half-height b.y_low b.y_high v.2 v.4 i;
  y_high = high_end_law y half-height b.y_low b.y_high v.2 v.4 i;
}
