-- The premise of the depth claim with three pieces: at degree 3 it is that of request 04, and at every degree it follows from that. And where control
-- values are sixths it asks of M in units what it asks elsewhere.
use mathlib.Core.Path.{◌≡◌, refl, sym, ◌∙◌, ap₂, subst}
use mathlib.Core.Bool.{Bool, false, cond}
use mathlib.Core.Logic.{◌↔◌}
use mathlib.Core.List.{[], ◌∷◌}
use Prim.Native.Nat.{ℕ, ◌*◌, ◌-◌, ◌^◌, ◌≤◌}
use native.Mathlib.Omega.{arith}
use lib.IntN.{ℤ, pos, ◌+ℤ◌, ◌*ℤ◌}
use lib.Signed.{◌≤ℤ◌, lt_z_yes, le_z_yes}
use Rattle.setting.specs.Setting.{Setting, splines}
use Rattle.integers.specs.Squares.{squared}
use Rattle.integers.proofs.Ring.{sides}
use Rattle.integers.proofs.Order.{gap, natural, le_by, pos_le, *ℤ_cancel, ◌+₀◌, ◌×₀◌}
use Rattle.curve_nodes.specs.declared.Curve.{Curve}
use Rattle.curve_nodes.specs.Differences.{largest_of, bend, largest}
use Rattle.bound_rows.specs.Table.{table, rows_of}
use Rattle.bound_rows.specs.Rule.{gap_of}
use Rattle.bound_rows.proofs.Rule.{gap_thirds}
use Rattle.walk_depths.specs.Premise.{Flat, FlatThirds}

-- the premise with any G, where control values are units
abbrev WithScale : Bool → ℕ → ℤ → Curve → ℕ → Type 0
WithScale b G T c j =
    (pos 2 *ℤ squared (pos 16 *ℤ pos G *ℤ pos (largest c) +ℤ pos 20000 *ℤ pos (cond b 6 1 * 4 ^ j)))
    ≤ℤ squared (pos 10000 *ℤ T *ℤ pos (cond b 6 1 * 4 ^ j))

abbrev With : ℕ → ℤ → Curve → ℕ → Type 0
With G T c j = WithScale false G T c j

gap_890 : gap_of 3 3 ≡ 890
unfolding table rows_of gap_of largest_of
gap_890 = refl

module _ (T : ℤ) (c : Curve) (j : ℕ) where
  -- both sides are 80² times those of request 04
  to_thirds : With 890 T c j → FlatThirds T c j
  to_thirds h = *ℤ_cancel {k = pos 6400} (lt_z_yes tt) (le_by (T ∷ pos (largest c) ∷ pos (4 ^ j) ∷ []) (gap h) (search sides depth 40 fits 9999) refl)

  -- a smaller G asks less
  from_thirds : (G : ℕ) → G ≤ 890 → FlatThirds T c j → With G T c j
  from_thirds G l h = le_by (T ∷ pos (largest c) ∷ pos (4 ^ j) ∷ pos G ∷ [])
      (natural 6400 ×₀ gap h
      +₀ natural 512 ×₀ natural (largest c) ×₀ gap (pos_le l)
      ×₀ (natural 890 ×₀ natural (largest c) +₀ natural G ×₀ natural (largest c) +₀ natural 2500 ×₀ natural (4 ^ j)))
      (search sides depth 40 fits 9999) refl

  module _ (σ : Setting) (three : σ.pieces ≡ 3) (units : σ.sixths ≡ false) where
    pub flat_thirds : c.degree ≡ 3 → Flat σ T c j ↔ FlatThirds T c j
    flat_thirds e = subst (λ (b : Bool). WithScale b (gap_of σ.pieces c.degree) T c j ↔ FlatThirds T c j) (sym units)
        (subst (λ (G : ℕ). With G T c j ↔ FlatThirds T c j) (sym (ap₂ gap_of three e ∙ gap_890)) (to_thirds, from_thirds 890 (omega arith)))

    pub thirds_flat : 1 ≤ c.degree → c.degree ≤ 3 → FlatThirds T c j → Flat σ T c j
    thirds_flat least most h = rw (three, units) (from_thirds (gap_of 3 c.degree) (gap_thirds c.degree least most) h)

-- ---- T is the least tolerance with the premise at depth j
abbrev pub FlatFrom : Setting → ℕ → Curve → ℕ → Type 0
FlatFrom σ T c j = Flat σ (pos T) c j × (Flat σ (pos (T - 1)) c j → ⊥)

-- ---- M in sixths: y 150, 180, 180, 150 has M = 30, which is 5 units. With three pieces G is 890, and 2 × (16 × 890 × 5 + 20000)² lies between
-- (10000 × 12)² and (10000 × 13)²
abbrev arch : Curve
arch = record {
  degree = 3;
  x = pos 60 ∷ pos 80 ∷ pos 100 ∷ pos 120 ∷ pos 0 ∷ pos 0 ∷ [];
  y = pos 150 ∷ pos 180 ∷ pos 180 ∷ pos 150 ∷ pos 0 ∷ pos 0 ∷ [];
}

pub sixths_flat_from_13 : FlatFrom (splines 3) 13 arch 0
unfolding largest bend largest_of gap_of rows_of table
sixths_flat_from_13 = (le_z_yes tt, λ f. f.le)
