-- The fraction that code computes: 16 / 10000 is reduced to 1 / 625, so that every number fits 64 bits.
use mathlib.Core.Path.{◌≡◌, refl, ◌∙◌, ap}
use mathlib.Core.List.{List, [], ◌∷◌}
use Prim.Native.Nat.{ℕ, ◌<◌}
use lib.IntN.{ℤ, pos, ◌+ℤ◌, ◌*ℤ◌}
use lib.Signed.{◌<ℤ◌, lt_z_yes}
use Rattle.integers.specs.Rounding.{floor, ceiling}
use Rattle.integers.proofs.Ring.{ring, sides}
use Rattle.integers.proofs.Order.{times_positive, pos_lt}
use Rattle.integers.proofs.Rounding.{floor_scale, ceiling_scale}
use Rattle.bound_rows.specs.Rows.{Row}
use Rattle.bound_enclosure.specs.Bounds.{swapped, chord, row_sum, high, low}

module _ {m : ℕ} (some : 0 < m) {D : ℤ} (hD : pos 0 <ℤ D) where
  divisor : pos 0 <ℤ (pos 625 *ℤ pos m *ℤ D)
  divisor = times_positive (times_positive {x = pos 625} (lt_z_yes tt) (pos_lt some)) hD

  sixteenfold : pos 10000 *ℤ pos m *ℤ D ≡ pos 16 *ℤ (pos 625 *ℤ pos m *ℤ D)
  sixteenfold = ring (pos m ∷ D ∷ []) (search sides depth 20) refl

  module _ (ρs : List Row) (d : ℕ) (cs : List ℤ) (i : ℕ) where
    pub low_reduced : low m ρs D d cs i ≡ floor (chord m d i cs +ℤ pos m *ℤ row_sum (swapped ρs) i 0 cs) (pos 625 *ℤ pos m *ℤ D)
    unfolding low
    low_reduced = let n = chord m d i cs +ℤ pos m *ℤ row_sum (swapped ρs) i 0 cs in
        ap (floor (pos 16 *ℤ n)) sixteenfold ∙ floor_scale divisor {k = pos 16} (lt_z_yes tt) n

    pub high_reduced : high m ρs D d cs i ≡ ceiling (chord m d i cs +ℤ pos m *ℤ row_sum ρs i 0 cs) (pos 625 *ℤ pos m *ℤ D)
    unfolding high
    high_reduced = let n = chord m d i cs +ℤ pos m *ℤ row_sum ρs i 0 cs in
        ap (ceiling (pos 16 *ℤ n)) sixteenfold ∙ ceiling_scale divisor {k = pos 16} (lt_z_yes tt) n
