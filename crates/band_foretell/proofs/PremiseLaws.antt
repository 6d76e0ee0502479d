-- The premise divided by 16 is the question that code asks, and where control values are units the depth is what the search for it finds.
use mathlib.Core.Path.{◌≡◌, refl}
use mathlib.Core.Bool.{not}
use mathlib.Core.List.{[], ◌∷◌}
use Prim.Native.Nat.{ℕ, ◌+◌, ◌*◌, ◌^◌}
use native.Mathlib.Nat.{one-mul}
use lib.Dec.{lit<}
use lib.IntN.{pos, ◌+ℤ◌, ◌*ℤ◌}
use lib.Signed.{le_z}
use Rattle.integers.specs.First.{first_bad}
use Rattle.integers.specs.Squares.{squared}
use Rattle.integers.proofs.Ring.{sides}
use Rattle.setting.specs.Setting.{lists, deepest}
use Rattle.curve_nodes.specs.declared.Curve.{Curve}
use Rattle.curve_nodes.specs.Differences.{largest}
use Rattle.bound_rows.specs.Rule.{gap_of}
use Rattle.walk_depths.specs.Premise.{is_flat}
use Rattle.walk_depths.specs.Depth.{depth_of}
use Rattle.band_foretell.specs.Inside.{doubled_fits, divided_fits, least_depth}
use Rattle.band_foretell.proofs.Alike.{same_answer}

-- z is 4^j times the scale of control values
pub divided : (G M T z : ℕ)
    → doubled_fits (pos (G * M + 1250 * z)) (pos (625 * T * z))
    ≡ le_z (pos 2 *ℤ squared (pos 16 *ℤ pos G *ℤ pos M +ℤ pos 20000 *ℤ pos z)) (squared (pos 10000 *ℤ pos T *ℤ pos z))
unfolding doubled_fits
divided G M T z = same_answer (pos G ∷ pos M ∷ pos T ∷ pos z ∷ []) 256 (lit< tt)
    (pos 2 *ℤ squared (pos (G * M + 1250 * z))) (squared (pos (625 * T * z)))
    (pos 2 *ℤ squared (pos 16 *ℤ pos G *ℤ pos M +ℤ pos 20000 *ℤ pos z)) (squared (pos 10000 *ℤ pos T *ℤ pos z)) (search sides depth 40 fits 9999) refl

module _ (m t : ℕ) (c : Curve) where
  abbrev G : ℕ
  G = gap_of m c.degree

  divided_flat : (j : ℕ) → divided_fits G (largest c) t j ≡ is_flat (lists m) (pos t) c j
  divided_flat j = rw (one-mul (4 ^ j)) (divided G (largest c) t (4 ^ j))

  pub depth_is : least_depth G (largest c) t (deepest c.degree) ≡ depth_of (lists m) (pos t) c
  unfolding least_depth depth_of
  depth_is = λ i. first_bad (λ j. not (divided_flat j i)) (deepest c.degree + 1) 0
