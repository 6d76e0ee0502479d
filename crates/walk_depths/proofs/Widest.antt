-- At the largest tolerance, 2^20, a curve of an outline meets the premise at its greatest depth: G is at most 7500, second differences are at most
-- 2^22, and 4^j is at least 4^4. So no node of its walk is too wide there.
use mathlib.Core.Path.{◌≡◌, refl}
use mathlib.Core.Bool.{Bool, true, false, cond}
use mathlib.Core.List.{[], ◌∷◌}
use Prim.Native.Nat.{ℕ, ◌+◌, ◌*◌, ◌^◌, ◌≤◌}
use native.Mathlib.Nat.{le_refl, le_trans, mul-le-mul}
use native.Mathlib.Omega.{arith}
use lib.Dec.{leb, lit≤}
use lib.IntN.{ℤ, pos, ◌*ℤ◌}
use lib.Signed.{◌≤ℤ◌}
use Rattle.integers.specs.Squares.{squared}
use Rattle.integers.proofs.Order.{NonNeg, natural, gap, le_by, pos_le, ◌+₀◌, ◌×₀◌}
use Rattle.integers.proofs.Ring.{sides}
use Rattle.setting.specs.Setting.{Setting, HasRows, scale, degree_pieces, deepest}
use Rattle.setting.proofs.Scales.{scaled_more}
use Rattle.curve_nodes.specs.declared.Curve.{Curve}
use Rattle.curve_nodes.specs.Bounds.{Sized}
use Rattle.curve_nodes.specs.Differences.{largest}
use Rattle.curve_nodes.proofs.Quarter.{largest_under}
use Rattle.bound_rows.specs.Rule.{gap_of}
use Rattle.bound_rows.proofs.Rule.{gap_most}
use Rattle.walk_tree.specs.Passing.{AllPass}
use Rattle.walk_curve.specs.Walked.{node_meets, ends_of}
use Rattle.walk_depths.specs.Premise.{Flat}
use Rattle.walk_depths.proofs.Depths.{ends_passing, all_meet}

-- b² − 2 a² = (b − 2 a)² + 4 a (b − 2 a) + 2 a²
twice_within : {a b : ℤ} → NonNeg a → (pos 2 *ℤ a) ≤ℤ b → (pos 2 *ℤ squared a) ≤ℤ squared b
twice_within {a} {b} some h =
    le_by (a ∷ b ∷ []) (gap h ×₀ gap h +₀ natural 4 ×₀ some ×₀ gap h +₀ natural 2 ×₀ some ×₀ some) (search sides depth 20) refl

small : (G M P : ℕ) → G ≤ 7500 → M ≤ 2 ^ 22 → 256 ≤ P → 2 * (16 * G * M + 20000 * P) ≤ 10000 * 1048576 * P
small G M P g m p =
    let product = mul-le-mul {n₁ = 16 * G} {m₁ = M} {n₂ = 16 * 7500} {m₂ = 2 ^ 22} (omega arith) m in
    omega (arith, product)

deep : (d : ℕ) → 256 ≤ 4 ^ deepest d
deep d = go (leb d 3)
  where
    go : (b : Bool) → 256 ≤ 4 ^ cond b 8 4
    go true = lit≤ tt
    go false = lit≤ tt

module _ (σ : Setting) (rows : HasRows σ.pieces) (c : Curve) (s : Sized 0 c) (takes : degree_pieces c.degree σ.pieces ≡ true) where
  pub widest_flat : Flat σ (pos 1048576) c (deepest c.degree)
  widest_flat =
      let G = gap_of σ.pieces c.degree in
      let P = scale σ * 4 ^ deepest c.degree in
      let large : 256 ≤ P = le_trans (deep c.degree) (scaled_more σ (4 ^ deepest c.degree)) in
      twice_within (natural (16 * G * largest c + 20000 * P))
      (pos_le (small G (largest c) P (gap_most σ.pieces c.degree rows s.most takes) (largest_under s) large))

  pub widest_passes : AllPass (node_meets σ (pos 1048576) c) (ends_of σ (pos 1048576) c)
  widest_passes =
      let j = deepest c.degree in
      ends_passing (node_meets σ (pos 1048576) c) j (all_meet σ rows (pos 1048576) c s takes j widest_flat) j (le_refl j)
