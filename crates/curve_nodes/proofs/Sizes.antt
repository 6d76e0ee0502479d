-- How large control values get: a halving makes them at most 2^d times as large, so at the
-- greatest depth of its degree they are within 2^44 where the root's are within 2^20.
use mathlib.Core.Path.{◌≡◌, ◌∙◌, ap}
use mathlib.Core.List.{List}
use Prim.Native.Nat.{ℕ, zero, suc, ◌*◌, ◌^◌, ◌≤◌, ◌<◌}
use native.Mathlib.Nat.{le_refl, le_of_eq, mul-le-mul, mul_comm, mul_left_comm, mul-suc}
use native.Mathlib.Omega.{arith}
use lib.Pow.{pow-add, pow_mono}
use lib.IntN.{ℤ, pos, neg_ℤ, nat_abs, ◌-ℤ◌, ◌*ℤ◌}
use Rattle.setting.specs.Setting.{deepest}
use Rattle.setting.proofs.Depths.{degree_depth}
use Rattle.integers.specs.Entry.{entry}
use Rattle.integers.proofs.Size.{abs_neg, abs_add, abs_mul}
use Rattle.curve_nodes.specs.declared.Curve.{Curve}
use Rattle.curve_halves.specs.Halves.{left, right, padded}
use Rattle.curve_nodes.specs.Halves.{left_half, right_half}
use Rattle.curve_nodes.specs.Nodes.{depth, half_of, node_curve}
use Rattle.curve_halves.specs.Sizes.{Each}
use Rattle.curve_halves.proofs.Sizes.{each_wider, each_padded, each_left, each_right}
use Rattle.curve_nodes.specs.Inside.{Halvable}
use Rattle.curve_nodes.specs.Bounds.{Sized}
use Rattle.curve_nodes.specs.Differences.{difference}
use Rattle.curve_nodes.proofs.Nodes.{node_induction}
use Rattle.curve_nodes.proofs.Numbers.{depth_one, depth_half, depth_under, node_one, node_half}
use Rattle.curve_nodes.proofs.Coordinates.{node_degree}

-- a second difference is at most four times as large
pub difference_under : {B : ℕ} {cs : List ℤ} → Each B cs → (k : ℕ) → nat_abs (difference cs k) ≤ 4 * B
difference_under {B} {cs} h k =
    let a = entry cs k in
    let b = entry cs (suc k) in
    let e = entry cs (suc (suc k)) in
    omega (
      arith,
      h.under k,
      h.under (suc k),
      h.under (suc (suc k)),
      abs_add (a -ℤ pos 2 *ℤ b) e,
      abs_add a (neg_ℤ (pos 2 *ℤ b)),
      abs_neg (pos 2 *ℤ b),
      abs_mul (pos 2) b,
    )

-- ---- curves
-- what depth k allows a coordinate of degree d, and 2^d times that at the next depth
abbrev room : ℕ → ℕ → ℕ
room d k = 2 ^ 20 * 2 ^ (d * k)

one_deeper : (d k : ℕ) → 2 ^ d * room d k ≡ room d (suc k)
one_deeper d k = rw (mul-suc, pow-add) (mul_left_comm (2 ^ d) (2 ^ 20) (2 ^ (d * k)) ∙ ap (λ (x : ℕ). 2 ^ 20 * x) (mul_comm (2 ^ d) (2 ^ (d * k))))

-- both coordinates, by a rule that makes values at most 2^d times as large
halved : (half : ℕ → List ℤ → List ℤ) → ((B : ℕ) (cs : List ℤ) → Each B cs → (d : ℕ) → Each (2 ^ d * B) (half d cs))
    → {k : ℕ} {c : Curve} → Sized k c
    → Sized (suc k) (record { degree = c.degree; x = padded (half c.degree c.x); y = padded (half c.degree c.y) })
halved half rule {k} {c} h = record { least = h.least; most = h.most; x = deeper c.x h.x; y = deeper c.y h.y }
  where
    deeper : (cs : List ℤ) → Each (room c.degree k) cs → Each (room c.degree (suc k)) (padded (half c.degree cs))
    deeper cs e = each_wider (le_of_eq (one_deeper c.degree k)) (each_padded (rule (room c.degree k) cs e c.degree))

pub half_sized : (b : ℕ) {k : ℕ} {c : Curve} → Sized k c → Sized (suc k) (half_of b c)
unfolding left_half right_half
half_sized zero h = halved left (λ B cs. each_left) h
half_sized (suc b) h = halved right (λ B cs. each_right) h

pub sized_halvable : {k : ℕ} {c : Curve} → k ≤ deepest c.degree → Sized k c → Halvable c
sized_halvable {k} {c} l h = record { least = h.least; most = h.most; x = each_wider small h.x; y = each_wider small h.y }
  where
    small : room c.degree k ≤ 2 ^ 44
    small = mul-le-mul (le_refl (2 ^ 20)) (pow_mono {j = 24} (degree_depth c.degree k h.most l))

module _ {root : Curve} (h : Sized 0 root) where
  pub node_sized : (n : ℕ) → 0 < n → Sized (depth n) (node_curve root n)
  node_sized = node_induction (λ n. Sized (depth n) (node_curve root n)) (rw (depth_one, node_one root) h)
      (λ n b hn hb s. rw (depth_half n b hn hb, node_half root n b hn hb) (half_sized b s))

  pub node_halvable : (n : ℕ) → 0 < n → n < 2 ^ suc (deepest root.degree) → Halvable (node_curve root n)
  node_halvable n hn l =
      sized_halvable (rw (node_degree root n hn) (depth_under n (deepest root.degree) hn l)) (node_sized n hn)
