-- The parameters of a node. Up: weights at a node, as weights of the same value at node 1. Down: weights at node 1, as weights at a node that keep
-- their sum; the value is then larger by the denominator of the node's control values.
use mathlib.Core.Path.{◌≡◌, refl, sym, ◌∙◌, ap, ap₂}
use mathlib.Core.List.{List, [], ◌∷◌}
use Prim.Native.Nat.{ℕ, suc, ◌+◌, ◌^◌, ◌≤◌, ◌<◌}
use lib.IntN.{ℤ, pos, ◌+ℤ◌, ◌-ℤ◌, ◌*ℤ◌, pow}
use Rattle.setting.specs.Setting.{most_degree}
use Rattle.integers.proofs.Ring.{ring, sides}
use Rattle.curve_bernstein.specs.Value.{value}
use Rattle.curve_bernstein.proofs.Stretch.{part_list_value}
use Rattle.curve_bernstein.proofs.Nonnegative.{value_times}
use Rattle.curve_nodes.specs.declared.Curve.{Curve}
use Rattle.curve_nodes.specs.Nodes.{depth, start, node_curve}
use Rattle.curve_nodes.proofs.Coordinates.{node_values, node_curve_law}
use Rattle.curve_nodes.proofs.Spans.{remaining, whole_width, node_span}

-- ---- up
pub values_up : (d : ℕ) → d ≤ most_degree → (cs : List ℤ) (n : ℕ) → 0 < n → (p r : ℤ)
    → value (pos (start n) *ℤ (p +ℤ r) +ℤ p) (pos (remaining n) *ℤ (p +ℤ r) +ℤ r) d cs ≡ value p r d (node_values d cs n)
values_up d h cs n hn p r =
    let s = start n in
    let t = remaining n in
    ap₂ (λ x y. value x y d cs) (ring (pos s ∷ p ∷ r ∷ []) (search sides depth 20) refl) (ring (pos t ∷ p ∷ r ∷ []) (search sides depth 20) refl)
    ∙ sym (part_list_value (pos s) (pos (suc t)) (pos (suc s)) (pos t) r p d cs (node_values d cs n) (node_span d h cs n hn))

pub up_sum : (n : ℕ) → 0 < n → (p r : ℤ) → pos (start n) *ℤ (p +ℤ r) +ℤ p +ℤ (pos (remaining n) *ℤ (p +ℤ r) +ℤ r) ≡ pos (2 ^ depth n) *ℤ (p +ℤ r)
up_sum n hn p r = ring (pos (start n) ∷ pos (remaining n) ∷ p ∷ r ∷ []) {b = pos (start n + 1 + remaining n) *ℤ (p +ℤ r)} (search sides depth 20) refl
    ∙ ap (λ (w : ℕ). pos w *ℤ (p +ℤ r)) (whole_width n hn)

-- ---- down: the weights at node n where node 1 has P and R, with the same sum
abbrev pub p_at : ℕ → ℤ → ℤ → ℤ
p_at n P R = pos (2 ^ depth n) *ℤ P -ℤ pos (start n) *ℤ (P +ℤ R)

abbrev pub r_at : ℕ → ℤ → ℤ → ℤ
r_at n P R = pos (suc (start n)) *ℤ (P +ℤ R) -ℤ pos (2 ^ depth n) *ℤ P

pub same_sum : (n : ℕ) (P R : ℤ) → p_at n P R +ℤ r_at n P R ≡ P +ℤ R
same_sum n P R = ring (pos (2 ^ depth n) ∷ pos (start n) ∷ P ∷ R ∷ []) (search sides depth 20) refl

pub values_down : (d : ℕ) → d ≤ most_degree → (cs : List ℤ) (n : ℕ) → 0 < n → (P R : ℤ)
    → value (p_at n P R) (r_at n P R) d (node_values d cs n) ≡ pow (pos (2 ^ depth n)) d *ℤ value P R d cs
values_down d h cs n hn P R =
    let w = 2 ^ depth n in
    let s = start n in
    let t = remaining n in
    sym (values_up d h cs n hn (p_at n P R) (r_at n P R))
    ∙ ap (λ q. value (pos s *ℤ q +ℤ p_at n P R) (pos t *ℤ q +ℤ r_at n P R) d cs) (same_sum n P R)
    ∙ ap₂ (λ x y. value x y d cs) (ring (pos w ∷ pos s ∷ P ∷ R ∷ []) {b = pos w *ℤ P} (search sides depth 20) refl) (far w s t (whole_width n hn))
    ∙ value_times (pos w) P R d cs
  where
    far : (w s t : ℕ) → s + 1 + t ≡ w → pos t *ℤ (P +ℤ R) +ℤ (pos (suc s) *ℤ (P +ℤ R) -ℤ pos w *ℤ P) ≡ pos w *ℤ R
    far w s t e = ap (λ (v : ℕ). pos t *ℤ (P +ℤ R) +ℤ (pos (suc s) *ℤ (P +ℤ R) -ℤ pos v *ℤ P)) (sym e)
        ∙ ring (pos s ∷ pos t ∷ P ∷ R ∷ []) {b = pos (s + 1 + t) *ℤ R} (search sides depth 20) refl
        ∙ ap (λ (v : ℕ). pos v *ℤ R) e

-- ---- the values of a node's curve, in x and in y
module _ (c : Curve) (h : c.degree ≤ most_degree) (n : ℕ) (hn : 0 < n) where
  module _ (p r : ℤ) where
    pub node_value_x : value (pos (start n) *ℤ (p +ℤ r) +ℤ p) (pos (remaining n) *ℤ (p +ℤ r) +ℤ r) c.degree c.x
        ≡ value p r c.degree (node_curve c n).x
    node_value_x = values_up c.degree h c.x n hn p r ∙ ap (λ a. value p r c.degree a.x) (sym (node_curve_law c n hn))

    pub node_value_y : value (pos (start n) *ℤ (p +ℤ r) +ℤ p) (pos (remaining n) *ℤ (p +ℤ r) +ℤ r) c.degree c.y
        ≡ value p r c.degree (node_curve c n).y
    node_value_y = values_up c.degree h c.y n hn p r ∙ ap (λ a. value p r c.degree a.y) (sym (node_curve_law c n hn))

  module _ (P R : ℤ) where
    pub node_value_down_x : value (p_at n P R) (r_at n P R) c.degree (node_curve c n).x
        ≡ pow (pos (2 ^ depth n)) c.degree *ℤ value P R c.degree c.x
    node_value_down_x = ap (λ a. value (p_at n P R) (r_at n P R) c.degree a.x) (node_curve_law c n hn) ∙ values_down c.degree h c.x n hn P R

    pub node_value_down_y : value (p_at n P R) (r_at n P R) c.degree (node_curve c n).y
        ≡ pow (pos (2 ^ depth n)) c.degree *ℤ value P R c.degree c.y
    node_value_down_y = ap (λ a. value (p_at n P R) (r_at n P R) c.degree a.y) (node_curve_law c n hn) ∙ values_down c.degree h c.y n hn P R
