-- The stretch of a node among those of its depth: how many come before it and how many after it; and the node's control values are those of its
-- stretch.
use mathlib.Core.Path.{◌≡◌, sym, ◌∙◌, ap, ap₂}
use mathlib.Core.List.{List}
use Prim.Native.Nat.{ℕ, zero, suc, ◌+◌, ◌*◌, ◌-◌, ◌^◌, ◌≤◌, ◌<◌}
use native.Mathlib.Nat.{pow-succ'}
use native.Mathlib.Omega.{arith}
use lib.IntN.{ℤ, pos}
use Rattle.setting.specs.Setting.{most_degree, control_values}
use Rattle.integers.specs.Entry.{entry}
use Rattle.curve_bernstein.proofs.Stretch.{part, part_ext, part_part, half_part, span, span_whole}
use Rattle.curve_halves.proofs.Values.{listed_entry, half, half_entry}
use Rattle.curve_nodes.specs.Nodes.{depth, start}
use Rattle.curve_nodes.proofs.Nodes.{node_induction}
use Rattle.curve_nodes.proofs.Numbers.{depth_one, depth_half, start_half, start_below}
use Rattle.curve_nodes.proofs.Coordinates.{node_values, values_one, values_half}

-- ---- of the 2^depth nodes of one depth, `start n` come before node n, and these after it
abbrev pub remaining : ℕ → ℕ
remaining n = 2 ^ depth n - start n - 1

width_half : (n b : ℕ) → 0 < n → b < 2 → 2 ^ depth (2 * n + b) ≡ 2 * 2 ^ depth n
width_half n b hn hb = ap (λ k. 2 ^ k) (depth_half n b hn hb) ∙ pow-succ' 2 (depth n)

pub remaining_half : (n b : ℕ) → 0 < n → b < 2 → remaining (2 * n + b) ≡ 2 * remaining n + (1 - b)
remaining_half n b hn hb =
    ap₂ (λ w s. w - s - 1) (width_half n b hn hb) (start_half n b hn hb) ∙ go (2 ^ depth n) (start n) (start_below n hn)
  where
    go : (w s : ℕ) → s < w → 2 * w - (2 * s + b) - 1 ≡ 2 * (w - s - 1) + (1 - b)
    go w s h = omega arith

pub whole_width : (n : ℕ) → 0 < n → start n + 1 + remaining n ≡ 2 ^ depth n
whole_width n hn = let h = start_below n hn in omega arith

-- ---- the control values of a node are those of its stretch
module _ (d : ℕ) (f : ℕ → ℤ) (k : ℕ) where
  same_span : (s e : ℕ) {p0 r0 p1 r1 : ℕ} → p0 ≡ s → r0 ≡ suc e → p1 ≡ suc s → r1 ≡ e
      → part (pos p0) (pos r0) (pos p1) (pos r1) d f k ≡ span s e d f k
  same_span s e a b c g = rw (a, b, c, g)

  -- a half of a stretch
  span_half : (b : ℕ) → b < 2 → (s e : ℕ) → k ≤ d → half_part b d (span s e d f) k ≡ span (2 * s + b) (2 * e + (1 - b)) d f k
  span_half zero hb s e l =
      part_part (pos s) (pos (suc e)) (pos (suc s)) (pos e) (pos 0) (pos 2) (pos 1) (pos 1) d f k l
      ∙ same_span (2 * s + 0) (2 * e + 1) (omega arith) (omega arith) (omega arith) (omega arith)
  span_half (suc zero) hb s e l =
      part_part (pos s) (pos (suc e)) (pos (suc s)) (pos e) (pos 1) (pos 1) (pos 2) (pos 0) d f k l
      ∙ same_span (2 * s + 1) (2 * e + 0) (omega arith) (omega arith) (omega arith) (omega arith)
  span_half (suc (suc b)) hb s e l = absurd (omega arith)

module _ (d : ℕ) (h : d ≤ most_degree) (cs : List ℤ) where
  abbrev Spans : ℕ → Type 0
  Spans n = (k : ℕ) → k ≤ d → entry (node_values d cs n) k ≡ span (start n) (remaining n) d (entry cs) k

  pub node_span : (n : ℕ) → 0 < n → Spans n
  node_span = node_induction Spans
      (λ k l. rw (values_one d cs, depth_one) (sym (span_whole d (entry cs) k l)))
      (λ n b hn hb is k l. rw (values_half d cs n b hn hb, remaining_half n b hn hb, start_half n b hn hb)
      (listed_entry control_values (entry (half b d (node_values d cs n))) k (omega arith)
      ∙ half_entry b hb d (node_values d cs n) k l
      ∙ part_ext (pos b) (pos (suc (1 - b))) (pos (suc b)) (pos (1 - b)) d (entry (node_values d cs n))
      (span (start n) (remaining n) d (entry cs)) is k
      ∙ span_half d (entry cs) k b hb (start n) (remaining n) l))
