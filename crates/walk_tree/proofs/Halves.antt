-- The halves of a node, left and right: their depth and their start, and induction over them.
use mathlib.Core.Path.{◌≡◌, refl, ◌∙◌, ap}
use Prim.Native.Nat.{ℕ, zero, suc, ◌+◌, ◌*◌, ◌^◌, ◌<◌}
use native.Mathlib.Nat.{pow-suc, add-zero}
use native.Mathlib.Omega.{arith}
use Rattle.curve_nodes.specs.Nodes.{depth, start}
use Rattle.curve_nodes.proofs.Nodes.{node_induction}
use Rattle.curve_nodes.proofs.Numbers.{depth_half, start_half}

-- c is a half of node n: the left one with b = 0, the right one with b = 1
pub record Half (n c b : ℕ) : Type 0 where
  pub deeper : depth c ≡ suc (depth n)
  pub starts : start c ≡ 2 * start n + b

half : (n c b : ℕ) → c ≡ 2 * n + b → 0 < n → b < 2 → Half n c b
half n c b e hn hb = record { deeper = ap depth e ∙ depth_half n b hn hb; starts = ap start e ∙ start_half n b hn hb }

pub left_half : (n : ℕ) → 0 < n → Half n (2 * n) 0
left_half n hn = half n (2 * n) 0 (omega arith) hn (omega arith)

pub right_half : (n : ℕ) → 0 < n → Half n (2 * n + 1) 1
right_half n hn = half n (2 * n + 1) 1 refl hn (omega arith)

pub finer : {n c b : ℕ} → Half n c b → 2 ^ depth c ≡ 2 ^ depth n * 2
finer {n} h = ap (λ k. 2 ^ k) h.deeper ∙ pow-suc 2 (depth n)

-- every node is node 1, or a left half, or a right half
pub half_induction : (P : ℕ → Type 0) → P 1 → ((n : ℕ) → 0 < n → P n → P (2 * n)) → ((n : ℕ) → 0 < n → P n → P (2 * n + 1)) → (n : ℕ) → 0 < n → P n
half_induction P one left right = node_induction P one step
  where
    step : (n b : ℕ) → 0 < n → b < 2 → P n → P (2 * n + b)
    step n zero hn hb h = rw add-zero (left n hn h)
    step n (suc zero) hn hb h = right n hn h
    step n (suc (suc b)) hn hb h = absurd (omega arith)
