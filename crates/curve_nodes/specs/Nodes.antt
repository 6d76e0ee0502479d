-- The nodes of repeated halving (document 01, "Halving"): node 1 is the undivided curve, and node n has halves 2n and
-- 2n + 1.
use Rattle.std.specs.Prelude.{true, false, ℕ, zero, suc, ◌+◌, ◌-◌, ◌/◌, ◌%◌, ◌^◌, ltb}
use Rattle.curve_nodes.specs.declared.Curve.{Curve}
use Rattle.curve_nodes.specs.Halves.{left_half, right_half}

-- What belongs to node n, where `top` belongs to node 1, and `half b` makes of what belongs to a node what belongs to
-- its half: b is 0 for the left half, 2n, and 1 for the right, 2n + 1. At most `fuel` steps; `descend` gives enough.
unfoldable pub descend_in : {A : Type 0} → ℕ → A → (ℕ → A → A) → ℕ → A
descend_in zero top half n = top
descend_in (suc fuel) top half n =
    elim (ltb n 2) [ true ↦ top | false ↦ half (n % 2) (descend_in fuel top half (n / 2)) ]

unfoldable pub descend : {A : Type 0} → A → (ℕ → A → A) → ℕ → A
descend top half n = descend_in n top half n

-- the place of n's highest one bit, counting the lowest as 0
unfoldable pub depth : ℕ → ℕ
depth n = descend 0 (λ b k. suc k) n

abbrev pub half_of : ℕ → Curve → Curve
half_of zero c = left_half c
half_of (suc b) c = right_half c

-- the curve of node n, halved down from the curve of node 1
unfoldable pub node_curve : Curve → ℕ → Curve
node_curve c n = descend c half_of n

-- Node n at depth k covers the parameters from `start n` / 2^k to (`start n` + 1) / 2^k.
abbrev pub start : ℕ → ℕ
start n = n - 2 ^ depth n

-- n without its trailing zero bits, at most `fuel` of them
unfoldable pub odd_part_in : ℕ → ℕ → ℕ
odd_part_in zero n = n
odd_part_in (suc fuel) n = elim (n % 2) [ zero ↦ odd_part_in fuel (n / 2) | suc b ↦ n ]

-- the node after leaf n: n + 1 with its trailing zero bits dropped
unfoldable pub after : ℕ → ℕ
after n = odd_part_in n (n + 1)
