-- What the rule of the table and document 01's claim say of single entries of a row. Each law uses a definition in which they end, so that a weaker
-- one is seen here.
use mathlib.Core.Path.{◌≡◌, refl}
use mathlib.Core.List.{List, [], ◌∷◌}
use Prim.Native.Nat.{ℕ, ◌+◌}
use lib.Dec.{lit≤, lit<}
use lib.IntN.{ℤ, pos, neg_ℤ, ◌+ℤ◌, pow, one}
use lib.Signed.{◌≤ℤ◌, lt_z_yes}
use Rattle.integers.specs.Entry.{entry}
use Rattle.integers.specs.Rounding.{floor, ceiling}
use Rattle.integers.proofs.Ring.{sides}
use Rattle.integers.proofs.Order.{gap, le_by, *ℤ_cancel, ≤ℤ_antisymm, ◌+₀◌}
use Rattle.curve_bernstein.specs.Value.{choose, sum, value}
use Rattle.curve_halves.specs.Halves.{listed}
use Rattle.bound_rows.specs.Rows.{Row, pieces}
use Rattle.bound_rows.specs.Antidifferences.{antidifference}
use Rattle.bound_rows.specs.Joined.{Place, RowBounds}
use Rattle.bound_rows.specs.Claim.{Bounds, EachRowBounds}
use Rattle.bound_rows.specs.Rule.{allowed, Ruled}

abbrev minus : ℕ → ℤ
minus n = neg_ℤ (pos n)

-- ---- The rule leaves one row for two pieces of degree 2: high 0, −2500, 0 and low −625, −3125, −625.
module _ (ρ : Row) (ruled : Ruled 2 2 0 ρ) where
  pub ruled_high : (entry ρ.high 0 ≡ pos 0) × (entry ρ.high 1 ≡ minus 2500) × (entry ρ.high 2 ≡ pos 0)
  unfolding antidifference value sum choose pow one floor ceiling
  ruled_high = (ruled.high 0 (lit≤ tt), ruled.high 1 (lit≤ tt), ruled.high 2 (lit≤ tt))

  abbrev low : ℕ → ℤ
  low = entry ρ.low

  -- at the ends of a piece the allowance bounds the low entries from below, and half-way over it the polynomial bounds them from above
  at_least : ((minus 625) ≤ℤ low 0) × ((minus 3125) ≤ℤ low 1) × ((minus 625) ≤ℤ low 2)
  unfolding antidifference value sum choose pow one floor ceiling
  at_least = (ruled.low 0 (lit≤ tt), ruled.low 1 (lit≤ tt), ruled.low 2 (lit≤ tt))

  first_half_way : Place 2 0 2 2 1 3
  first_half_way = record { whole = refl; at = refl }

  last_half_way : Place 2 1 2 2 3 1
  last_half_way = record { whole = refl; at = refl }

  first_piece : (low 0 +ℤ low 1) ≤ℤ minus 3750
  unfolding antidifference value sum choose pow one
  first_piece = *ℤ_cancel {k = pos 16} (lt_z_yes tt)
      (le_by (low 0 ∷ low 1 ∷ []) (gap (ruled.under 0 2 2 1 3 (lit< tt) first_half_way)) (search sides depth 40 fits 9999) refl)

  last_piece : (low 1 +ℤ low 2) ≤ℤ minus 3750
  unfolding antidifference value sum choose pow one
  last_piece = *ℤ_cancel {k = pos 16} (lt_z_yes tt)
      (le_by (low 1 ∷ low 2 ∷ []) (gap (ruled.under 1 2 2 3 1 (lit< tt) last_half_way)) (search sides depth 40 fits 9999) refl)

  pub ruled_low : (low 0 ≡ minus 625) × (low 1 ≡ minus 3125) × (low 2 ≡ minus 625)
  ruled_low = (
    ≤ℤ_antisymm (le_by (low 0 ∷ low 1 ∷ []) (gap first_piece +₀ gap at_least.1) (search sides depth 40 fits 9999) refl) at_least.0,
    ≤ℤ_antisymm (le_by (low 1 ∷ low 2 ∷ []) (gap last_piece +₀ gap at_least.2) (search sides depth 40 fits 9999) refl) at_least.1,
    ≤ℤ_antisymm (le_by (low 1 ∷ low 2 ∷ []) (gap last_piece +₀ gap at_least.1) (search sides depth 40 fits 9999) refl) at_least.2,
  )

-- ---- the allowances, as docs/ROWS.md prints them: for 1 to 8 pieces, and for 3 to 8 where the degree is 4 or 5
abbrev naturals : List ℕ → List ℤ
naturals [] = []
naturals (n ∷ ns) = pos n ∷ naturals ns

pub allowances : (listed 8 (λ n. allowed (1 + n) 2) ≡ naturals (2500 ∷ 625 ∷ 278 ∷ 157 ∷ 100 ∷ 70 ∷ 52 ∷ 40 ∷ []))
    × (listed 8 (λ n. allowed (1 + n) 3) ≡ naturals (7500 ∷ 1875 ∷ 834 ∷ 469 ∷ 300 ∷ 209 ∷ 154 ∷ 118 ∷ []))
    × (listed 6 (λ n. allowed (3 + n) 4) ≡ naturals (1667 ∷ 938 ∷ 600 ∷ 417 ∷ 307 ∷ 235 ∷ []))
    × (listed 6 (λ n. allowed (3 + n) 5) ≡ naturals (2778 ∷ 1563 ∷ 1000 ∷ 695 ∷ 511 ∷ 391 ∷ []))
unfolding floor ceiling
allowances = (refl, refl, refl, refl)

-- ---- document 01's claim, half-way: this is no break point of three pieces, and the polynomials times 2^d are −1, −3 and −3 there
abbrev HalfWay : Row → (d : ℕ) → ℤ → Type 0
HalfWay ρ d P = (i : ℕ) × (a : ℕ) × (b : ℕ) × Place pieces i a b 1 1 × RowBounds ρ d P i a b 1 1

half_way : {ρ : Row} {d : ℕ} {P : (p r : ℤ) → ℤ} → Bounds ρ d P → HalfWay ρ d (P (pos 1) (pos 1))
half_way c = let l = c.lies 1 1 (lit< tt) in (l.0, l.1, l.2, l.4, c.holds 1 1 (lit< tt) l.0 l.1 l.2 l.3 l.4)

pub each_half_way : (e : EachRowBounds)
    → HalfWay e.row2_first 2 (minus 1) × HalfWay e.row3_first 3 (minus 3) × HalfWay e.row3_second 3 (minus 3)
each_half_way e = (half_way e.bounds2_first, half_way e.bounds3_first, half_way e.bounds3_second)
