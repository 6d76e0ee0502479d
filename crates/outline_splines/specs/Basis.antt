-- The uniform cubic B-spline itself (document 02, request 13), by its basis at the parameter t = p / (p + r) of a
-- curve: (1 − t)³ / 6, (3 t³ − 6 t² + 4) / 6, (−3 t³ + 3 t² + 3 t + 1) / 6 and t³ / 6. No contract cites it: that the
-- curves of `splined` have these values is `curve_value` of crates/outline_splines/proofs/Basis.antt.
use Rattle.std.specs.Prelude.{List, ℕ, ◌+◌, ◌*◌, ℤ, pos, ◌+ℤ◌, ◌-ℤ◌, ◌*ℤ◌}
use Rattle.integers.specs.Entry.{entry}

-- the sum of the basis over four neighbours, times 6 w³ where w = p + r
abbrev pub basis_sum : (p r b0 b1 b2 b3 : ℤ) → ℤ
basis_sum p r b0 b1 b2 b3 =
    let w = p +ℤ r in
    r *ℤ r *ℤ r *ℤ b0
    +ℤ (pos 3 *ℤ p *ℤ p *ℤ p -ℤ pos 6 *ℤ p *ℤ p *ℤ w +ℤ pos 4 *ℤ w *ℤ w *ℤ w) *ℤ b1
    +ℤ (pos 3 *ℤ p *ℤ p *ℤ w +ℤ pos 3 *ℤ p *ℤ w *ℤ w +ℤ w *ℤ w *ℤ w -ℤ pos 3 *ℤ p *ℤ p *ℤ p) *ℤ b2
    +ℤ p *ℤ p *ℤ p *ℤ b3

-- coordinate `which` of point j of a list of points, from 0: 0 is x, 1 is y
abbrev pub point_at : List ℤ → (which j : ℕ) → ℤ
point_at ns which j = entry ns (2 * j + which)

-- that coordinate of the spline on its curve k, which points k to k + 3 make, times 6 (p + r)³
abbrev pub spline_sum : List ℤ → (which k : ℕ) → (p r : ℤ) → ℤ
spline_sum ns which k p r =
    basis_sum p r (point_at ns which k) (point_at ns which (k + 1)) (point_at ns which (k + 2))
    (point_at ns which (k + 3))
