-- Second differences of neighbouring control values, and the largest (document 01: M).
use Rattle.std.specs.Prelude.{List, ℕ, zero, suc, ◌-◌, max, ℤ, pos, nat_abs, ◌+ℤ◌, ◌-ℤ◌, ◌*ℤ◌}
use Rattle.integers.specs.Entry.{entry}
use Rattle.curve_nodes.specs.declared.Curve.{Curve}

-- c0 − 2 c1 + c2 of the neighbours from place k on: the second difference Δ of J. Peters and X. Wu, "SLEVEs for planar
-- spline curves" (CAGD 21, 2004), section 3.1
abbrev pub difference : List ℤ → ℕ → ℤ
difference cs k = entry cs k -ℤ pos 2 *ℤ entry cs (suc k) +ℤ entry cs (suc (suc k))

-- the largest of f 0, f 1, .., n numbers; 0 if there is none
unfoldable pub largest_of : ℕ → (ℕ → ℕ) → ℕ
largest_of zero f = 0
largest_of (suc n) f = max (largest_of n f) (f n)

-- the largest absolute second difference of a coordinate of degree d: it has d − 1 of them, none for degree 1
unfoldable pub bend : ℕ → List ℤ → ℕ
bend d cs = largest_of (d - 1) (λ k. nat_abs (difference cs k))

-- M, over both coordinates
unfoldable pub largest : Curve → ℕ
largest c = max (bend c.degree c.x) (bend c.degree c.y)
