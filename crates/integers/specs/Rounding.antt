-- Division by a positive number, rounded to a whole number. `proofs/Rounding.antt` has the laws: `floor n d` is the one
-- whole number q with q · d ≤ n < (q + 1) · d, and `ceiling n d` the one with (q − 1) · d < n ≤ q · d.
use Rattle.std.specs.Prelude.{◌/◌, ℤ, pos, negsuc, neg_ℤ, nat_abs}

-- n / d rounded down, also below zero. `negsuc a` is −(a + 1).
unfoldable pub floor : ℤ → ℤ → ℤ
floor (pos a) d = pos (a / nat_abs d)
floor (negsuc a) d = negsuc (a / nat_abs d)

-- n / d rounded up
unfoldable pub ceiling : ℤ → ℤ → ℤ
ceiling n d = neg_ℤ (floor (neg_ℤ n) d)
