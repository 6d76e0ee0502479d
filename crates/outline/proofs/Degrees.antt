-- Where a degree from 1 to 5 stands: it is a natural, and its index is inside the list.
use mathlib.Core.Path.{◌≡◌}
use mathlib.Core.Bool.{true}
use mathlib.Core.List.{List, [], ◌∷◌}
use Prim.Native.Nat.{ℕ, zero, suc, ◌≤◌, ◌<◌, zero-le, suc-le-suc}
use native.Mathlib.Nat.{not-suc-le-zero}
use lib.ListN.{length}
use lib.IntN.{ℤ, pos, negsuc, nat_abs}
use lib.Signed.{◌≤ℤ◌}
use Rattle.setting.specs.Setting.{most_degree}
use Rattle.integers.specs.Entry.{entry}
use Rattle.integers.proofs.Order.{NonNeg, nonneg, ≤ℤ_trans, pos_le, le_pos}
use Rattle.outline.specs.Curves.{degree_fine, degree_at}
use Rattle.integers.proofs.Between.{between_low, between_high}

least : (z : ℤ) → pos 1 ≤ℤ z → 1 ≤ nat_abs z
least (pos n) h = le_pos h
least (negsuc n) h = absurd h.le

most : (z : ℤ) → pos 1 ≤ℤ z → z ≤ℤ pos most_degree → nat_abs z ≤ most_degree
most (pos n) l h = le_pos h
most (negsuc n) l h = absurd l.le

-- past the end stands 0, which is no degree
inside : (ns : List ℤ) (at : ℕ) → 1 ≤ degree_at ns at → at < length ns
inside [] at h = absurd (not-suc-le-zero h)
inside (z ∷ ns) zero h = suc-le-suc zero-le
inside (z ∷ ns) (suc at) h = suc-le-suc (inside ns at h)

module _ (ns : List ℤ) (at : ℕ) (e : degree_fine (entry ns at) ≡ true) where
  low : pos 1 ≤ℤ entry ns at
  low = between_low (pos 1) (pos most_degree) (entry ns at) e

  pub degree_least : 1 ≤ degree_at ns at
  degree_least = least (entry ns at) low

  pub degree_most : degree_at ns at ≤ most_degree
  degree_most = most (entry ns at) low (between_high (pos 1) (pos most_degree) (entry ns at) e)

  pub degree_nonneg : NonNeg (entry ns at)
  degree_nonneg = nonneg (≤ℤ_trans (pos_le zero-le) low)

  pub degree_inside : at < length ns
  degree_inside = inside ns at degree_least
