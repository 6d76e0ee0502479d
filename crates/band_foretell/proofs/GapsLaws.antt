-- The numbers that code reads for G are G, by one computed test.
use mathlib.Core.Path.{◌≡◌, subst}
use mathlib.Core.Bool.{Bool, true, cond}
use mathlib.Core.List.{List, [], ◌∷◌}
use Prim.Native.Nat.{ℕ, zero, suc, ◌+◌, ◌*◌, ◌-◌, ◌≤◌, suc-le-suc}
use native.Mathlib.Omega.{arith}
use lib.Dec.{T, eqb, eqb→eq}
use lib.ListN.{get_or}
use Rattle.setting.specs.Setting.{HasRows, most_degree, degree_pieces}
use Rattle.integers.proofs.Table.{every_below, below}
use Rattle.curve_nodes.specs.Differences.{largest_of}
use Rattle.bound_rows.specs.Table.{table, rows_of}
use Rattle.bound_rows.specs.Rule.{gap_of}

abbrev pub gaps : List ℕ
gaps =
    0 ∷ 0 ∷ 2500 ∷ 7500 ∷ 0 ∷ 0 ∷ 0 ∷ 0 ∷ 625 ∷ 1944 ∷ 0 ∷ 0 ∷ 0 ∷ 0 ∷ 278 ∷ 890 ∷ 1729 ∷ 2955 ∷ 0 ∷ 0 ∷ 157 ∷ 477 ∷ 964 ∷ 1622
    ∷ 0 ∷ 0 ∷ 100 ∷ 303 ∷ 611 ∷ 1031 ∷ 0 ∷ 0 ∷ 71 ∷ 211 ∷ 425 ∷ 711 ∷ 0 ∷ 0 ∷ 52 ∷ 155 ∷ 312 ∷ 521 ∷ 0 ∷ 0 ∷ 40 ∷ 120 ∷ 239 ∷ 399 ∷ []

-- at each degree that takes so many pieces
abbrev fine : (m d : ℕ) → Bool
fine m d = cond (degree_pieces d m) (eqb (get_or gaps (6 * (m - 1) + d) 0) (gap_of m d)) true

gaps_tested : T (every_below 8 (λ n. every_below 6 (fine (suc n))))
unfolding table rows_of gap_of largest_of
gaps_tested = tt

pub gap_read : (m d : ℕ) → HasRows m → d ≤ most_degree → degree_pieces d m ≡ true → get_or gaps (6 * (m - 1) + d) 0 ≡ gap_of m d
gap_read zero d h l e = absurd (omega (arith, h.least))
gap_read (suc n) d h l e = eqb→eq _ _ (subst (λ b. T (cond b (eqb (get_or gaps (6 * (suc n - 1) + d) 0) (gap_of (suc n) d)) true)) e
    (below 6 (fine (suc n)) (below 8 (λ n. every_below 6 (fine (suc n))) gaps_tested n h.most) d (suc-le-suc l)))
