-- The corners of the gaps: no break point is wider than both corners are, and a node that is too wide at the break point of a corner does not meet
-- the tolerance. What the rows of one to eight pieces give for it is tested by computing.
use mathlib.Core.Path.{◌≡◌, refl, sym, ap, subst}
use mathlib.Core.Bool.{Bool, true, false, cond, ◌&&◌}
use mathlib.Core.Logic.{◌⊎◌, inl, inr, ⊎_elim}
use mathlib.Core.List.{List, [], ◌∷◌}
use Prim.Native.Nat.{ℕ, zero, suc, ◌+◌, ◌-◌, ◌*◌, ◌≤◌, ◌<◌, max, suc-le-suc}
use native.Mathlib.Nat.{le_refl, le_of_lt, mul-le-mul, max-eq_left, max-eq_right}
use native.Mathlib.Omega.{arith}
use lib.Dec.{T, leb, eqb→eq, leb→le}
use lib.IntN.{ℤ, pos, nat_abs, ◌+ℤ◌, ◌-ℤ◌}
use lib.ListN.{get_or}
use lib.Signed.{lt_z, ◌≤ℤ◌, clash_ℤ}
use Rattle.setting.specs.Setting.{Setting, HasRows, most_degree, degree_pieces}
use Rattle.integers.specs.Squares.{squared}
use Rattle.integers.proofs.Ring.{sides}
use Rattle.integers.proofs.Order.{natural, gap, le_by, lt_or_ge, pos_le, le_pos, ≤ℤ_trans, +ℤ_mono, ◌+₀◌, ◌×₀◌}
use Rattle.integers.proofs.Ranges.{lt_yes, lt_no}
use Rattle.integers.proofs.Table.{and_left, and_right, every_below, below}
use Rattle.curve_nodes.specs.declared.Curve.{Curve}
use Rattle.curve_nodes.specs.Differences.{difference, largest_of}
use Rattle.curve_nodes.specs.Bounds.{Sized}
use Rattle.bound_rows.specs.Table.{table, rows_of}
use Rattle.bound_rows.specs.Rule.{gap_of}
use Rattle.bound_rows.proofs.Degrees.{degrees}
use Rattle.bound_enclosure.specs.AtDepth.{high_of, low_of}
use Rattle.bound_pieces.specs.Inside.{gaps_at, gaps_sum, times, spread_of, gap_at, widest_at, near_gap, far_gap, corner_of}
use Rattle.bound_pieces.specs.Inside.{near_corner, far_corner, sums_of, other_gap, near_point, far_point, point_sum, exact_of}
use Rattle.bound_node.specs.Boxes.{meets}
use Rattle.bound_pieces.proofs.Boxes.{low_takes}
use Rattle.bound_node.proofs.Narrow.{refuted, meets_narrow, narrow_meets}
use Rattle.bound_pieces.proofs.Apart.{under, under_sum, square_least, square_most}

-- ---- what holds of one to eight pieces, by a computed test
pub pieces_tested : (f : ℕ → Bool) → T (every_below 8 (λ n. f (suc n))) → (m : ℕ) → HasRows m → T (f m)
pieces_tested f t zero h = absurd (omega (arith, h.least))
pieces_tested f t (suc n) h = below 8 (λ n. f (suc n)) t n h.most

-- and of three to eight
pub many_tested : (f : ℕ → Bool) → T (every_below 6 (λ n. f (suc (suc (suc n))))) → (m : ℕ) → HasRows m → 3 ≤ m → T (f m)
many_tested f t zero h l = absurd (omega arith)
many_tested f t (suc zero) h l = absurd (omega arith)
many_tested f t (suc (suc zero)) h l = absurd (omega arith)
many_tested f t (suc (suc (suc n))) h l = below 6 (λ n. f (suc (suc (suc n)))) t n (omega (arith, h.most))

-- a test of degrees 4 and 5
pub both_degrees : (f : ℕ → Bool) → T (every_below 2 (λ e. f (suc (suc (suc (suc e)))))) → (d : ℕ) → 3 < d → d ≤ most_degree → T (f d)
both_degrees f t zero a b = absurd (omega arith)
both_degrees f t (suc zero) a b = absurd (omega arith)
both_degrees f t (suc (suc zero)) a b = absurd (omega arith)
both_degrees f t (suc (suc (suc zero))) a b = absurd (omega arith)
both_degrees f t (suc (suc (suc (suc e)))) a b = below 2 (λ e. f (suc (suc (suc (suc e))))) t e (omega arith)

-- the gaps at break point i: each at most A, and both at most G; at degree 2 at most G
abbrev gaps_fine : (m i : ℕ) → Bool
gaps_fine m i =
    leb (gap_at m 3 0 i) (near_gap m) && (leb (gap_at m 3 1 i) (near_gap m)
    && (leb (gap_at m 3 0 i + gap_at m 3 1 i) (near_gap m + far_gap m) && leb (gap_at m 2 0 i) (gap_of m 2)))

gaps_tested : T (every_below 8 (λ n. every_below (suc (suc n)) (gaps_fine (suc n))))
unfolding table rows_of gap_of largest_of near_gap far_gap
gaps_tested = tt

-- the break point of the near corner; that of the far corner stands as far from the other end
abbrev corner_at : (m d : ℕ) → ℕ
corner_at m d = cond (leb d 2) 1 (widest_at m)

abbrev points_fine : (m d : ℕ) → Bool
points_fine m d = leb (corner_at m d) m
    && (under (near_point m d) (gaps_at (rows_of m d) (corner_at m d)) && under (far_point m d) (gaps_at (rows_of m d) (m - corner_at m d)))

points_tested : T (every_below 8 (λ n. every_below 4 (points_fine (suc n))))
unfolding table rows_of near_gap other_gap corner_of gap_of largest_of
points_tested = tt

other_tested : T (every_below 8 (λ n. leb (other_gap (suc n)) (far_gap (suc n))))
unfolding table rows_of gap_of largest_of near_gap far_gap other_gap
other_tested = tt

-- the other gap there is at most that of the corner; where it is as large, the corner is a break point
module _ (m : ℕ) (h : HasRows m) where
  pub other_under : other_gap m ≤ far_gap m
  other_under = leb→le (other_gap m) (far_gap m) (pieces_tested (λ m. leb (other_gap m) (far_gap m)) other_tested m h)

  none_less : (b : Bool) (n : ℕ) → times b * n ≡ 0 → n ≡ 0
  none_less true n e = omega (arith, e)
  none_less false n e = omega (arith, e)

  exact_gap : (b : Bool) → exact_of b m 3 ≡ true → far_gap m ≡ other_gap m
  unfolding exact_of
  exact_gap b e =
      let none = none_less b (far_gap m - other_gap m) (eqb→eq (times b * (far_gap m - other_gap m)) 0 (subst T (sym e) tt)) in
      omega (arith, other_under, none)

  exact_corners : (b : Bool) (d : ℕ) → 1 ≤ d → d ≤ 3 → exact_of b m d ≡ true → (near_corner m d ≡ near_point m d) × (far_corner m d ≡ far_point m d)
  unfolding corner_of
  exact_corners b = degrees (λ d. exact_of b m d ≡ true → (near_corner m d ≡ near_point m d) × (far_corner m d ≡ far_point m d))
      (λ e. (refl, refl)) (λ e. (refl, refl))
      (λ e. let g = exact_gap b e in (ap (λ b. near_gap m ∷ b ∷ []) g, ap (λ a. a ∷ near_gap m ∷ []) g))

-- ---- the sum of gap × difference at a break point is at most that of one of the corners
module _ (A B g h : ℕ) (first : g ≤ A) (second : h ≤ A) (both : g + h ≤ A + B) where
  abbrev atoms : (x y : ℕ) → List ℤ
  atoms x y = pos A ∷ pos B ∷ pos g ∷ pos h ∷ pos x ∷ pos y ∷ []

  near_most : (x y : ℕ) → y ≤ x → g * x + (h * y + 0) ≤ A * x + (B * y + 0)
  near_most x y l = le_pos (le_by (atoms x y) (gap (pos_le first) ×₀ gap (pos_le l) +₀ gap (pos_le both) ×₀ natural y) (search sides depth 40) refl)

  far_most : (x y : ℕ) → x ≤ y → g * x + (h * y + 0) ≤ B * x + (A * y + 0)
  far_most x y l = le_pos (le_by (atoms x y) (gap (pos_le second) ×₀ gap (pos_le l) +₀ gap (pos_le both) ×₀ natural x) (search sides depth 40) refl)

  one_most : (x y : ℕ) → g * x + (h * y + 0) ≤ max (A * x + (B * y + 0)) (B * x + (A * y + 0))
  one_most x y = ⊎_elim (λ l. omega (arith, far_most x y (le_of_lt l))) (λ l. omega (arith, near_most x y l)) (lt_or_ge x y)

module _ (m : ℕ) (h : HasRows m) (cs : List ℤ) (i : ℕ) (hi : i ≤ m) where
  abbrev Cornered : ℕ → Type 0
  Cornered d = gaps_sum (gaps_at (rows_of m d) i) 0 cs ≤ max (gaps_sum (near_corner m d) 0 cs) (gaps_sum (far_corner m d) 0 cs)

  fine : T (gaps_fine m i)
  fine = below (suc m) (gaps_fine m) (pieces_tested (λ m. every_below (suc m) (gaps_fine m)) gaps_tested m h) i (suc-le-suc hi)

  abbrev p : Bool
  p = leb (gap_at m 3 0 i) (near_gap m)

  abbrev q : Bool
  q = leb (gap_at m 3 1 i) (near_gap m)

  abbrev r : Bool
  r = leb (gap_at m 3 0 i + gap_at m 3 1 i) (near_gap m + far_gap m)

  abbrev s : Bool
  s = leb (gap_at m 2 0 i) (gap_of m 2)

  corner_sum : (d : ℕ) → 1 ≤ d → d ≤ 3 → Cornered d
  unfolding gaps_sum corner_of rows_of
  corner_sum = degrees Cornered (le_refl 0) quadratic cubic
    where
      others : T (q && (r && s))
      others = and_right p (q && (r && s)) fine

      quadratic : Cornered 2
      quadratic =
          let l = leb→le (gap_at m 2 0 i) (gap_of m 2) (and_right r s (and_right q (r && s) others)) in
          omega (arith, mul-le-mul l (le_refl (nat_abs (difference cs 0))))

      cubic : Cornered 3
      cubic = one_most (near_gap m) (far_gap m) (gap_at m 3 0 i) (gap_at m 3 1 i)
          (leb→le (gap_at m 3 0 i) (near_gap m) (and_left p (q && (r && s)) fine))
          (leb→le (gap_at m 3 1 i) (near_gap m) (and_left q (r && s) others))
          (leb→le (gap_at m 3 0 i + gap_at m 3 1 i) (near_gap m + far_gap m) (and_left r s (and_right q (r && s) others)))
          (nat_abs (difference cs 0)) (nat_abs (difference cs 1))

-- all of it multiplied
times_max : (f a b : ℕ) {g : ℕ} → g ≤ max a b → f * g ≤ max (f * a) (f * b)
times_max f a b {g} h = ⊎_elim
    (λ l. let k : g ≤ b = omega (arith, l, h) in omega (arith, mul-le-mul (le_refl f) k))
    (λ l. let k : g ≤ a = omega (arith, l, h) in omega (arith, mul-le-mul (le_refl f) k))
    (lt_or_ge a b)

-- ---- a node, by the sums of its corners
-- the square of the spread of a sum, and of one more
abbrev pub square_of : (n s : ℕ) → ℤ
square_of n s = squared (pos (spread_of n s))

abbrev pub square_above : (n s : ℕ) → ℤ
square_above n s = squared (pos (spread_of n s) +ℤ pos 1)

-- sums that are at least those of every break point: where they are not too wide, the node meets the tolerance
module _ (σ : Setting) (rows : HasRows σ.pieces) (tolerance : ℤ) {depth : ℕ} {c : Curve} (s : Sized depth c)
    (takes : degree_pieces c.degree σ.pieces ≡ true) where
  abbrev Covers : List ℤ → ℕ → Type 0
  Covers cs n = (i : ℕ) → i ≤ σ.pieces → times σ.sixths * gaps_sum (gaps_at (rows_of σ.pieces c.degree) i) 0 cs ≤ n

  under_all : (cs : List ℤ) (n : ℕ) → Covers cs n → (i : ℕ) → i ≤ σ.pieces
      → squared (high_of σ c.degree depth cs i -ℤ low_of σ c.degree depth cs i) ≤ℤ square_above n (c.degree * depth)
  under_all cs n h i hi = square_most σ rows c.degree depth cs s.least s.most takes n i hi (h i hi)

  pub covered_meets : (w h : ℕ) → Covers c.x w → Covers c.y h
      → lt_z (squared tolerance) (square_above w (c.degree * depth) +ℤ square_above h (c.degree * depth)) ≡ false → meets σ tolerance depth c ≡ true
  covered_meets w h hx hy e = narrow_meets σ tolerance depth c (record {
    each = λ i hi. ≤ℤ_trans (+ℤ_mono (under_all c.x w hx i hi) (under_all c.y h hy i hi)) (lt_no e);
  })

  -- and sums that are at most those of one of them: too wide by them, the node does not
  pub reached_fails : (w h i : ℕ) → i ≤ σ.pieces
      → w ≤ times σ.sixths * gaps_sum (gaps_at (rows_of σ.pieces c.degree) i) 0 c.x
      → h ≤ times σ.sixths * gaps_sum (gaps_at (rows_of σ.pieces c.degree) i) 0 c.y
      → lt_z (squared tolerance) (square_of w (c.degree * depth) +ℤ square_of h (c.degree * depth)) ≡ true → meets σ tolerance depth c ≡ false
  reached_fails w h i hi hw hh e = refuted (λ m. clash_ℤ (lt_yes e) (≤ℤ_trans
      (+ℤ_mono (square_least σ rows c.degree depth c.x s.least s.most takes w i hi hw)
      (square_least σ rows c.degree depth c.y s.least s.most takes h i hi hh)) ((meets_narrow σ tolerance depth c m).each i hi)))

module _ (σ : Setting) (rows : HasRows σ.pieces) (tolerance : ℤ) {depth : ℕ} {c : Curve} (s : Sized depth c) (few : c.degree ≤ 3)
    {xs ys : List ℕ} (ex : xs ≡ sums_of σ.sixths σ.pieces c.degree c.x) (ey : ys ≡ sums_of σ.sixths σ.pieces c.degree c.y) where
  takes : degree_pieces c.degree σ.pieces ≡ true
  takes = low_takes c.degree σ.pieces few

  abbrev shift : ℕ
  shift = c.degree * depth

  abbrev f : ℕ
  f = times σ.sixths

  -- no break point is wider than both corners are
  under_corners : (cs : List ℤ) {ns : List ℕ} → ns ≡ sums_of σ.sixths σ.pieces c.degree cs → {n : ℕ} → n ≡ max (get_or ns 0 0) (get_or ns 1 0)
      → (i : ℕ) → i ≤ σ.pieces → times σ.sixths * gaps_sum (gaps_at (rows_of σ.pieces c.degree) i) 0 cs ≤ n
  under_corners cs e en i hi = rw (en, e) (times_max (times σ.sixths) (gaps_sum (near_corner σ.pieces c.degree) 0 cs) (gaps_sum (far_corner σ.pieces c.degree) 0 cs)
      (corner_sum σ.pieces rows cs i hi c.degree s.least few))

  pub close_meets : {w h : ℕ} → w ≡ max (get_or xs 0 0) (get_or xs 1 0) → h ≡ max (get_or ys 0 0) (get_or ys 1 0)
      → lt_z (squared tolerance) (square_above w (c.degree * depth) +ℤ square_above h (c.degree * depth)) ≡ false → meets σ tolerance depth c ≡ true
  close_meets {w} {h} ew eh = covered_meets σ rows tolerance s takes w h (under_corners c.x ex ew) (under_corners c.y ey eh)

  -- gaps that are at most those of a break point: too wide by them, the node is too wide there
  gaps_fail : (gs : List ℕ) (i : ℕ) → i ≤ σ.pieces → T (under gs (gaps_at (rows_of σ.pieces c.degree) i))
      → lt_z (squared tolerance) (square_of (f * gaps_sum gs 0 c.x) shift +ℤ square_of (f * gaps_sum gs 0 c.y) shift) ≡ true
      → meets σ tolerance depth c ≡ false
  gaps_fail gs i hi t = reached_fails σ rows tolerance s takes (f * gaps_sum gs 0 c.x) (f * gaps_sum gs 0 c.y) i hi
      (mul-le-mul (le_refl f) (under_sum c.x gs (gaps_at (rows_of σ.pieces c.degree) i) 0 t))
      (mul-le-mul (le_refl f) (under_sum c.y gs (gaps_at (rows_of σ.pieces c.degree) i) 0 t))

  -- at the break points of the corners
  abbrev at : ℕ
  at = corner_at σ.pieces c.degree

  abbrev one : Bool
  one = under (near_point σ.pieces c.degree) (gaps_at (rows_of σ.pieces c.degree) at)

  abbrev other : Bool
  other = under (far_point σ.pieces c.degree) (gaps_at (rows_of σ.pieces c.degree) (σ.pieces - at))

  passed : T (leb at σ.pieces && (one && other))
  passed = below 4 (points_fine σ.pieces)
      (pieces_tested (λ m. every_below 4 (points_fine m)) points_tested σ.pieces rows) c.degree (suc-le-suc few)

  inside : at ≤ σ.pieces
  inside = leb→le at σ.pieces (and_left (leb at σ.pieces) (one && other) passed)

  both : T (one && other)
  both = and_right (leb at σ.pieces) (one && other) passed

  pub point_fails : (last : Bool) → lt_z (squared tolerance)
      (square_of (point_sum σ.sixths σ.pieces c.degree last c.x) (c.degree * depth)
      +ℤ square_of (point_sum σ.sixths σ.pieces c.degree last c.y) (c.degree * depth)) ≡ true → meets σ tolerance depth c ≡ false
  point_fails true e = gaps_fail (far_point σ.pieces c.degree) (σ.pieces - at) (omega arith) (and_right one other both) e
  point_fails false e = gaps_fail (near_point σ.pieces c.degree) at inside (and_left one other both) e

  -- where the corners are break points: the one where x is the wider, and n is the sum in y there
  pub wider_fails : exact_of σ.sixths σ.pieces c.degree ≡ true → {w n : ℕ} → w ≡ max (get_or xs 0 0) (get_or xs 1 0)
      → ((get_or xs 0 0 < get_or xs 1 0) × (n ≡ get_or ys 1 0)) ⊎ ((get_or xs 1 0 ≤ get_or xs 0 0) × (n ≡ get_or ys 0 0))
      → lt_z (squared tolerance) (square_of w (c.degree * depth) +ℤ square_of n (c.degree * depth)) ≡ true → meets σ tolerance depth c ≡ false
  wider_fails exact ew (inl (l, en)) e = point_fails true
      (rw (ew, max-eq_right (le_of_lt l), en, ex, ey, (exact_corners σ.pieces rows σ.sixths c.degree s.least few exact).1) at e)
  wider_fails exact ew (inr (l, en)) e = point_fails false
      (rw (ew, max-eq_left l, en, ex, ey, (exact_corners σ.pieces rows σ.sixths c.degree s.least few exact).0) at e)
