-- What the code of the spread computes: sums by the degree, and a sum rounded up.
use mathlib.Core.Path.{◌≡◌, refl, sym, ◌∙◌, ap}
use mathlib.Core.Bool.{Bool, true, false, cond}
use mathlib.Core.List.{List, [], ◌∷◌}
use Prim.Native.Nat.{ℕ, suc, ◌+◌, ◌-◌, ◌*◌, ◌/◌, ◌%◌, ◌^◌, ◌≤◌, ◌<◌, zero-le}
use native.Mathlib.Nat.{add-zero, mul-zero, mul_comm, add-mul, mul-add, mul_assoc, mul-le-mul, le_trans, lt_of_le_of_lt}
use native.Mathlib.Nat.{div-div-eq-div-mul, div-le_self, mod-eq_of_lt}
use native.Mathlib.Omega.{arith}
use lib.Dec.{T, eqb, leb, leb→le, lit<, lit≤}
use lib.Pow.{pow_mono, pow_pos}
use lib.IntN.{ℤ, pos, nat_abs}
use lib.ListN.{get_or}
use mir.Syntax.{w64}
use mir.Val.{SFits, to_z}
use mir.Facts.{to_z_pos}
use borrow.Author.Rules.{sfits_of}
use Rattle.integers.proofs.Ranges.{stored}
use Rattle.integers.proofs.Table.{every_below}
use Rattle.curve_halves.specs.Sizes.{Each}
use Rattle.curve_nodes.specs.declared.Curve.{Curve}
use Rattle.curve_nodes.specs.Differences.{difference}
use Rattle.curve_nodes.specs.Bounds.{Sized}
use Rattle.curve_nodes.proofs.Sizes.{difference_under}
use Rattle.bound_rows.proofs.Degrees.{degrees}
use Rattle.bound_rows.specs.Table.{table, rows_of}
use Rattle.bound_coordinate.specs.Inside.{Computed}
use Rattle.bound_coordinate.proofs.Coordinates.{stored_is}
use Rattle.setting.specs.Setting.{HasRows}
use Rattle.bound_rows.specs.Rule.{gap_of}
use Rattle.bound_rows.proofs.Rule.{gap_most}
use Rattle.bound_pieces.specs.declared.Pieces.{Pieces}
use Rattle.bound_pieces.specs.Inside.{gaps_sum, up, times, spread_of, near_gap, far_gap, other_gap, corner_of, sums_of, point_sum, exact_of}
use Rattle.bound_pieces.specs.Inside.{gaps_of, pieces_by, pieces_of}
use Rattle.bound_pieces.proofs.Apart.{up_most, times_most}
use Rattle.bound_pieces.proofs.Corners.{pieces_tested, other_under}

-- ---- a fraction over q × 2^s, rounded up: raised by the denominator less one, then divided down in two steps
abbrev pub unit : (q s : ℕ) → ℕ
unit q s = q * 2 ^ s

pub unit_some : (q s : ℕ) → 1 ≤ q → 0 < unit q s
unit_some q s h = mul-le-mul h (pow_pos s)

module _ (q : ℕ) (few : T (leb q 3750)) {s : ℕ} (l : s ≤ 24) where
  unit_under : unit q s ≤ 3750 * 2 ^ 24
  unit_under = mul-le-mul (leb→le q 3750 few) (pow_mono l)

  -- as the code holds it
  pub unit_is : unit q s % 2 ^ 64 ≡ unit q s
  unit_is = mod-eq_of_lt (lt_of_le_of_lt unit_under (lit< tt))

  -- what rounding up asks of a sum, with one less to be added
  pub rounding_asked : {n B : ℕ} → n ≤ B → (n ≤ B) × (unit q s % 2 ^ 64 - 1 ≡ unit q s - 1) × (s ≤ 24)
  rounding_asked h = (h, ap (λ (q : ℕ). q - 1) unit_is, l)

  module _ (n : ℕ) {more : ℕ} (h : n ≤ 6 * (2 ^ 36 * 2 ^ s)) (e : more ≡ unit q s - 1) where
    pub raised_under : n + more ≤ 7 * 2 ^ 60
    raised_under = omega (arith, h, e, unit_under, pow_mono l)

    pub lowered_fits : SFits w64 (pos ((n + more) / 2 ^ s / q))
    lowered_fits = sfits_of (omega (arith, div-le_self ((n + more) / 2 ^ s) q, div-le_self (n + more) (2 ^ s), raised_under))

    lowered_is : (n + more) / 2 ^ s / q ≡ up n (unit q s)
    lowered_is = ap (λ k. (n + k) / 2 ^ s / q) e ∙ div-div-eq-div-mul (n + (unit q s - 1)) (2 ^ s) q
        ∙ ap (λ k. (n + (unit q s - 1)) / k) (mul_comm (2 ^ s) q)

    pub lowered_computed : {k : ℕ} → up n (unit q s) ≡ k → k ≤ 2 ^ 27 → Computed (2 ^ 27) (pos k) (to_z w64 ((n + more) / 2 ^ s / q))
    lowered_computed i under =
        let is = ap (to_z w64) (lowered_is ∙ i) ∙ to_z_pos w64 (lt_of_le_of_lt under (lit< tt)) in
        record { is = is; size = rw is under }

pub spread_under : (n s : ℕ) → n ≤ 6 * (2 ^ 36 * 2 ^ s) → spread_of n s ≤ 2 ^ 27
unfolding spread_of
spread_under n s h = le_trans (up_most n (unit 3750 s) 109951163 (unit_some 3750 s (lit≤ tt)) (omega (arith, h))) (lit≤ tt)

pub spread_computed : (n : ℕ) {more s : ℕ} → n ≤ 6 * (2 ^ 36 * 2 ^ s) → more ≡ unit 3750 s - 1 → s ≤ 24
    → Computed (2 ^ 27) (pos (spread_of n s)) (to_z w64 ((n + more) / 2 ^ s / 3750))
unfolding spread_of
spread_computed n {s = s} h e l = lowered_computed 3750 tt l n h e refl (spread_under n s h)

-- ---- what goes with the number of pieces
near_tested : T (every_below 8 (λ n. leb (near_gap (suc n)) 7500))
unfolding table rows_of near_gap
near_tested = tt

module _ (m : ℕ) (h : HasRows m) where
  near_most : near_gap m ≤ 7500
  near_most = leb→le (near_gap m) 7500 (pieces_tested (λ m. leb (near_gap m) 7500) near_tested m h)

  far_most : far_gap m ≤ 7500
  unfolding far_gap
  far_most = omega (arith, gap_most m 3 h (lit≤ tt) refl)

  other_most : other_gap m ≤ 7500
  other_most = le_trans (other_under m h) far_most

module _ {p : Pieces} (h : HasRows p.m) (e : p ≡ pieces_of p.m p.sixths) where
  pub single_is : p.single ≡ times p.sixths * gap_of p.m 2
  unfolding pieces_of pieces_by
  single_is = ap (λ q. q.single) e

  pub near_is : p.near ≡ times p.sixths * near_gap p.m
  unfolding pieces_of pieces_by
  near_is = ap (λ q. q.near) e

  pub far_is : p.far ≡ times p.sixths * far_gap p.m
  unfolding pieces_of pieces_by far_gap
  far_is = ap (λ q. q.far) e

  pub less_is : p.less ≡ times p.sixths * (far_gap p.m - other_gap p.m)
  unfolding pieces_of pieces_by far_gap
  less_is = ap (λ q. q.less) e

  pub exact_is : eqb p.less 0 ≡ exact_of p.sixths p.m 3
  unfolding exact_of
  exact_is = ap (λ n. eqb n 0) less_is

  pub quartic_is : p.quartic ≡ gaps_of p.m 4
  unfolding pieces_of pieces_by
  quartic_is = ap (λ q. q.quartic) e

  pub quintic_is : p.quintic ≡ gaps_of p.m 5
  unfolding pieces_of pieces_by
  quintic_is = ap (λ q. q.quintic) e

  pub single_under : p.single ≤ 45000
  single_under = rw single_is (mul-le-mul (times_most p.sixths) (gap_most p.m 2 h (lit≤ tt) refl))

  pub near_under : p.near ≤ 45000
  near_under = rw near_is (mul-le-mul (times_most p.sixths) (near_most p.m h))

  pub far_under : p.far ≤ 45000
  far_under = rw far_is (mul-le-mul (times_most p.sixths) (far_most p.m h))

  pub less_under : p.less ≤ 45000
  less_under =
      let most : far_gap p.m - other_gap p.m ≤ 7500 = omega (arith, far_most p.m h) in
      rw less_is (mul-le-mul (times_most p.sixths) most)

-- a gap times the size of a difference
pub product_under : {G g n : ℕ} → g ≤ G → n ≤ 2 ^ 46 → g * n ≤ G * 2 ^ 46
product_under l h = mul-le-mul l h

-- ---- the sums, by the degree
-- the size of a difference, as the caller holds it
pub size_is : {n : ℕ} {δ r : ℤ} → Computed (2 ^ 46) δ r → n ≡ nat_abs (stored w64 r) → n ≡ nat_abs δ
size_is h e = e ∙ ap nat_abs (stored_is h tt)

module _ (b : Bool) (m : ℕ) {d : ℕ} (cs : List ℤ) where
  pub line_sums : d ≡ 1 → 0 ∷ 0 ∷ [] ≡ sums_of b m d cs
  unfolding gaps_sum corner_of
  line_sums e = rw (e, mul-zero)

  pub quadratic_sums : {g n : ℕ} → d ≡ 2 → g ≡ times b * gap_of m 2 → n ≡ nat_abs (difference cs 0) → g * n ∷ g * n ∷ [] ≡ sums_of b m d cs
  unfolding gaps_sum corner_of
  quadratic_sums e p f = simp (e, p, f, add-zero, mul_assoc)

  pub cubic_sums : {u v x y : ℕ} → d ≡ 3 → u ≡ times b * near_gap m → v ≡ times b * far_gap m → x ≡ nat_abs (difference cs 0)
      → y ≡ nat_abs (difference cs 1) → (u * x + v * y) ∷ (v * x + u * y) ∷ [] ≡ sums_of b m d cs
  unfolding gaps_sum corner_of
  cubic_sums e p q f g = simp (e, p, q, f, g, add-zero, mul-add, mul_assoc)

-- ---- from the sum of a corner to that of its break point: its second gap is less there
module _ (f : ℕ) {far other : ℕ} (h : other ≤ far) (a : ℕ) where
  less_product : far * a ≡ other * a + (far - other) * a
  less_product = let e : far ≡ other + (far - other) = omega (arith, h) in ap (λ n. n * a) e ∙ add-mul other (far - other) a

  less_sum : (n k : ℕ) → n ≡ k + (far - other) * a → f * n ≡ f * k + f * (far - other) * a
  less_sum n k e = ap (λ n. f * n) e ∙ mul-add f k ((far - other) * a) ∙ ap (λ q. f * k + q) (sym (mul_assoc f (far - other) a))

module _ {p : Pieces} (h : HasRows p.m) (e : p ≡ pieces_of p.m p.sixths) (cs : List ℤ) {ns : List ℕ}
    (en : ns ≡ sums_of p.sixths p.m 3 cs) where
  less_of : (last : Bool) → get_or ns (cond last 1 0) 0 ≡ point_sum p.sixths p.m 3 last cs + p.less * nat_abs (difference cs (cond last 0 1))
  unfolding gaps_sum corner_of
  less_of true = rw (en, less_is h e) (less_sum (times p.sixths) (other_under p.m h) (nat_abs (difference cs 0)) _ _
      (omega (arith, less_product (times p.sixths) (other_under p.m h) (nat_abs (difference cs 0)))))
  less_of false = rw (en, less_is h e) (less_sum (times p.sixths) (other_under p.m h) (nat_abs (difference cs 1)) _ _
      (omega (arith, less_product (times p.sixths) (other_under p.m h) (nat_abs (difference cs 1)))))

  -- by the size of the difference, as the code holds it
  pub point_less : (last : Bool) {n : ℕ} {r : ℤ} → Computed (2 ^ 46) (difference cs (cond last 0 1)) r → n ≡ nat_abs (stored w64 r)
      → get_or ns (cond last 1 0) 0 ≡ point_sum p.sixths p.m 3 last cs + p.less * n
  point_less last d i = less_of last ∙ ap (λ n. point_sum p.sixths p.m 3 last cs + p.less * n) (sym (size_is d i))

-- ---- how large the sums of a node are: each gap is at most 7500, and second differences are within 2^22 of a unit
module _ (m : ℕ) (h : HasRows m) (W : ℕ) (cs : List ℤ) (each : (k : ℕ) → nat_abs (difference cs k) ≤ W) where
  sum_under : {a b : ℕ} → a ≤ 7500 → b ≤ 7500 → (d : ℕ) → 1 ≤ d → d ≤ 3 → gaps_sum (corner_of m a b d) 0 cs ≤ 15000 * W
  unfolding gaps_sum corner_of
  sum_under {a} {b} ha hb = degrees (λ d. gaps_sum (corner_of m a b d) 0 cs ≤ 15000 * W) zero-le
      (omega (arith, mul-le-mul (gap_most m 2 h (lit≤ tt) refl) (each 0))) (omega (arith, mul-le-mul ha (each 0), mul-le-mul hb (each 1)))

module _ (b : Bool) {m depth : ℕ} {c : Curve} (h : HasRows m) (s : Sized depth c) (few : c.degree ≤ 3) where
  abbrev B : ℕ
  B = 6 * (2 ^ 36 * 2 ^ (c.degree * depth))

  one_under : (cs : List ℤ) → Each (2 ^ 20 * 2 ^ (c.degree * depth)) cs → {u v : ℕ} → u ≤ 7500 → v ≤ 7500
      → times b * gaps_sum (corner_of m u v c.degree) 0 cs ≤ B
  one_under cs each hu hv = mul-le-mul (times_most b) (le_trans
      (sum_under m h (4 * (2 ^ 20 * 2 ^ (c.degree * depth))) cs (difference_under each) hu hv c.degree s.least few) (omega arith))

  both_under : (cs : List ℤ) {ns : List ℕ} → Each (2 ^ 20 * 2 ^ (c.degree * depth)) cs → ns ≡ sums_of b m c.degree cs
      → (get_or ns 0 0 ≤ B) × (get_or ns 1 0 ≤ B)
  both_under cs each e = rw e (one_under cs each (near_most m h) (far_most m h), one_under cs each (far_most m h) (near_most m h))

  pub point_under : (last : Bool) (cs : List ℤ) → Each (2 ^ 20 * 2 ^ (c.degree * depth)) cs
      → point_sum b m c.degree last cs ≤ 6 * (2 ^ 36 * 2 ^ (c.degree * depth))
  point_under true cs each = one_under cs each (other_most m h) (near_most m h)
  point_under false cs each = one_under cs each (near_most m h) (other_most m h)

  pub sums_under : {xs ys : List ℕ} → xs ≡ sums_of b m c.degree c.x → ys ≡ sums_of b m c.degree c.y
      → ((get_or xs 0 0 ≤ 6 * (2 ^ 36 * 2 ^ (c.degree * depth))) × (get_or xs 1 0 ≤ 6 * (2 ^ 36 * 2 ^ (c.degree * depth))))
      × ((get_or ys 0 0 ≤ 6 * (2 ^ 36 * 2 ^ (c.degree * depth))) × (get_or ys 1 0 ≤ 6 * (2 ^ 36 * 2 ^ (c.degree * depth))))
  sums_under ex ey = (both_under c.x s.x ex, both_under c.y s.y ey)
