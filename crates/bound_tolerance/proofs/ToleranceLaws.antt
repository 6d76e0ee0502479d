-- What the code of the test holds: whether the corners are break points, and the boxes, one break point after the other.
use mathlib.Core.Path.{◌≡◌, refl, sym, ◌∙◌, ap, ap₂, subst}
use mathlib.Core.Bool.{Bool, true, false, cond}
use mathlib.Core.Logic.{⊎_elim}
use mathlib.Core.List.{List}
use Prim.Native.Nat.{ℕ, ◌+◌, ◌-◌, ◌*◌, ◌^◌, ◌≤◌, ◌<◌}
use native.Mathlib.Nat.{eq-or-lt_of_le, not-suc-le-zero}
use native.Mathlib.Omega.{arith}
use lib.Dec.{T, eqb}
use lib.IntN.{ℤ, pos, ◌-ℤ◌, ◌+ℤ◌, ◌*ℤ◌}
use lib.Signed.{lt_z}
use borrow.Author.Tests.{lt-ltb, le-ltb}
use mir.Syntax.{w64}
use mir.Val.{SFits}
use Rattle.setting.specs.Setting.{Setting}
use Rattle.integers.specs.Squares.{squared}
use Rattle.integers.proofs.Order.{lt_or_ge}
use Rattle.integers.proofs.Ranges.{lt_no, stored}
use Rattle.integers.proofs.Machine.{fits!, is!, flag! }
use Rattle.curve_nodes.specs.declared.Curve.{Curve}
use Rattle.curve_nodes.specs.Bounds.{Sized}
use Rattle.bound_coordinate.specs.Inside.{Small, Computed}
use Rattle.bound_coordinate.proofs.Coordinates.{bounded, small! }
use Rattle.bound_coordinate.specs.declared.terms.Terms.{Terms}
use Rattle.bound_coordinate.specs.Terms.{terms_of, low_by, high_by}
use Rattle.bound_coordinate.specs.declared.higher.HigherTerms.{HigherTerms}
use Rattle.bound_coordinate.specs.HigherTerms.{higher_of, higher_low, higher_high}
use Rattle.bound_coordinate.proofs.LowHigh.{low_is, high_is, higher_low_is, higher_high_is}
use Rattle.bound_enclosure.specs.AtDepth.{low_of, high_of}
use Rattle.bound_pieces.specs.declared.Pieces.{Pieces}
use Rattle.bound_pieces.specs.Inside.{times, far_gap, other_gap, exact_of, setting_of, PiecesReady, across_by, higher_across_by}
use Rattle.bound_node.specs.Boxes.{box_at, meets}
use Rattle.bound_pieces.proofs.Boxes.{low_takes, many_takes}
use Rattle.bound_pieces.proofs.PiecesLaws.{divisor_is}
use Rattle.bound_node.proofs.Narrow.{diagonal, longer_wide, wide_fails, narrow_meets}

-- ---- by the degree
module _ (sixths : Bool) (m : ℕ) {d : ℕ} where
  pub exact_below : d < 3 → true ≡ exact_of sixths m d
  unfolding exact_of
  exact_below h = ap (λ b. cond b true (eqb (times sixths * (far_gap m - other_gap m)) 0)) (sym (lt-ltb _ _ h))

  pub exact_cubic : 3 ≤ d → exact_of sixths m 3 ≡ exact_of sixths m d
  unfolding exact_of
  exact_cubic h = ap (λ b. cond b true (eqb (times sixths * (far_gap m - other_gap m)) 0)) (sym (le-ltb _ _ h))

  pub inexact_cubic : exact_of sixths m d ≡ false → d ≤ 3 → d ≡ 3
  inexact_cubic e few = ⊎_elim (λ l. absurd (subst T (exact_below l ∙ e) tt)) (λ l. omega (arith, l, few)) (lt_or_ge d 3)

-- ---- the boxes, one break point after the other: none before i is too long
pub record Passed (m : ℕ) (q : ℤ) (across : ℕ → ℤ) (i : ℕ) : Type 0 where
  pub most : i ≤ m + 1
  pub narrow : (j : ℕ) → j < i → lt_z q (across j) ≡ false

module _ {m : ℕ} {q : ℤ} {across : ℕ → ℤ} where
  pub passed_none : Passed m q across 0
  passed_none = record { most = omega arith; narrow = λ j l. absurd (not-suc-le-zero l) }

  -- one more, as the code has tested it
  pub passed_next : {i : ℕ} {r : Bool} → Passed m q across i → i ≤ m → r ≡ lt_z q (across i) → r ≡ false → Passed m q across (i + 1)
  passed_next {i} p inside is not_wide = record {
    most = omega arith;
    narrow = λ j l. ⊎_elim (λ e. rw e (sym is ∙ not_wide)) (λ k. p.narrow j k) (eq-or-lt_of_le (last j l));
  }
    where
      last : (j : ℕ) → j < i + 1 → j ≤ i
      last j l = omega arith

-- the code's squares of the diagonals are those of the boxes; q is the square of the tolerance, as the code holds it
pub record Diagonals (σ : Setting) (depth : ℕ) (c : Curve) (tolerance : ℤ) (across : ℕ → ℤ) (q : ℤ) : Type 0 where
  pub each : (i : ℕ) → i ≤ σ.pieces → across i ≡ diagonal σ depth c i
  pub square : q ≡ squared tolerance

module _ {σ : Setting} {depth : ℕ} {c : Curve} {tolerance : ℤ} {across : ℕ → ℤ} {q : ℤ} (h : Diagonals σ depth c tolerance across q) where
  pub box_fails : (i : ℕ) {r : Bool} → i ≤ σ.pieces → r ≡ lt_z q (across i) → r ≡ true → false ≡ meets σ tolerance depth c
  unfolding box_at
  box_fails i hi is wide = sym (wide_fails σ tolerance depth c i hi
      (longer_wide tolerance (box_at σ depth c i) (ap₂ lt_z (sym h.square) (sym (h.each i hi)) ∙ sym is ∙ wide)))

  pub boxes_pass : {i : ℕ} → Passed σ.pieces q across i → σ.pieces < i → true ≡ meets σ tolerance depth c
  boxes_pass p all = sym (narrow_meets σ tolerance depth c (record {
    each = λ i hi. lt_no (ap₂ lt_z (sym h.square) (sym (h.each i hi)) ∙ p.narrow i (omega arith));
  }))

-- ---- the square of a tolerance, as the code holds it
module _ {t : ℤ} (small : Small (2 ^ 27) t) where
  pub square_fits : SFits w64 (stored w64 t *ℤ stored w64 t)
  square_fits = fits! (search (small, bounded) depth 40) tt

  pub square_is : stored w64 (stored w64 t *ℤ stored w64 t) ≡ squared t
  square_is = is! (search (small, bounded) depth 40) tt

-- ---- the lows and the highs of a box, as the code holds them
module _ {a b x y : ℤ} (low : Computed (2 ^ 28) a x) (high : Computed (2 ^ 28) b y) where
  pub apart_fits : SFits w64 (stored w64 y -ℤ stored w64 x)
  apart_fits = fits! (search (low, high, bounded) depth 40) tt

  pub apart_small : Small (2 ^ 29) (stored w64 (stored w64 y -ℤ stored w64 x))
  apart_small = small! (search (low, high, bounded) depth 40) tt

  -- with those of the other coordinate, against a square
  pub longer_held : {c d u v s : ℤ} → Computed (2 ^ 28) c u → Computed (2 ^ 28) d v → SFits w64 s
      → lt_z (stored w64 s) (squared (stored w64 (stored w64 y -ℤ stored w64 x)) +ℤ squared (stored w64 (stored w64 v -ℤ stored w64 u)))
      ≡ lt_z s (squared (b -ℤ a) +ℤ squared (d -ℤ c))
  longer_held below above fits = sym (flag! refl (search (low, high, below, above, fits, bounded) depth 40) tt)

-- ---- the sides of a box, rounded up, and one more
module _ {a x : ℤ} (side : Computed (2 ^ 27) a x) where
  pub side_small : Small (2 ^ 29) (stored w64 x)
  side_small = small! (search (side, bounded) depth 40) tt

  pub more_fits : SFits w64 (stored w64 x +ℤ pos 1)
  more_fits = fits! (search (side, bounded) depth 40) tt

  pub more_small : Small (2 ^ 29) (stored w64 (stored w64 x +ℤ pos 1))
  more_small = small! (search (side, bounded) depth 40) tt

module _ {p : Pieces} {rows : List ℤ} (r : PiecesReady p rows) {depth : ℕ} {c : Curve} (s : Sized depth c) where
  abbrev σ : Setting
  σ = setting_of p

  abbrev shift : ℕ
  shift = c.degree * depth

  abbrev Across : List ℤ → ℤ → ℕ → Type 0
  Across cs z i = z ≡ squared (high_of σ c.degree depth cs i -ℤ low_of σ c.degree depth cs i)

  -- ---- degrees 1 to 3
  module _ (few : c.degree ≤ 3) {x y : Terms} (ex : x ≡ terms_of p.m c.degree c.x) (ey : y ≡ terms_of p.m c.degree c.y) where
    side : {t : Terms} (cs : List ℤ) → t ≡ terms_of p.m c.degree cs → (i : ℕ) → i ≤ p.m
        → Across cs (squared (high_by p.divisor shift rows t i -ℤ low_by p.divisor shift rows t i)) i
    side cs e i hi =
        let takes = low_takes c.degree p.m few in
        ap₂ (λ q t. squared (high_by q shift rows t i -ℤ low_by q shift rows t i)) (divisor_is r.has r.is) e
        ∙ ap₂ (λ a b. squared (a -ℤ b)) (high_is σ r.has s.most takes cs hi depth r.copied few)
        (low_is σ r.has s.most takes cs hi depth r.copied few)

    pub across_is : (i : ℕ) → i ≤ p.m → across_by p.divisor (c.degree * depth) rows x y i ≡ diagonal (setting_of p) depth c i
    across_is i hi = ap₂ ◌+ℤ◌ (side c.x ex i hi) (side c.y ey i hi)

  -- ---- degrees 4 and 5
  module _ (many : 3 < c.degree) (l : 3 ≤ p.m) (units : p.sixths ≡ false) {x y : HigherTerms} (ex : x ≡ higher_of p.m c.degree (c.degree * depth) c.x)
      (ey : y ≡ higher_of p.m c.degree (c.degree * depth) c.y) where
    higher_side : {t : HigherTerms} (cs : List ℤ) → t ≡ higher_of p.m c.degree (c.degree * depth) cs → (i : ℕ) → i ≤ p.m
        → Across cs (squared (higher_high p.m shift rows t i -ℤ higher_low p.m shift rows t i)) i
    higher_side cs e i hi =
        let takes = many_takes c.degree p.m l in
        ap (λ t. squared (higher_high p.m shift rows t i -ℤ higher_low p.m shift rows t i)) e
        ∙ ap₂ (λ a b. squared (a -ℤ b)) (higher_high_is σ r.has s.most takes cs hi depth r.copied many units)
        (higher_low_is σ r.has s.most takes cs hi depth r.copied many units)

    pub higher_across_is : (i : ℕ) → i ≤ p.m → higher_across_by p.m (c.degree * depth) rows x y i ≡ diagonal (setting_of p) depth c i
    higher_across_is i hi = ap₂ ◌+ℤ◌ (higher_side c.x ex i hi) (higher_side c.y ey i hi)
