-- What the gaps tell of a node of degree 4 or 5.
use mathlib.Core.Path.{◌≡◌, refl, sym, ◌∙◌, ap}
use mathlib.Core.Bool.{Bool, true, false, not}
use mathlib.Core.List.{List, [], ◌∷◌}
use Prim.Native.Nat.{ℕ, ◌*◌, ◌^◌, ◌≤◌, zero-le}
use native.Mathlib.Nat.{le_refl, le_trans, mul-le-mul}
use native.Mathlib.Omega.{arith}
use lib.Dec.{lit≤}
use lib.ListN.{get_or}
use lib.IntN.{ℤ, ◌*ℤ◌}
use lib.Signed.{lt_z}
use mir.Syntax.{w64}
use Rattle.setting.specs.Setting.{degree_pieces}
use Rattle.integers.proofs.Ranges.{stored, lt_yes}
use Rattle.integers.proofs.Machine.{flag! }
use Rattle.bound_coordinate.specs.Inside.{Small}
use Rattle.bound_coordinate.proofs.Coordinates.{bounded}
use Rattle.bound_rows.specs.Table.{rows_of}
use Rattle.bound_pieces.specs.Inside.{setting_of, gaps_at, gaps_sum}
use Rattle.bound_node.specs.Boxes.{meets}
use Rattle.bound_tolerance_higher.specs.Spreads.{most_of, end_of, squares_of, squares_above, SpreadAt}
use Rattle.bound_pieces.proofs.Boxes.{many_takes, higher_boundable_x, higher_boundable_y}
use Rattle.bound_pieces.proofs.Apart.{below_meets, above_meets, tolerance_small}
use Rattle.bound_pieces.proofs.Corners.{covered_meets, reached_fails}
use Rattle.bound_tolerance.proofs.ToleranceLaws.{square_fits, square_is}
use Rattle.bound_tolerance_higher.proofs.HigherLaws.{most_covers_times, times_reaches, first_reaches, last_reaches, spread, spread_at}
use Rattle.bound_tolerance_higher.proofs.verdict_of.Goals as goal
use Rattle.bound_tolerance_higher.proofs.verdict_of.Goals.{After-sizes_of-y, Else-t-gt134217728, Start}
use Rattle.bound_tolerance_higher.proofs.verdict_of.Goals.{then-t-ltminus134217728-via-then-t-ltminus134217728}
use Rattle.bound_tolerance_higher.proofs.verdict_of.Goals.{then-t-ltminus134217728-via-else-t-ltminus134217728+then-t-gt134217728}

-- ---- what the code knows of the tolerance, once it is tested
small : (c : Else-t-gt134217728) → Small (2 ^ 27) c.args.t
small c =
    let t = c.ranges.t in
    tolerance_small (flag! c.if-t-ltminus134217728.false (search (t, bounded) depth 40) tt) (flag! c.if-t-gt134217728.false (search (t, bounded) depth 40) tt)

shift_under : {d k : ℕ} → d ≤ 5 → k ≤ 4 → d * k ≤ 24
shift_under a b = le_trans (mul-le-mul a b) (lit≤ tt)

takes : (s : Start) → degree_pieces s.args.curve.degree s.args.pieces.m ≡ true
takes s = many_takes s.args.curve.degree s.args.pieces.m s.requires.2

pub returns-then-t-ltminus134217728 : goal.returns-then-t-ltminus134217728
returns-then-t-ltminus134217728 c =
    let a = c.args in
    let p = c.requires in
    let enough = takes (goal.at.returns-then-t-ltminus134217728 c).Start in
    elim c.then-t-ltminus134217728.branch [
      | then-t-ltminus134217728-via-then-t-ltminus134217728 w ↦ below_meets (setting_of a.pieces) p.0 a.t a.depth a.curve p.3 enough
          (lt_yes (flag! w.if-t-ltminus134217728.true (search (c.ranges.t, bounded) depth 40) tt))
      | then-t-ltminus134217728-via-else-t-ltminus134217728+then-t-gt134217728 w ↦ above_meets (setting_of a.pieces) p.0 a.t a.depth a.curve p.3 enough
          (lt_yes (flag! w.if-t-gt134217728.true (search (c.ranges.t, bounded) depth 40) tt))
    ]

pub gaps_for-gaps-requires : goal.gaps_for-gaps-requires
gaps_for-gaps-requires c = let p = c.requires in (p.0, p.1, p.4, p.3.most)

pub sizes_of-x-requires : goal.sizes_of-x-requires
sizes_of-x-requires c = let p = c.requires in higher_boundable_x p.3 p.4 p.5

pub sizes_of-y-requires : goal.sizes_of-y-requires
sizes_of-y-requires c = let p = c.requires in higher_boundable_y p.3 p.4 p.5

pub is_narrow-requires : goal.is_narrow-requires
is_narrow-requires c =
    let a = c.args in
    let p = c.requires in
    let d = a.curve.degree in
    let e = c.gaps_for-gaps.ensures in (
      spread a.pieces.m d (d * a.depth) p.0 p.2 p.4 p.3.most p.3.x (shift_under c.requires.3.most c.requires.5) e c.sizes_of-x.ensures,
      spread a.pieces.m d (d * a.depth) p.0 p.2 p.4 p.3.most p.3.y (shift_under c.requires.3.most c.requires.5) e c.sizes_of-y.ensures,
    )

opposite : (b : Bool) → not b ≡ true → b ≡ false
opposite true e = sym e
opposite false e = refl

pub returns-then-is_narrow : goal.returns-then-is_narrow
returns-then-is_narrow c =
    let a = c.args in
    let p = c.requires in
    let e = c.gaps_for-gaps.ensures in
    let w = 6 * most_of c.gaps_for-gaps.result c.sizes_of-x.result in
    let h = 6 * most_of c.gaps_for-gaps.result c.sizes_of-y.result in
    covered_meets (setting_of a.pieces) p.0 a.t p.3 (takes (goal.at.returns-then-is_narrow c).Start) w h
    (most_covers_times a.pieces.m p.0 p.2 a.curve.x p.4 p.3.most e c.sizes_of-x.ensures p.6)
    (most_covers_times a.pieces.m p.0 p.2 a.curve.y p.4 p.3.most e c.sizes_of-y.ensures p.6)
    (ap (λ q. lt_z q (squares_above w h (a.curve.degree * a.depth))) (sym (square_is (small (goal.at.returns-then-is_narrow c).Else-t-gt134217728)))
    ∙ opposite (lt_z (stored w64 (stored w64 a.t *ℤ stored w64 a.t)) (squares_above w h (a.curve.degree * a.depth)))
    (sym c.is_narrow.ensures ∙ c.if-is_narrow.true))

-- ---- the boxes at the two ends, by the sizes at the places j and k
abbrev two : List ℕ → (j k : ℕ) → List ℕ
two ns j k = get_or ns j 0 ∷ get_or ns k 0 ∷ []

module _ (y : After-sizes_of-y) where
  abbrev shift : ℕ
  shift = y.args.curve.degree * y.args.depth

  abbrev width : (j k : ℕ) → ℕ
  width j k = end_of y.gaps_for-gaps.result (two y.sizes_of-x.result j k)

  abbrev height : (j k : ℕ) → ℕ
  height j k = end_of y.gaps_for-gaps.result (two y.sizes_of-y.result j k)

  -- what the gaps of break point i add up to
  abbrev sum : ℕ → List ℤ → ℕ
  sum i cs = gaps_sum (gaps_at (rows_of y.args.pieces.m y.args.curve.degree) i) 0 cs

  asked : (j k : ℕ) → (SpreadAt y.gaps_for-gaps.result shift (two y.sizes_of-x.result j k))
      × (SpreadAt y.gaps_for-gaps.result shift (two y.sizes_of-y.result j k))
  asked j k =
      let m = y.args.pieces.m in
      let d = y.args.curve.degree in
      let p = y.requires in
      let e = y.gaps_for-gaps.ensures in (
        spread_at m d shift p.0 p.2 p.4 p.3.most p.3.x (shift_under y.requires.3.most y.requires.5) e y.sizes_of-x.ensures j k refl refl,
        spread_at m d shift p.0 p.2 p.4 p.3.most p.3.y (shift_under y.requires.3.most y.requires.5) e y.sizes_of-y.ensures j k refl refl,
      )

  wide : (i j k : ℕ) → i ≤ y.args.pieces.m → width j k ≤ sum i y.args.curve.x → height j k ≤ sum i y.args.curve.y
      → lt_z (stored w64 (stored w64 y.args.t *ℤ stored w64 y.args.t)) (squares_of (6 * width j k) (6 * height j k) shift) ≡ true
      → meets (setting_of y.args.pieces) y.args.t y.args.depth y.args.curve ≡ false
  wide i j k hi hx hy e =
      reached_fails (setting_of y.args.pieces) y.requires.0 y.args.t y.requires.3 (many_takes y.args.curve.degree y.args.pieces.m y.requires.2)
      (6 * width j k) (6 * height j k) i hi
      (times_reaches y.requires.6 hx) (times_reaches y.requires.6 hy)
      (ap (λ q. lt_z q (squares_of (6 * width j k) (6 * height j k) shift)) (sym (square_is (small y.before.before.before.before.before))) ∙ e)

pub returns-then-is_wide_at : goal.returns-then-is_wide_at
returns-then-is_wide_at c =
    let a = c.args in
    let p = c.requires in
    let e = c.gaps_for-gaps.ensures in
    wide (goal.at.returns-then-is_wide_at c).After-sizes_of-y 0 0 1 zero-le (first_reaches a.pieces.m p.0 p.2 a.curve.x p.4 p.3.most e c.sizes_of-x.ensures)
    (first_reaches a.pieces.m p.0 p.2 a.curve.y p.4 p.3.most e c.sizes_of-y.ensures)
    (sym c.is_wide_at.ensures ∙ c.if-is_wide_at.true)

pub returns-then-is_wide_at-2 : goal.returns-then-is_wide_at-2
returns-then-is_wide_at-2 c =
    let a = c.args in
    let p = c.requires in
    let e = c.gaps_for-gaps.ensures in
    wide (goal.at.returns-then-is_wide_at-2 c).After-sizes_of-y a.pieces.m 3 2 (le_refl a.pieces.m)
    (last_reaches a.pieces.m p.0 p.2 a.curve.x p.4 p.3.most e c.sizes_of-x.ensures)
    (last_reaches a.pieces.m p.0 p.2 a.curve.y p.4 p.3.most e c.sizes_of-y.ensures)
    (sym c.is_wide_at-2.ensures ∙ c.if-is_wide_at-2.true)

pub returns : goal.returns
returns c = small (goal.at.returns c).Else-t-gt134217728

pub overflow_mul-square : goal.overflow_mul-square
overflow_mul-square c = square_fits (small (goal.at.overflow_mul-square c).Else-t-gt134217728)

pub overflow_mul-shift : goal.overflow_mul-shift
overflow_mul-shift c = omega (arith, shift_under c.requires.3.most c.requires.5)

pub is_wide_at-requires : goal.is_wide_at-requires
is_wide_at-requires c = asked (goal.at.is_wide_at-requires c).After-sizes_of-y 0 1

pub is_wide_at-requires-2 : goal.is_wide_at-requires-2
is_wide_at-requires-2 c = asked (goal.at.is_wide_at-requires-2 c).After-sizes_of-y 3 2
