-- What the gaps tell of a node: by the spreads of the corners, and by those at the break point of one.
use mathlib.Core.Path.{◌≡◌, sym, ◌∙◌, ap, subst}
use mathlib.Core.Bool.{Bool, true, false}
use mathlib.Core.Logic.{inl, inr}
use mathlib.Core.List.{List}
use Prim.Native.Nat.{ℕ, ◌-◌, ◌*◌, ◌%◌, ◌^◌, ◌≤◌}
use native.Mathlib.Omega.{arith}
use lib.Dec.{ltb, lit≤}
use lib.IntN.{ℤ, pos, ◌+ℤ◌}
use lib.ListN.{get_or}
use lib.Signed.{lt_z}
use borrow.Author.Rules.{rules}
use borrow.Author.Tests.{not-true}
use Rattle.setting.specs.Setting.{HasRows}
use Rattle.integers.specs.Squares.{squared}
use Rattle.integers.proofs.Machine.{flag! }
use Rattle.curve_halves.specs.Sizes.{Each}
use Rattle.bound_coordinate.specs.Inside.{Boundable}
use Rattle.bound_coordinate.proofs.Coordinates.{bounded, shift_small}
use Rattle.bound_pieces.specs.Inside.{spread_of, pieces_of, setting_of, sums_of, point_sum}
use Rattle.bound_node.specs.Boxes.{meets}
use Rattle.bound_pieces.proofs.Boxes.{boundable_x, boundable_y}
use Rattle.bound_pieces.proofs.Corners.{close_meets, point_fails, wider_fails}
use Rattle.bound_tolerance.proofs.SpreadLaws.{unit, unit_is, unit_some, rounding_asked, sums_under, point_under}
use Rattle.bound_tolerance.proofs.ToleranceLaws.{inexact_cubic, square_fits, side_small, more_fits, more_small}
use Rattle.bound_tolerance.proofs.verdict_by.Goals as goal
use Rattle.bound_tolerance.proofs.verdict_by.Goals.{After-sums-y, Else-is_exact, then-x1-x2, else-x1-x2}

-- the sums of both coordinates are not too large
under : (y : After-sums-y) → let B = 6 * (2 ^ 36 * 2 ^ (y.args.curve.degree * y.args.depth)) in
    let xs = y.sums-x.result in
    let ys = y.sums-y.result in
    ((get_or xs 0 0 ≤ B) × (get_or xs 1 0 ≤ B)) × ((get_or ys 0 0 ≤ B) × (get_or ys 1 0 ≤ B))
under y =
    sums_under y.args.pieces.sixths y.requires.0 y.requires.2 y.requires.3 y.sums-x.ensures y.sums-y.ensures

pub sums-x-requires : goal.sums-x-requires
sums-x-requires c = let p = c.requires in (p.0, p.1, boundable_x p.2 p.3 p.4)

pub sums-y-requires : goal.sums-y-requires
sums-y-requires c = let p = c.requires in (p.0, p.1, boundable_y p.2 p.3 p.4)

pub rounded_up-width-requires : goal.rounded_up-width-requires
rounded_up-width-requires c = rounding_asked 3750 tt (shift_small c.requires.3 c.requires.4) (omega (arith, under (goal.at.rounded_up-width-requires c).After-sums-y, c.max.ensures))

pub returns-then-not-is_longer : goal.returns-then-not-is_longer
returns-then-not-is_longer c =
    close_meets (setting_of c.args.pieces) c.requires.0 c.args.t c.requires.2 c.requires.3 c.sums-x.ensures c.sums-y.ensures
    c.max.ensures c.max-2.ensures
    (flag! (sym c.is_longer.ensures ∙ not-true c.is_longer.result c.if-not-is_longer.true-raw)
    (search (c.rounded_up-width.ensures, c.rounded_up-height.ensures, c.requires.5, bounded) depth 40) tt)

-- ---- the corners are break points
pub rounded_up-requires : goal.rounded_up-requires
rounded_up-requires c =
    let u = under (goal.at.rounded_up-requires c).After-sums-y in
    rounding_asked 3750 tt (shift_small c.requires.3 c.requires.4)
    (elim c.if-x1-x2.branch [ then-x1-x2 w ↦ omega (arith, u) | else-x1-x2 w ↦ omega (arith, u) ])

pub returns-then-is_longer : goal.returns-then-is_longer
returns-then-is_longer c =
    let exact = sym c.is_exact.ensures ∙ c.if-is_exact.true in
    wider_fails (setting_of c.args.pieces) c.requires.0 c.args.t c.requires.2 c.requires.3 c.sums-x.ensures c.sums-y.ensures exact
    c.max.ensures (elim c.if-x1-x2.branch [
      | then-x1-x2 w ↦ inl (w.if-x1-x2.true, w.there-is)
      | else-x1-x2 w ↦ inr (w.if-x1-x2.false, w.there-is)
    ])
    (flag! (sym c.is_longer-then-is_exact.ensures ∙ c.if-is_longer.true)
    (search (c.rounded_up-width.ensures, c.rounded_up.ensures, c.requires.5, bounded) depth 40) tt)

-- ---- they are not: the degree is 3
module _ (c : Else-is_exact) where
  abbrev sixths : Bool
  sixths = c.args.pieces.sixths

  abbrev m : ℕ
  m = c.args.pieces.m

  abbrev degree : ℕ
  degree = c.args.curve.degree

  -- x is the wider at the far corner
  abbrev last : Bool
  last = let x = c.sums-x.result in ltb (get_or x 0 0) (get_or x 1 0)

  cubic : degree ≡ 3
  cubic = inexact_cubic sixths m (sym c.is_exact.ensures ∙ c.if-is_exact.false) c.requires.3

  -- what the sum at the break point of the corner asks of a coordinate
  there-asked : (cs : List ℤ) {ns : List ℕ} → Boundable cs degree → ns ≡ sums_of sixths m degree cs
      → (HasRows m) × (c.args.pieces ≡ pieces_of m sixths) × (Boundable cs 3) × (ns ≡ sums_of sixths m 3 cs)
  there-asked cs h e = (c.requires.0, c.requires.1, subst (Boundable cs) cubic h, e ∙ ap (λ d. sums_of sixths m d cs) cubic)

  there_is : (cs : List ℤ) {n : ℕ} → n ≡ point_sum sixths m 3 last cs → n ≡ point_sum sixths m degree last cs
  there_is cs e = e ∙ ap (λ d. point_sum sixths m d last cs) (sym cubic)

  -- a node that is too long there does not meet the tolerance
  there-fails : {nx ny : ℕ} → let a = c.args in
      nx ≡ point_sum sixths m 3 last a.curve.x → ny ≡ point_sum sixths m 3 last a.curve.y
      → lt_z (squared a.t) (squared (pos (spread_of nx (degree * a.depth))) +ℤ squared (pos (spread_of ny (degree * a.depth)))) ≡ true
      → meets (setting_of a.pieces) a.t a.depth a.curve ≡ false
  there-fails ex ey wide =
      let a = c.args in
      let p = c.requires in
      point_fails (setting_of a.pieces) p.0 a.t p.2 p.3 c.sums-x.ensures c.sums-y.ensures last
      (rw (there_is a.curve.x ex, there_is a.curve.y ey) at wide)

  -- what rounding that sum up asks
  point-asked : (cs : List ℤ) {n : ℕ} → let s = degree * c.args.depth in
      Each (2 ^ 20 * 2 ^ s) cs → n ≡ point_sum sixths m 3 last cs
      → (n ≤ 6 * (2 ^ 36 * 2 ^ s)) × (unit 3750 s % 2 ^ 64 - 1 ≡ unit 3750 s - 1) × (s ≤ 24)
  point-asked cs each e = rounding_asked 3750 tt (shift_small c.requires.3 c.requires.4)
      (rw (there_is cs e) (point_under sixths c.requires.0 c.requires.2 c.requires.3 last cs each))

pub returns-then-is_longer-2 : goal.returns-then-is_longer-2
returns-then-is_longer-2 c =
    there-fails (goal.at.returns-then-is_longer-2 c).Else-is_exact c.sum_there.ensures c.sum_there-2.ensures
    (flag! (sym c.is_longer-2.ensures ∙ c.if-is_longer-2.true)
    (search (c.rounded_up-least_width.ensures, c.rounded_up-least_height.ensures, c.requires.5, bounded) depth 40) tt)

pub overflow_mul-square : goal.overflow_mul-square
overflow_mul-square c = square_fits c.requires.5

pub overflow_mul-shift : goal.overflow_mul-shift
overflow_mul-shift c = omega (arith, shift_small c.requires.3 c.requires.4)

pub overflow_cast-more : goal.overflow_cast-more
overflow_cast-more c = omega (arith, shift_small c.requires.3 c.requires.4)

pub overflow_shl-more : goal.overflow_shl-more
overflow_shl-more c = omega (arith, shift_small c.requires.3 c.requires.4)

pub overflow_sub-more : goal.overflow_sub-more
overflow_sub-more c = rw (unit_is 3750 tt (shift_small c.requires.3 c.requires.4)) (unit_some 3750 (c.args.curve.degree * c.args.depth) (lit≤ tt))

pub rounded_up-height-requires : goal.rounded_up-height-requires
rounded_up-height-requires c = rounding_asked 3750 tt (shift_small c.requires.3 c.requires.4) (omega (arith, under (goal.at.rounded_up-height-requires c).After-sums-y, c.max-2.ensures))

pub overflow_add-width : goal.overflow_add-width
overflow_add-width c = more_fits c.rounded_up-width.ensures

pub overflow_add-height : goal.overflow_add-height
overflow_add-height c = more_fits c.rounded_up-height.ensures

pub is_longer-requires : goal.is_longer-requires
is_longer-requires c = search (rules, more_small)

pub is_longer-requires-then-is_exact : goal.is_longer-requires-then-is_exact
is_longer-requires-then-is_exact c = search (rules, side_small)

pub sum_there-requires : goal.sum_there-requires
sum_there-requires c = let p = c.requires in there-asked c c.args.curve.x (boundable_x p.2 p.3 p.4) c.sums-x.ensures

pub rounded_up-least_width-requires : goal.rounded_up-least_width-requires
rounded_up-least_width-requires c = point-asked (goal.at.rounded_up-least_width-requires c).Else-is_exact c.args.curve.x c.requires.2.x c.sum_there.ensures

pub sum_there-requires-2 : goal.sum_there-requires-2
sum_there-requires-2 c = let p = c.requires in
    there-asked (goal.at.sum_there-requires-2 c).Else-is_exact c.args.curve.y (boundable_y p.2 p.3 p.4) c.sums-y.ensures

pub rounded_up-least_height-requires : goal.rounded_up-least_height-requires
rounded_up-least_height-requires c = point-asked (goal.at.rounded_up-least_height-requires c).Else-is_exact c.args.curve.y c.requires.2.y c.sum_there-2.ensures

pub is_longer-requires-2 : goal.is_longer-requires-2
is_longer-requires-2 c = search (rules, side_small)
