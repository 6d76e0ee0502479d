-- The boxes of a curve tried. The loop's invariant: those before break point i are narrow, and the numbers agree so far. The measure is what is
-- left of m + 1.
use mathlib.Core.Path.{sym, ◌∙◌}
use native.Mathlib.Omega.{arith}
use Rattle.bound_coordinate.proofs.Coordinates.{shift_small}
use Rattle.bound_pieces.proofs.Boxes.{boundable_x, boundable_y}
use Rattle.band_records.proofs.Writing.{box_four}
use Rattle.bound_tolerance.proofs.ToleranceLaws.{square_fits}
use Rattle.band_comparing.proofs.TryLaws.{going_start, going_less, going_on, going_wide, going_done}
use Rattle.band_comparing.proofs.TryLaws.{low_depth, low_computable, low_found}
use Rattle.band_comparing.proofs.trying.try_low.Goals as goal

pub overflow_mul-shift : goal.overflow_mul-shift
overflow_mul-shift c = let p = c.requires in omega (arith, shift_small p.1 (low_depth p.0 p.1))

pub terms_of-x-requires : goal.terms_of-x-requires
terms_of-x-requires c =
    let p = c.requires in
    (boundable_x p.0.sized p.1 (low_depth p.0 p.1), p.0.lent.has.most)

pub terms_of-y-requires : goal.terms_of-y-requires
terms_of-y-requires c =
    let p = c.requires in
    (boundable_y p.0.sized p.1 (low_depth p.0 p.1), p.0.lent.has.most)

pub try_box-requires : goal.try_box-requires
try_box-requires c =
    let p = c.requires in
    let q = p.0 in (
      omega (arith, going_less _ _ _ _ _ _ _ (box_four _ _ _ _) c.loop-i.invariant, q.there),
      omega (arith, q.lent.has.most, q.place),
      low_computable q p.1 q.sized.x c.terms_of-x.ensures (omega arith),
      low_computable q p.1 q.sized.y c.terms_of-y.ensures (omega arith),
    )

pub returns-in_err-to : goal.returns-in_err-to
returns-in_err-to c =
    c.from_residual.ensures ∙ going_wide (low_found c.requires.0 c.requires.1 c.terms_of-x.ensures c.terms_of-y.ensures)
    c.args.given.now c.args.reach c.args.at c.loop-i.i _ (omega arith) (sym c.in_err-to.was ∙ c.try_box.ensures)

pub loop-i-preserved : goal.loop-i-preserved
loop-i-preserved c =
    going_on _ _ _ _ _ _ _ (box_four _ _ _ _) c.loop-i.invariant (omega arith) _ (sym c.in_ok-to.was ∙ c.try_box.ensures)

pub returns : goal.returns
returns c =
    going_done (low_found c.requires.0 c.requires.1 c.terms_of-x.ensures c.terms_of-y.ensures)
    c.args.given.now c.args.reach c.args.at c.loop-i.invariant (omega arith)

pub overflow_mul-square : goal.overflow_mul-square
overflow_mul-square c = square_fits c.requires.0.small

pub loop-i-init : goal.loop-i-init
loop-i-init c = going_start _ _ _ _ _ _ _

pub overflow_mul-i : goal.overflow_mul-i
overflow_mul-i c = omega (arith, c.requires.0.lent.has.most)

pub overflow_add-at : goal.overflow_add-at
overflow_add-at c = omega (arith, c.requires.0.lent.has.most, c.requires.0.place)

pub overflow_add-i-end : goal.overflow_add-i-end
overflow_add-i-end c = omega (arith, c.requires.0.lent.has.most)
