-- A box by its lows and highs: too long, or its numbers compared.
use mathlib.Core.Path.{◌≡◌, refl, sym, ◌∙◌}
use lib.IntN.{◌+ℤ◌, ◌-ℤ◌}
use lib.Signed.{lt_z}
use Rattle.integers.specs.Squares.{squared}
use Rattle.integers.proofs.Machine.{fits!, is!, flag! }
use Rattle.bound_coordinate.proofs.Coordinates.{bounded, small! }
use Rattle.band_comparing.proofs.TryLaws.{box_wide, box_narrow, held_four}
use Rattle.band_comparing.proofs.trying.try_sides.Goals as goal
use Rattle.band_comparing.proofs.trying.try_sides.Goals.{After-is_longer}

pub is_longer-requires : goal.is_longer-requires
is_longer-requires c = let p = c.requires in (
  small! (search (p.of_left, p.of_right, bounded) depth 40) tt,
  small! (search (p.of_low, p.of_high, bounded) depth 40) tt,
)

-- the comparison as the machine holds it
longer-is : (l : After-is_longer)
    → let a = l.args in
    l.is_longer.result ≡ lt_z a.square (squared (a.right -ℤ a.left) +ℤ squared (a.high -ℤ a.low))
longer-is l =
    let p = l.requires in
    l.is_longer.ensures
    ∙ sym (flag! refl (search (p.of_left, p.of_right, p.of_low, p.of_high, l.ranges.square, bounded) depth 40) tt)

pub returns-then-is_longer : goal.returns-then-is_longer
returns-then-is_longer c = box_wide _ (sym (longer-is (goal.at.returns-then-is_longer c).After-is_longer) ∙ c.if-is_longer.true)

pub returns : goal.returns
returns c =
    let a = c.args in
    let p = c.requires in
    box_narrow (sym (longer-is (goal.at.returns c).After-is_longer) ∙ c.if-is_longer.false)
    (held_four a.given.now a.reach a.at
    (is! (search (p.of_left, bounded) depth 40) tt) (is! (search (p.of_right, bounded) depth 40) tt)
    (is! (search (p.of_low, bounded) depth 40) tt) (is! (search (p.of_high, bounded) depth 40) tt)
    c.reach_box.ensures)

pub overflow_sub-right : goal.overflow_sub-right
overflow_sub-right c = fits! (search (c.requires.of_left, c.requires.of_right, bounded) depth 40) tt

pub overflow_sub-high : goal.overflow_sub-high
overflow_sub-high c = fits! (search (c.requires.of_low, c.requires.of_high, bounded) depth 40) tt

pub overflow_cast-left : goal.overflow_cast-left
overflow_cast-left c = fits! (search (c.requires.of_left, bounded) depth 40) tt

pub overflow_cast-right : goal.overflow_cast-right
overflow_cast-right c = fits! (search (c.requires.of_right, bounded) depth 40) tt

pub overflow_cast-low : goal.overflow_cast-low
overflow_cast-low c = fits! (search (c.requires.of_low, bounded) depth 40) tt

pub overflow_cast-high : goal.overflow_cast-high
overflow_cast-high c = fits! (search (c.requires.of_high, bounded) depth 40) tt
