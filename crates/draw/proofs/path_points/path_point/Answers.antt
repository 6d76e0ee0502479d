-- `draw::path_points::path_point` meets its contract: each arm is one point of the list.
use mathlib.Core.Path.{refl, sym}
use Rattle.integers.proofs.Between.{number_fits}
use Rattle.draw_polygon.specs.Polygon.{path_point}
use Rattle.draw.proofs.Spans.{point_is, path_rest}
use Rattle.draw.proofs.path_points.path_point.Goals as goal

pub returns-in-1 : goal.returns-in-1
unfolding path_point
returns-in-1 c =
    point_is _ _ 1 (number_fits _ c.struct_told-1.given.1.0.1.1.1.0.1) (number_fits _ c.struct_told-1.given.0.1.1.0.1)
    c.in-1.is refl

pub returns-in-2 : goal.returns-in-2
unfolding path_point
returns-in-2 c =
    point_is _ _ 2 (number_fits _ c.struct_told-in-2-1.given.0.1.1.1.0.1) (number_fits _ c.struct_told-in-2-1.given.1.1.0.1.1.0.1)
    c.in-2.is refl

pub returns-in-3 : goal.returns-in-3
unfolding path_point
returns-in-3 c =
    point_is _ _ 3 (number_fits _ c.struct_told-in-3-1.given.0.1.1.1.0.1) (number_fits _ c.struct_told-in-3-1.given.1.1.0.1.1.1.0.1)
    c.in-3.is refl

pub returns-in-4 : goal.returns-in-4
unfolding path_point
returns-in-4 c =
    point_is _ _ 4 (number_fits _ c.struct_told-in-4-1.given.1.1.0.1.1.1.0.1) (number_fits _ c.struct_told-in-4-1.given.0.1.1.1.0.1)
    c.in-4.is refl

pub returns-in-5 : goal.returns-in-5
unfolding path_point
returns-in-5 c =
    point_is _ _ 5 (number_fits _ c.struct_told-in-5-1.given.1.1.0.1.1.0.1) (number_fits _ c.struct_told-in-5-1.given.0.1.1.1.0.1)
    c.in-5.is refl

pub returns-in-6 : goal.returns-in-6
unfolding path_point
returns-in-6 c =
    point_is _ _ 6 (number_fits _ c.struct_told-in-6-1.given.0.1.1.0.1) (number_fits _ c.struct_told-in-6-1.given.1.0.1.1.1.0.1)
    c.in-6.is refl

pub returns-in-7 : goal.returns-in-7
unfolding path_point
returns-in-7 c =
    point_is _ _ 7 (number_fits _ c.struct_told-in-7-1.given.0.1.1.0.1) (number_fits _ c.struct_told-in-7-1.given.1.0.1.1.0.1)
    c.in-7.is refl

pub returns-in_default : goal.returns-in_default
returns-in_default c =
    let r = c.in_default.in_default-own.rest in
    let k = c.args.k in
    point_is _ _ k (number_fits _ c.struct_told-in_default-1.given.1.0.1.1.0.1) (number_fits _ c.struct_told-in_default-1.given.0.1.1.0.1) refl
    (sym (path_rest _ _ k r.0.0.0.0.0.0.1 r.0.0.0.0.0.1 r.0.0.0.0.1 r.0.0.0.1 r.0.0.1 r.0.1 r.1))
