-- `draw::vertices::put_path` meets its contract. The loop's invariant: the list holds the points before k from which the path moved on. The measure
-- is what is left of eight.
use mathlib.Core.Path.{◌≡◌, ◌∙◌, ap}
use lib.ListN.{length}
use lib.Seq.{sets, length-sets}
use native.Mathlib.Omega.{arith}
use Rattle.draw_polygon.specs.Polygon.{path_point, vertices_of, numbers}
use Rattle.draw.proofs.Writing.{written_start, written_most, written_length, written_on, written_some, written_none}
use Rattle.draw.proofs.vertices.put_path.Goals as goal
use Rattle.draw.proofs.vertices.put_path.Goals.{After-list-then-count-eq0-1}

pub loop-k-init : goal.loop-k-init
loop-k-init c = (omega arith, written_start (path_point c.args.upright c.args.across) c.args.list.now)

pub put_unless-count-requires : goal.put_unless-count-requires
put_unless-count-requires c =
    let a = c.args in
    omega (
      arith,
      written_most (path_point a.upright a.across) a.list.now c.loop-k.invariant.1,
      written_length (path_point a.upright a.across) a.list.now c.loop-k.invariant.1,
    )

pub loop-k-preserved : goal.loop-k-preserved
loop-k-preserved c =
    let a = c.args in (
      omega arith,
      written_on (path_point a.upright a.across) a.list.now c.loop-k.invariant.1 c.path_point-p.ensures
          c.path_point-q.ensures c.put_unless-count.ensures.value c.put_unless-count.ensures.list_after,
    )

pub put_point-requires : goal.put_point-requires
put_point-requires c =
    let a = c.args in
    omega (arith, written_length (path_point a.upright a.across) a.list.now c.loop-k.invariant.1)

-- where the path never moves, its first point is written
no_move : (c : After-list-then-count-eq0-1)
    → let a = c.args in
    (1 ≡ length (vertices_of (path_point a.upright a.across)))
    × (c.put_point.new.list ≡ sets a.list.now 0 (numbers (vertices_of (path_point a.upright a.across))))
no_move c =
    let a = c.args in
    written_none (path_point a.upright a.across) a.list.now c.loop-k.invariant.1 (omega arith) c.if-count-eq0.true c.path_point.ensures
    c.put_point.ensures

pub shape_of-list-then-count-eq0 : goal.shape_of-list-then-count-eq0
shape_of-list-then-count-eq0 c =
    let a = c.args in
    ap length (no_move c).1
    ∙ length-sets a.list.now 0 (numbers (vertices_of (path_point a.upright a.across)))

pub returns-then-count-eq0 : goal.returns-then-count-eq0
returns-then-count-eq0 c =
    let both = no_move c in
    record { value = both.0; list_after = both.1 }

pub shape_of-list : goal.shape_of-list
shape_of-list c =
    let a = c.args in written_length (path_point a.upright a.across) a.list.now c.loop-k.invariant.1

pub returns : goal.returns
returns c =
    let a = c.args in
    let both = written_some (path_point a.upright a.across) a.list.now c.loop-k.invariant.1 (omega arith) c.if-count-eq0.false in
    record { value = both.0; list_after = both.1 }

pub overflow_add-k : goal.overflow_add-k
overflow_add-k c = omega arith

pub loop-k-smaller : goal.loop-k-smaller
loop-k-smaller c = omega arith
