-- `draw::vertices::put_path` meets its contract. The loop's invariant: the list holds the points before k from which the path moved on. The measure
-- is what is left of eight.
use Prim.Native.Nat.{◌≤◌, ◌-◌}
use Rattle.draw_polygon.specs.Polygon.{path_point}
use Rattle.draw.proofs.Writing.{Written}
use Rattle.draw.proofs.vertices.put_path.Given as goal

abbrev pub invariant-loop-k : goal.invariant-loop-k
invariant-loop-k l = (l.k ≤ 8) × Written (path_point l.upright l.across) l.initial.list l.k l.count l.list

abbrev pub decreases-loop-k : goal.decreases-loop-k
decreases-loop-k l = 8 - l.k
