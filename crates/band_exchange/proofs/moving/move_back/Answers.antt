-- Numbers moved towards the end. The loop's invariant: all but the first `left` of them stand at their new places.
use mathlib.Core.Path.{◌≡◌, sym, ◌∙◌, ap}
use Prim.Native.Nat.{suc, ◌+◌, ◌-◌}
use native.Mathlib.Omega.{arith}
use lib.ListN.{length, set, take, drop}
use lib.Seq.{length-sets}
use Rattle.band_exchange.proofs.Moves.{read_and_put, moved_from, back_start, back_done, back_read, back_step}
use Rattle.band_exchange.proofs.moving.move_back.Goals as goal
use Rattle.band_exchange.proofs.moving.move_back.Goals.{At-loop-left}

pub loop-left-init : goal.loop-left-init
loop-left-init c = let a = c.args in sym (back_start a.list.now a.from a.to a.n)

kept : (l : At-loop-left) → length l.loop-left.list ≡ length l.args.list.now
kept l =
    let a = l.args in
    let left = l.loop-left.left in
    ap length l.loop-left.invariant ∙ length-sets a.list.now (a.to + left) (take (a.n - left) (drop (a.from + left) a.list.now))

pub loop-left-preserved : goal.loop-left-preserved
loop-left-preserved c =
    let a = c.args in
    let old = a.list.now in
    let j = c.loop-left.left - 1 in
    let s : c.loop-left.left ≡ suc j = omega arith in
    read_and_put (a.from + j) (a.to + j) c.z-1.given (c.loop-left.invariant ∙ ap (moved_from old a.from a.to a.n) s)
    ∙ ap (set (moved_from old a.from a.to a.n (suc j)) (a.to + j))
    (back_read old a.from a.to a.n j (omega arith) c.requires.1)
    ∙ back_step old a.from a.to a.n j (omega arith) (omega arith)

pub returns : goal.returns
returns c =
    let a = c.args in
    let i : c.loop-left.left ≡ 0 = omega arith in
    c.loop-left.invariant ∙ ap (moved_from a.list.now a.from a.to a.n) i ∙ back_done a.list.now a.from a.to a.n

pub overflow_add-z : goal.overflow_add-z
overflow_add-z c = omega (arith, kept (goal.at.overflow_add-z c).At-loop-left)

pub offset_bounds-list-from : goal.offset_bounds-list-from
offset_bounds-list-from c = omega (arith, kept (goal.at.offset_bounds-list-from c).At-loop-left)

pub slice_copy_out-z : goal.slice_copy_out-z
slice_copy_out-z c = omega (arith, kept (goal.at.slice_copy_out-z c).At-loop-left)

pub overflow_add-z-in-loop-left : goal.overflow_add-z-in-loop-left
overflow_add-z-in-loop-left c = omega (arith, kept (goal.at.overflow_add-z-in-loop-left c).At-loop-left)

pub offset_bounds-list-to : goal.offset_bounds-list-to
offset_bounds-list-to c = omega (arith, kept (goal.at.offset_bounds-list-to c).At-loop-left)

pub bounds-list-to : goal.bounds-list-to
bounds-list-to c = omega (arith, kept (goal.at.bounds-list-to c).At-loop-left)

pub shape_of-list : goal.shape_of-list
shape_of-list c = kept (goal.at.shape_of-list c).At-loop-left
