-- Numbers moved towards the front. The loop's invariant: the first i of them stand at their new places.
use mathlib.Core.Path.{◌≡◌, refl, ◌∙◌, ap}
use Prim.Native.Nat.{◌+◌}
use native.Mathlib.Omega.{arith}
use lib.ListN.{length, set, take, drop}
use lib.Seq.{length-sets}
use Rattle.band_exchange.specs.Inside.{moved_to}
use Rattle.band_exchange.proofs.Moves.{read_and_put, forward_read, forward_step}
use Rattle.band_exchange.proofs.moving.move_forward.Goals as goal
use Rattle.band_exchange.proofs.moving.move_forward.Goals.{At-loop-i}

pub loop-i-init : goal.loop-i-init
loop-i-init c = refl

kept : (l : At-loop-i) → length l.loop-i.list ≡ length l.args.list.now
kept l =
    let a = l.args in
    ap length l.loop-i.invariant ∙ length-sets a.list.now a.to (take l.loop-i.i (drop a.from a.list.now))

pub loop-i-preserved : goal.loop-i-preserved
loop-i-preserved c =
    let a = c.args in
    let old = a.list.now in
    let i = c.loop-i.i in
    read_and_put (a.from + i) (a.to + i) c.z-1.given c.loop-i.invariant
    ∙ ap (set (moved_to old a.from a.to i) (a.to + i)) (forward_read old a.from a.to i (omega arith) c.requires.1)
    ∙ forward_step old a.from a.to i (omega arith)

pub returns : goal.returns
returns c =
    let a = c.args in
    let i : c.loop-i.i ≡ a.n = omega arith in
    c.loop-i.invariant ∙ ap (moved_to a.list.now a.from a.to) i

pub overflow_add-z : goal.overflow_add-z
overflow_add-z c = omega arith

pub offset_bounds-list-from : goal.offset_bounds-list-from
offset_bounds-list-from c = omega (arith, kept (goal.at.offset_bounds-list-from c).At-loop-i)

pub slice_copy_out-z : goal.slice_copy_out-z
slice_copy_out-z c = omega (arith, kept (goal.at.slice_copy_out-z c).At-loop-i)

pub overflow_add-z-in-loop-i : goal.overflow_add-z-in-loop-i
overflow_add-z-in-loop-i c = omega (arith, kept (goal.at.overflow_add-z-in-loop-i c).At-loop-i)

pub offset_bounds-list-to : goal.offset_bounds-list-to
offset_bounds-list-to c = omega (arith, kept (goal.at.offset_bounds-list-to c).At-loop-i)

pub bounds-list-to : goal.bounds-list-to
bounds-list-to c = omega (arith, kept (goal.at.bounds-list-to c).At-loop-i)

pub shape_of-list : goal.shape_of-list
shape_of-list c = kept (goal.at.shape_of-list c).At-loop-i
