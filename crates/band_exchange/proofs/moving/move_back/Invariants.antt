-- Numbers moved towards the end. The loop's invariant: all but the first `left` of them stand at their new places.
use mathlib.Core.Path.{◌≡◌}
use Rattle.band_exchange.proofs.Moves.{moved_from}
use Rattle.band_exchange.proofs.moving.move_back.Given as goal

abbrev pub invariant-loop-left : goal.invariant-loop-left
invariant-loop-left l = l.list ≡ moved_from l.initial.list l.from l.to l.n l.left
