-- Numbers moved towards the front. The loop's invariant: the first i of them stand at their new places.
use mathlib.Core.Path.{◌≡◌}
use Rattle.band_exchange.specs.Inside.{moved_to}
use Rattle.band_exchange.proofs.moving.move_forward.Given as goal

abbrev pub invariant-loop-i : goal.invariant-loop-i
invariant-loop-i l = l.list ≡ moved_to l.initial.list l.from l.to l.i
