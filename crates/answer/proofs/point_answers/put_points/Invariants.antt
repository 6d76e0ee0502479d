-- `answer::point_answers::put_points` meets its contract. The loop's invariant is `Putting`; the measure is what is left of the text.
use Prim.Native.Nat.{◌-◌}
use lib.ListN.{length}
use Rattle.text_answers.proofs.Judging.{Putting}
use Rattle.answer.proofs.point_answers.put_points.Given as goal

abbrev pub invariant-loop-form : goal.invariant-loop-form
invariant-loop-form l = Putting l.leaves l.text l.initial.out l.from l.out l.at l.i

abbrev pub decreases-loop-form : goal.decreases-loop-form
decreases-loop-form l = length l.text - l.i
