-- `text_outline::keep_outline` meets its contract. The loop's invariant is `Keeping`; the measure is what is left of the text.
use Prim.Native.Nat.{◌-◌}
use Rattle.text_outline.proofs.Filling.{Keeping}
use lib.ListN.{length}
use Rattle.text_outline.proofs.keep_outline.Given as goal

abbrev pub invariant-loop-form : goal.invariant-loop-form
invariant-loop-form l = Keeping l.text l.initial.numbers l.numbers l.at l.i l.left

abbrev pub decreases-loop-form : goal.decreases-loop-form
decreases-loop-form l = length l.text - l.i
