-- `read_text`: after a step the list's front is still what the reader gave.
use Rattle.std.proofs.Common.{rules}
use Rattle.contour_band.proofs.Steps.{reads_more}
use Rattle.contour_band.proofs.read_text.Goals as goal

pub loop-turns-preserved-in-Some : goal.loop-turns-preserved-in-Some
loop-turns-preserved-in-Some g c =
    let step = rw c.in-Some.is at c.in_ok-k.ensures.bytes in
    (search rules, reads_more _ _ _ _ _ _ _ c.in_ok-k.ensures.before c.loop-turns.invariant.1 step.0)
