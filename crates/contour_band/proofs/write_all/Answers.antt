-- `write_all`: after a step the writer has still a front of the bytes.
use Rattle.std.proofs.Common.{rules}
use Rattle.contour_band.proofs.Steps.{writes_more}
use Rattle.contour_band.proofs.write_all.Goals as goal

pub loop-turns-preserved-in-Some : goal.loop-turns-preserved-in-Some
loop-turns-preserved-in-Some g c =
    let step = rw c.in-Some.is at c.in_ok-k.ensures.bytes in
    (search rules, writes_more _ _ _ _ _ _ c.loop-turns.invariant.1 step)
