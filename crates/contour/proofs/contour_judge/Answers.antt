-- Judging for programs in other languages.
use mir.Facts.{to_z-of_z}
use Rattle.contour.proofs.contour_judge.Goals as goal

pub returns : goal.returns
returns c =
    record {
      judgement = c.judge-judgement.result;
      judged = rw (to_z-of_z c.ranges.x, to_z-of_z c.ranges.y) at c.judge-judgement.ensures;
      are = c.judgement_in_numbers.ensures;
    }
