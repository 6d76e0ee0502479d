-- Judging a list of points for programs in other languages.
use Rattle.contour.specs.Points.{points_answer_of}
use Rattle.contour.proofs.InNumbers.{numbers_beside}
use Rattle.contour.proofs.contour_judge_points.Goals as goal

pub returns : goal.returns
returns c =
    let e = c.judge_points-answered.ensures in
    let both = numbers_beside points_answer_of c.points_in_numbers.ensures (e.value, e.answers_after) in
    record { value = both.0; answers_after = both.1 }
