-- The numbers of an outcome.
use mathlib.Core.Path.{sym, ◌∙◌, ap}
use Rattle.contour.specs.Answers.{beside_report, outcome_answer_of}
use Rattle.contour.proofs.c_answers.outcome_in_numbers.Goals as goal

pub returns-in-Err : goal.returns-in-Err
returns-in-Err c = rw (c.number.ensures, c.spot.ensures) (ap outcome_answer_of (sym c.in-Err.is))

pub returns-in-Ok : goal.returns-in-Ok
returns-in-Ok c =
    let g = c.in-Ok in
    let b = g.outcome.banded in
    ap (beside_report b.curves b.leaves b.nodes) c.judgement_in_numbers-judged.ensures ∙ ap outcome_answer_of (sym g.is)
