-- `answer::point_answers::put_point` meets its contract: one law a return.
use Rattle.std.proofs.Common.{◌≡◌, Ok, Some, None}
use Rattle.text_answers.proofs.Judging.{line_on, line_off, line_refused}
use Rattle.answer.proofs.point_answers.put_point.Goals as goal

pub returns-in-Ok-Some : goal.returns-in-Ok-Some
returns-in-Ok-Some c = let e : c.judge_point.result ≡ Ok (Some c.in-Ok-Some.holder) = cc in search line_on

pub returns-in-Ok-None : goal.returns-in-Ok-None
returns-in-Ok-None c = let e : c.judge_point.result ≡ Ok None = cc in search line_off

pub returns-in-Err : goal.returns-in-Err
returns-in-Err c = search line_refused
