-- `answer::point_answers::put_points` meets its contract. The loop's invariant is `Putting`; the measure is what is left of the text.
use borrow.Author.Rules.{rules}
use Rattle.text_lines.proofs.Lines.{line-less}
use Rattle.text_answers.proofs.Judging.{putting_start, put_room, put_point_line, put-past, put_none}
use Rattle.answer.proofs.point_answers.put_points.Goals as goal

pub loop-form-init : goal.loop-form-init
loop-form-init c = putting_start _ _ _ _

pub put_point-at-requires : goal.put_point-at-requires
put_point-at-requires c = (search (put_room, c.in-Some.ensures), search rules)

pub loop-form-smaller-in-Point-1 : goal.loop-form-smaller-in-Point-1
loop-form-smaller-in-Point-1 c = search (line-less, c.in-Some.ensures)

pub loop-form-preserved-in-Point-1 : goal.loop-form-preserved-in-Point-1
loop-form-preserved-in-Point-1 c = search (put_point_line, c.in-Some.ensures)

pub loop-form-smaller-in-Tolerance : goal.loop-form-smaller-in-Tolerance
loop-form-smaller-in-Tolerance c = search (line-less, c.in-Some.ensures)

pub loop-form-preserved-in-Tolerance : goal.loop-form-preserved-in-Tolerance
loop-form-preserved-in-Tolerance c = search (put-past, c.in-Some.ensures)

pub loop-form-smaller : goal.loop-form-smaller
loop-form-smaller c = search (line-less, c.in-Some.ensures)

pub loop-form-preserved : goal.loop-form-preserved
loop-form-preserved c = search (put-past, c.in-Some.ensures)

pub returns : goal.returns
returns c = search (put_none, c.in_default.ensures)
