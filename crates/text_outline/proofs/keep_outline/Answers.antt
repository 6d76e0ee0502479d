-- `text_outline::keep_outline` meets its contract. The loop's invariant is `Keeping`; the measure is what is left of the text.
use Rattle.text_outline.proofs.Filling.{keeping_start, keep-past, keep-stops}
use Rattle.text_lines.proofs.Lines.{line-less}
use Rattle.text_outline.proofs.keep_outline.Goals as goal

pub loop-form-init : goal.loop-form-init
loop-form-init c = keeping_start _ _ c.requires

pub returns-then-left-eq0 : goal.returns-then-left-eq0
returns-then-left-eq0 c = search (keep-stops, c.in-Some.ensures)

pub loop-form-smaller-in-Curve-1 : goal.loop-form-smaller-in-Curve-1
loop-form-smaller-in-Curve-1 c = search (line-less, c.in-Some.ensures)

pub loop-form-preserved-in-Curve-1 : goal.loop-form-preserved-in-Curve-1
loop-form-preserved-in-Curve-1 c = search (keep-past, c.in-Some.ensures)

pub loop-form-smaller-in-Tolerance : goal.loop-form-smaller-in-Tolerance
loop-form-smaller-in-Tolerance c = search (line-less, c.in-Some.ensures)

pub loop-form-preserved-in-Tolerance : goal.loop-form-preserved-in-Tolerance
loop-form-preserved-in-Tolerance c = search (keep-past, c.in-Some.ensures)

pub loop-form-smaller : goal.loop-form-smaller
loop-form-smaller c = search (line-less, c.in-Some.ensures)

pub loop-form-preserved : goal.loop-form-preserved
loop-form-preserved c = search (keep-past, c.in-Some.ensures)

pub returns : goal.returns
returns c = search (keep-stops, c.in_default.ensures)
