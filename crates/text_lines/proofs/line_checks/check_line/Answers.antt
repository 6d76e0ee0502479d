-- `text_lines::line_checks::check_line` meets its contract: the definition, form by form.
use Rattle.std.proofs.Common.{arith}
use Rattle.std.proofs.lemmas.Grind.{common_steps}
use Rattle.text_lines.specs.Inside.{after_line}
use Rattle.text_lines.proofs.line_checks.check_line.Goals as goal

pub returns-then-late : goal.returns-then-late
unfolding after_line
returns-then-late c = grind (arith, common_steps)

pub returns-in-None : goal.returns-in-None
unfolding after_line
returns-in-None c = grind (arith, common_steps)

pub returns-in-Some-Tolerance : goal.returns-in-Some-Tolerance
unfolding after_line
returns-in-Some-Tolerance c = grind (arith, common_steps)

pub returns-else-late : goal.returns-else-late
unfolding after_line
returns-else-late c = grind (arith, common_steps)

pub returns-in-Some-Point : goal.returns-in-Some-Point
unfolding after_line
returns-in-Some-Point c = grind (arith, common_steps)
