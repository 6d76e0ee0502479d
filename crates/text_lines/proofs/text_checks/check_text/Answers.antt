-- `text_lines::text_checks::check_text` meets its contract: the size first, then the lines.
use Rattle.text_lines.proofs.Faults.{text_too_long, text_lines}
use Rattle.text_lines.proofs.text_checks.check_text.Goals as goal

pub returns-then-text-gt16384 : goal.returns-then-text-gt16384
returns-then-text-gt16384 c = search text_too_long

pub returns : goal.returns
returns c = search text_lines
