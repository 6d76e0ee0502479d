-- The loop's invariant: `Checking`, of the place up to which the reader has read, in the text that the reader was lent. The measure is what is left
-- to read.
use Rattle.std.proofs.Common.{◌≡◌, ◌-◌, length}
use Rattle.text_lines.proofs.Faults.{Checking}
use Rattle.text_lines.proofs.line_checks.check_rest.Given as goal

abbrev pub invariant-loop-reader : goal.invariant-loop-reader
invariant-loop-reader l = record { checking : Checking l.text l.at l.late l.reader.read l.line; of_text : l.reader.text.now ≡ l.text }

abbrev pub decreases-loop-reader : goal.decreases-loop-reader
decreases-loop-reader l = length l.text - l.reader.read
