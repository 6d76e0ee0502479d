-- `run`: the text that was read is the front of all that the reader had, and its answer is that of all.
use Rattle.std.proofs.Common.{rules}
use Rattle.std.specs.Io.KnownBytes.{Appends}
use Rattle.contour_band.specs.Bytes.{AppendsFront}
use Rattle.contour_band.proofs.Fronts.{of_front}
use Rattle.contour_band.proofs.run.Goals as goal

pub returns-in-Ok-put_answer-clause-whole : goal.returns-in-Ok-put_answer-clause-whole
returns-in-Ok-put_answer-clause-whole g c =
    of_front _ _ c.read_text.new.text (Appends _ _) (search rules) c.in-Ok.ensures.front c.in-Ok-put_answer.ensures.whole

pub returns-in-Err-put_answer-clause-part : goal.returns-in-Err-put_answer-clause-part
returns-in-Err-put_answer-clause-part g c =
    of_front _ _ c.read_text.new.text (AppendsFront _ _) (search rules) c.in-Ok.ensures.front c.in-Err-put_answer.ensures.part
