-- `put_answer`: the bytes that are written are the answer, which stands at the front of the list.
use Rattle.std.proofs.Common.{rules}
use Rattle.write_numbers.proofs.Appends.{appended_front}
use Rattle.contour_band.proofs.Steps.{flushed_whole, flushed_part, failed_part}
use Rattle.contour_band.proofs.put_answer.Goals as goal

pub returns-in_err-write_all-clause-part : goal.returns-in_err-write_all-clause-part
returns-in_err-write_all-clause-part g c =
    failed_part _ _ _ _ _ (appended_front _ _ _ _ c.answer-k.ensures.put (search rules)) c.in_err-write_all.ensures.part

pub returns-clause-whole : goal.returns-clause-whole
returns-clause-whole g c =
    flushed_whole _ _ _ _ _ _ (appended_front _ _ _ _ c.answer-k.ensures.put (search rules)) c.in_ok-write_all.ensures.whole c.flush.ensures.bytes

pub returns-clause-part : goal.returns-clause-part
returns-clause-part g c =
    flushed_part _ _ _ _ _ _ (appended_front _ _ _ _ c.answer-k.ensures.put (search rules)) c.in_ok-write_all.ensures.whole c.flush.ensures.bytes
