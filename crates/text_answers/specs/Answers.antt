-- What the program answers to a text (document 01, "Text program"): the first fault of the text, or banding's refusal,
-- or the leaves, the report and then the points in turn. 16,380 numbers are lent; the points are judged against the
-- first 18 × leaves of them.
use Rattle.std.specs.Prelude.{List, [], ◌++◌, ℕ, ◌*◌, take, replicate, ℤ, pos, Result, Ok, Err}
use Rattle.setting.specs.Setting.{standard, record_length}
use Rattle.refusals.specs.declared.Refusal.{Refusal}
use Rattle.band_banded.specs.declared.banding.Banded.{Banded}
use Rattle.text_lines.specs.Meaning.{Meaning, refused, means, meaning}
use Rattle.write_lines.specs.Answers.{refused_line}
use Rattle.text_answers.specs.Bands.{band_of, records_after}
use Rattle.write_lines.specs.BandLines.{band_lines}
use Rattle.text_answers.specs.Points.{point_answers}

-- how many numbers are lent for records
abbrev pub lent : ℕ
lent = 16380

abbrev pub points_of : Meaning → List (ℤ × ℤ)
points_of (refused r) = []
points_of (means T outline points) = points

abbrev pub lines : Result Banded Refusal → List ℤ → List (ℤ × ℤ) → List ℕ
lines (Err r) records points = refused_line r
lines (Ok b) records points =
    band_lines b.curves b.leaves b.nodes records
    ++ point_answers (take (record_length standard * b.leaves) records) points

unfoldable pub answer_to : Meaning → List ℕ
answer_to m = lines (band_of m lent) (records_after m (replicate lent (pos 0))) (points_of m)

unfoldable pub answer_of : List ℕ → List ℕ
answer_of s = answer_to (meaning s)
