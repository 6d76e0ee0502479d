-- The band of a text (document 01, "Text program"): its first fault, or what banding answers for its outline at its
-- tolerance; and what stands in the records afterwards. A text may have 64 curves.
use Rattle.std.specs.Prelude.{List, ℕ, ℤ, Result, Err}
use Rattle.setting.specs.Setting.{texts}
use Rattle.refusals.specs.declared.Refusal.{Refusal}
use Rattle.band_banded.specs.declared.banding.Banded.{Banded}
use Rattle.band_banded.specs.Banding.{banded, written}
use Rattle.text_lines.specs.Meaning.{Meaning, refused, means}

abbrev pub band_of : Meaning → ℕ → Result Banded Refusal
band_of (refused r) room = Err r
band_of (means T outline points) room = banded texts T outline room

abbrev pub records_after : Meaning → List ℤ → List ℤ
records_after (refused r) old = old
records_after (means T outline points) old = written texts T outline old
