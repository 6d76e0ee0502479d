-- The tightest band for programs in other languages.
use mathlib.Core.Path.{◌∙◌, ap}
use Rattle.contour.specs.Tightest.{tightest_answer_of}
use Rattle.contour.proofs.contour_tightest.Goals as goal

pub returns : goal.returns
returns c = c.tightest_in_numbers.ensures ∙ ap tightest_answer_of c.tightest_band-tightest.ensures
