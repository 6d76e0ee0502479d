-- The checks of the list that is read, by its form.
use mathlib.Core.Path.{sym, ◌∙◌, ap}
use Rattle.std.specs.Prelude.{ℕ, Result}
use Rattle.refusals.specs.declared.Refusal.{Refusal}
use Rattle.outline.specs.Inside.{checked_of}
use Rattle.band_passes.specs.declared.forms.CurveList.{CurveList}
use Rattle.band_banded.specs.Inside.{given_of}
use Rattle.band.proofs.check_list.Goals as goal
use Rattle.band.proofs.check_list.Goals.{Start}

-- the answer, of a list
abbrev answer : Start → CurveList → Result ℕ Refusal
answer s l = checked_of (given_of l s.args.most s.args.m)

pub returns-in-Outline : goal.returns-in-Outline
returns-in-Outline c = c.check_outline.ensures ∙ ap (answer (goal.at.returns-in-Outline c).Start) (sym c.in-Outline.is)

pub returns-in-Binary64 : goal.returns-in-Binary64
returns-in-Binary64 c = c.check_outline-in-Binary64.ensures ∙ ap (answer (goal.at.returns-in-Binary64 c).Start) (sym c.in-Binary64.is)

pub returns-in-Spline : goal.returns-in-Spline
returns-in-Spline c = c.check_spline.ensures ∙ ap (answer (goal.at.returns-in-Spline c).Start) (sym c.in-Spline.is)
