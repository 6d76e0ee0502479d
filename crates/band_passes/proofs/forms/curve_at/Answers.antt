-- The curve at a place of a list, by its form.
use mathlib.Core.Path.{sym, ◌∙◌, ap, subst}
use Rattle.curve_nodes.specs.declared.Curve.{Curve}
use Rattle.band_passes.specs.declared.forms.CurveList.{CurveList}
use Rattle.band_passes.specs.Inside.{form_of, numbers_of, read_at, StandsAt}
use Rattle.band_passes.proofs.forms.curve_at.Goals as goal
use Rattle.band_passes.proofs.forms.curve_at.Goals.{Start}

-- what is asked, and what is answered, of a list
abbrev asked : Start → CurveList → Type 0
asked s l = StandsAt (form_of l) (numbers_of l) s.args.at

abbrev answer : Start → CurveList → Curve
answer s l = read_at (form_of l) (numbers_of l) s.args.at

pub curve_at-requires : goal.curve_at-requires
curve_at-requires c = subst (asked (goal.at.curve_at-requires c).Start) c.in-Outline.is c.requires

pub curve_at-requires-in-Binary64 : goal.curve_at-requires-in-Binary64
curve_at-requires-in-Binary64 c = subst (asked (goal.at.curve_at-requires-in-Binary64 c).Start) c.in-Binary64.is c.requires

pub spline_at-requires : goal.spline_at-requires
spline_at-requires c = subst (asked (goal.at.spline_at-requires c).Start) c.in-Spline.is c.requires

pub returns-in-Outline : goal.returns-in-Outline
returns-in-Outline c = c.curve_at.ensures ∙ ap (answer (goal.at.returns-in-Outline c).Start) (sym c.in-Outline.is)

pub returns-in-Binary64 : goal.returns-in-Binary64
returns-in-Binary64 c = c.curve_at-in-Binary64.ensures ∙ ap (answer (goal.at.returns-in-Binary64 c).Start) (sym c.in-Binary64.is)

pub returns-in-Spline : goal.returns-in-Spline
returns-in-Spline c = c.spline_at.ensures ∙ ap (answer (goal.at.returns-in-Spline c).Start) (sym c.in-Spline.is)
