-- Where the next curve of a list is, by its form.
use mathlib.Core.Path.{sym, ◌∙◌, ap, subst}
use Prim.Native.Nat.{ℕ}
use native.Mathlib.Omega.{arith}
use Rattle.band_passes.specs.declared.forms.CurveList.{CurveList}
use Rattle.band_passes.specs.Inside.{form_of, numbers_of, next_of, StandsAt}
use Rattle.band_passes.proofs.forms.next_of.Goals as goal
use Rattle.band_passes.proofs.forms.next_of.Goals.{Start}

-- what is asked, and what is answered, of a list
abbrev asked : Start → CurveList → Type 0
asked s l = StandsAt (form_of l) (numbers_of l) s.args.at

abbrev answer : Start → CurveList → ℕ
answer s l = next_of (form_of l) (numbers_of l) s.args.at

pub next_at-requires : goal.next_at-requires
next_at-requires c = (subst (asked (goal.at.next_at-requires c).Start) c.in-Outline.is c.requires).0

pub next_at-requires-in-Binary64 : goal.next_at-requires-in-Binary64
next_at-requires-in-Binary64 c = (subst (asked (goal.at.next_at-requires-in-Binary64 c).Start) c.in-Binary64.is c.requires).degree

pub overflow_add-result : goal.overflow_add-result
overflow_add-result c =
    let h = subst (asked (goal.at.overflow_add-result c).Start) c.in-Spline.is c.requires in
    let w = rw c.in-Spline.is at c.well_formed in
    omega (arith, h, w.0.1.1.1.1.0.0.1.1)

pub returns-in-Outline : goal.returns-in-Outline
returns-in-Outline c = c.next_at.ensures ∙ ap (answer (goal.at.returns-in-Outline c).Start) (sym c.in-Outline.is)

pub returns-in-Binary64 : goal.returns-in-Binary64
returns-in-Binary64 c = c.next_at-in-Binary64.ensures ∙ ap (answer (goal.at.returns-in-Binary64 c).Start) (sym c.in-Binary64.is)

pub returns-in-Spline : goal.returns-in-Spline
returns-in-Spline c = ap (answer (goal.at.returns-in-Spline c).Start) (sym c.in-Spline.is)
