-- A point of a list that is judged in one call, in range: the first of its three numbers is 1 exactly where some drawn polygon of some record holds
-- it.
use mathlib.Core.Path.{◌≡◌, sym, ◌∙◌, ap, subst}
use mathlib.Core.Logic.{◌↔◌}
use mathlib.Core.List.{List}
use mathlib.Core.Option.{none}
use Prim.Native.Nat.{ℕ, ◌+◌, ◌*◌, ◌≤◌, ◌<◌}
use native.Mathlib.Nat.{add-zero}
use native.Mathlib.Omega.{arith}
use lib.ListN.{length}
use lib.IntN.{ℤ, pos}
use Rattle.integers.specs.Entry.{entry}
use Rattle.integers.proofs.Clash.{clash}
use Rattle.setting.specs.Setting.{Setting}
use Rattle.std.specs.Prelude.{Some, None, Ok, Err}
use Rattle.judge.specs.Judging.{Judgement, on, judging_fault, Verdict, Judged}
use Rattle.judge.specs.Judgements.{judgement}
use Rattle.judge.proofs.Judgements.{is_judged, judged_is}
use Rattle.judge_points.specs.Points.{judgement_numbers, points_judged, judged_into}
use Rattle.judge_points.proofs.Faults.{points_fine_law}
use Rattle.judge_points.proofs.Consequences.{answer_of_point}
use Rattle.draw_polygon.specs.declared.Point.{Point}
use Rattle.draw_holds.specs.Polygons.{point_at, InSomePolygon, JudgedOn}
use Rattle.draw_holds.proofs.Covers.{on_exactly_drawn}

-- ---- the first number of what judging says of a point that it accepts is 1 exactly where the point is judged on
module _ (σ : Setting) (ns : List ℤ) (p : Point) (fine : judging_fault σ ns p.x p.y ≡ none) where
  one_on : (a : Judgement) → Judged σ ns p.x p.y a → entry (judgement_numbers a) 0 ≡ pos 1 → JudgedOn σ ns p
  one_on (Ok (Some h)) j e = record { leaf = h.leaf; cover = h.cover; judged = j }
  one_on (Ok None) j e = clash (cc)
  one_on (Err r) j e = absurd (subst (λ o. Verdict σ o ns p.x p.y (Err r)) fine j)

  on_one : JudgedOn σ ns p → entry (judgement_numbers (judgement σ ns p.x p.y)) 0 ≡ pos 1
  on_one j = ap (λ a. entry (judgement_numbers a) 0) (sym (judged_is σ ns p.x p.y (on j.leaf j.cover) j.judged))

-- ---- where n points are judged in one call
pub one_exactly_drawn : (σ : Setting) (ns ps answers lent : List ℤ) (n : ℕ) → points_judged σ ns ps (length answers) ≡ Ok n → 16 ≤ length lent
    → (i : ℕ) → i < n → judging_fault σ ns (entry ps (2 * i)) (entry ps (2 * i + 1)) ≡ none
    → (entry (judged_into σ ns ps answers) (3 * i) ≡ pos 1) ↔ InSomePolygon σ ns lent (point_at ps i)
one_exactly_drawn σ ns ps answers lent n all enough i h fine =
    let p = point_at ps i in
    let exactly = on_exactly_drawn σ ns lent enough p fine in
    let f = points_fine_law σ ns ps (length answers) all in
    let first = ap (entry (judged_into σ ns ps answers)) (sym (add-zero (3 * i)))
    ∙ answer_of_point σ ns ps answers f.0 i 0 (subst (λ m. i < m) f.1 h) (omega arith) in (
      λ e. exactly.0 (one_on σ ns p fine (judgement σ ns p.x p.y) (is_judged σ ns p.x p.y) (sym first ∙ e)),
      λ s. first ∙ on_one σ ns p fine (exactly.1 s),
    )
