-- Demand 3 of each point of a list that is judged in one call, and what a caller may conclude from the numbers in the list of answers.
use mathlib.Core.Path.{◌≡◌, refl, sym, ◌∙◌, ap, subst}
use mathlib.Core.Bool.{Bool, true, false}
use mathlib.Core.List.{List}
use mathlib.Core.Option.{Option, none, some}
use Prim.Native.Nat.{ℕ, ◌+◌, ◌*◌, ◌≤◌, ◌<◌}
use native.Mathlib.Nat.{add-zero}
use native.Mathlib.Omega.{arith}
use lib.ListN.{length, take}
use lib.IntN.{ℤ, pos}
use lib.Ieee.{Float}
use Rattle.std.specs.Prelude.{Some, None, Ok, Err}
use Rattle.integers.specs.Entry.{entry}
use Rattle.integers.proofs.Clash.{clash}
use Rattle.curve_nodes.specs.declared.Curve.{Curve}
use Rattle.curve_nodes.specs.Points.{Equals}
use Rattle.setting.specs.Setting.{Setting, lists, splines, scale, record_length}
use Rattle.outline.specs.Checks.{Outlined, outlined}
use Rattle.outline_binary64.specs.Lists.{outlined_binary64}
use Rattle.outline_splines.specs.Splines.{splined}
use Rattle.refusals.specs.declared.Refusal.{Refusal}
use Rattle.refusals.specs.declared.Refusal.TheVariants.{PointX, PointY}
use Rattle.refusals.specs.Refusals.{number_of}
use Rattle.boxes.specs.Ranges.{in_range}
use Rattle.band_banded.specs.Banding.{done, banded, written, banded_spline, written_spline}
use Rattle.band_banded.specs.Banding.{banded_binary64, written_binary64}
use Rattle.judge.specs.Judging.{Judgement, point_fault, list_fault, judging_fault, Judged}
use Rattle.judge.specs.Judgements.{judgement}
use Rattle.judge.proofs.Judgements.{is_judged, judged_fault}
use Rattle.judge_points.specs.Points.{judgement_numbers, points_judged, judged_into}
use Rattle.judge_points.proofs.Faults.{points_fine_law, list_fine}
use Rattle.judge_points.proofs.Consequences.{answer_of_point}
use Rattle.demand_3.specs.Demand3.{CurveOf, IsOn, Somewhere, GivenDemand3}
use Rattle.demand_3.specs.Points.{PointDemand3}
use Rattle.demand_3.proofs.Demand3.{demand_3_listed, binary64_demand_3, spline_demand_3}

-- ---- 1 in front is said of points judged on alone: a point that is refused has 11 there
eleven : (x y : ℤ) {r : Refusal} → point_fault x y ≡ some r → number_of r ≡ 11
eleven x y {r} = go (in_range x) (in_range y)
  where
    go : (a b : Bool) → ◌≡◌ {A = Option Refusal} (elim a [ false ↦ some PointX | true ↦ elim b [ false ↦ some PointY | true ↦ none ] ]) (some r)
        → number_of r ≡ 11
    go false b e = subst (λ q. number_of q ≡ 11) {x = PointX} {y = r} (cc) refl
    go true false e = subst (λ q. number_of q ≡ 11) {x = PointY} {y = r} (cc) refl
    go true true e = clash (cc)

module _ (σ : Setting) (ns : List ℤ) (x y : ℤ) (fine : list_fault σ ns ≡ none) where
  only_point : judging_fault σ ns x y ≡ point_fault x y
  unfolding judging_fault
  only_point = rw (judging_fault, fine)

  one_on : (a : Judgement) → Judged σ ns x y a → entry (judgement_numbers a) 0 ≡ pos 1 → IsOn a
  one_on (Ok (Some h)) j e = record { leaf = h.leaf; cover = h.cover; is = refl }
  one_on (Ok None) j e = clash (cc)
  one_on (Err r) j e = let n = eleven x y (sym only_point ∙ judged_fault σ ns x y r j) in clash (cc)

-- ---- leaves of which demand 3 holds, whatever judging answers: it holds of each point that is judged in one call
module _ (σ : Setting) (T : ℤ) (o : Outlined) (leaves ps lent : List ℤ) (n : ℕ)
    (demand : (x y : ℤ) (answer : Judgement) → Judged (lists σ.pieces) leaves x y answer → GivenDemand3 σ T o leaves x y answer)
    (all : points_judged (lists σ.pieces) leaves ps (length lent) ≡ Ok n) where
  abbrev answers : List ℤ
  answers = judged_into (lists σ.pieces) leaves ps lent

  pub each_point : (i : ℕ) → i < n → PointDemand3 σ T o leaves ps answers i
  each_point i h =
      let τ = lists σ.pieces in
      let x = entry ps (2 * i) in
      let y = entry ps (2 * i + 1) in
      let said = judgement τ leaves x y in
      let judged = is_judged τ leaves x y in
      let f = points_fine_law τ leaves ps (length lent) all in
      let numbers : (k : ℕ) → k < 3 → entry answers (3 * i + k) ≡ entry (judgement_numbers said) k =
      λ k l. answer_of_point τ leaves ps lent f.0 i k (subst (λ m. i < m) f.1 h) l in
      record {
        judgement = said;
        judged = judged;
        numbers = numbers;
        one_is_on =
            λ e. one_on τ leaves x y (list_fine τ leaves ps (length lent) f.0) said judged
            (sym (numbers 0 (omega arith)) ∙ ap (entry answers) (add-zero (3 * i)) ∙ e);
        demand_3 = demand x y said judged;
      }

-- ---- what a caller may conclude: a point of a curve has 1 in front, and a point with 1 in front is near a curve
module _ {σ : Setting} {T : ℤ} {o : Outlined} {rs ps answers : List ℤ} {i : ℕ} (claim : PointDemand3 σ T o rs ps answers i) where
  pub point_answered_one : (k : ℕ) (d : Curve) → CurveOf claim.demand_3.all k d → (p r : ℕ) → 0 < p + r
      → Equals (scale σ) d p r (entry ps (2 * i)) (entry ps (2 * i + 1)) → entry answers (3 * i) ≡ pos 1
  point_answered_one k d of p r positive equals =
      let on = claim.demand_3.demand_3.every_point_on k d of p r positive equals in
      ap (entry answers) (sym (add-zero (3 * i))) ∙ claim.numbers 0 (omega arith) ∙ ap (λ a. entry (judgement_numbers a) 0) on.is

  pub one_answered_near : entry answers (3 * i) ≡ pos 1 → Somewhere σ T claim.demand_3.all (entry ps (2 * i)) (entry ps (2 * i + 1))
  one_answered_near e = claim.demand_3.demand_3.every_on_near (claim.one_is_on e)

-- ---- the leaves that banding wrote for an outline, in every setting of units with at most the curves of lists, so in that of lists and in the bench
-- station's
pub points_demand_3 : (σ : Setting) → σ.sixths ≡ false → σ.most ≤ (lists σ.pieces).most → (T : ℤ) (ns old : List ℤ) (a b c : ℕ)
    → banded σ T ns (length old) ≡ done a b c → (ps lent : List ℤ) (n : ℕ)
    → let leaves = take (record_length σ * b) (written σ T ns old) in points_judged (lists σ.pieces) leaves ps (length lent) ≡ Ok n
    → (i : ℕ) → i < n → PointDemand3 (lists σ.pieces) T (outlined (lists σ.pieces).most σ.pieces ns) leaves ps
    (judged_into (lists σ.pieces) leaves ps lent) i
points_demand_3 σ units few T ns old a b c said ps lent n =
    each_point (lists σ.pieces) T (outlined (lists σ.pieces).most σ.pieces ns) (take (record_length σ * b) (written σ T ns old)) ps lent n
    (demand_3_listed σ units few T ns old a b c said)

-- ---- those that it wrote for an outline in binary64
pub binary64_points_demand_3 : (m : ℕ) (T : ℤ) (xs : List Float) (old : List ℤ) (a b c : ℕ) → banded_binary64 m T xs (length old) ≡ done a b c
    → (ps lent : List ℤ) (n : ℕ)
    → let leaves = take (record_length (lists m) * b) (written_binary64 m T xs old) in points_judged (lists m) leaves ps (length lent) ≡ Ok n
    → (i : ℕ) → i < n → PointDemand3 (lists m) T (outlined_binary64 4096 m xs) leaves ps (judged_into (lists m) leaves ps lent) i
binary64_points_demand_3 m T xs old a b c said ps lent n =
    each_point (lists m) T (outlined_binary64 4096 m xs) (take (record_length (lists m) * b) (written_binary64 m T xs old)) ps lent n
    (binary64_demand_3 m T xs old a b c said)

-- ---- and those that it wrote for a B-spline
pub spline_points_demand_3 : (m : ℕ) (T : ℤ) (ns old : List ℤ) (a b c : ℕ) → banded_spline m T ns (length old) ≡ done a b c
    → (ps lent : List ℤ) (n : ℕ)
    → let leaves = take (record_length (lists m) * b) (written_spline m T ns old) in points_judged (lists m) leaves ps (length lent) ≡ Ok n
    → (i : ℕ) → i < n → PointDemand3 (splines m) T (splined ns) leaves ps (judged_into (lists m) leaves ps lent) i
spline_points_demand_3 m T ns old a b c said ps lent n =
    each_point (splines m) T (splined ns) (take (record_length (lists m) * b) (written_spline m T ns old)) ps lent n
    (spline_demand_3 m T ns old a b c said)
