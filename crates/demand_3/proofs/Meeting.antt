-- The point between two curves of an accepted outline is on, and the leaves cover it twice: from demand 3, and from neighbours that meet.
use mathlib.Core.Path.{◌≡◌, sym, ◌∙◌, ap, subst}
use mathlib.Core.Bool.{false}
use mathlib.Core.List.{List, [], ◌∷◌, ◌++◌}
use Prim.Native.Nat.{ℕ, suc, ◌*◌}
use native.Mathlib.Omega.{arith}
use lib.ListN.{length, take}
use lib.IntN.{ℤ, pos, ◌*ℤ◌}
use Rattle.integers.specs.Entry.{entry}
use Rattle.integers.proofs.RingLaws.{one-*ℤ}
use Rattle.curve_nodes.specs.declared.Curve.{Curve}
use Rattle.curve_nodes.specs.Points.{scaled, sixteenths, Equals}
use Rattle.curve_bernstein.proofs.Ends.{value_start, value_end, one_powers}
use Rattle.setting.specs.Setting.{Setting, record_length}
use Rattle.outline.specs.Meeting.{CurvesMeet}
use Rattle.outline.specs.Checks.{Outlined, curves, outlined}
use Rattle.outline.proofs.Accepted.{outlined_from, accepted_all, accepted_pieces}
use Rattle.outline.proofs.Meeting.{curves_meet}
use Rattle.band_banded.specs.Banding.{done, banded, written}
use Rattle.band_banded.proofs.Theorems.{done_exactly, faultless_rows, records_written}
use Rattle.judge.specs.Judging.{Judgement, Judged}
use Rattle.demand_3.specs.Demand3.{CurveOf}
use Rattle.demand_3.specs.Meeting.{EndsAt, HeldAt, CoveredTwice}
use Rattle.demand_3.proofs.Demand3.{held_at, demand_3}

-- ---- the ends of a curve are its values at 0 and 1
coordinate_start : (d : ℕ) (cs : List ℤ) (z : ℤ) → z ≡ pos 16 *ℤ entry cs 0 → scaled 1 d 0 1 z ≡ sixteenths d 0 1 cs
coordinate_start d cs z e = one-*ℤ _ ∙ ap (λ w. w *ℤ z) (one_powers d) ∙ one-*ℤ z ∙ e ∙ ap (λ v. pos 16 *ℤ v) (sym (value_start d cs))

coordinate_end : (d : ℕ) (cs : List ℤ) (z : ℤ) → z ≡ pos 16 *ℤ entry cs d → scaled 1 d 1 0 z ≡ sixteenths d 1 0 cs
coordinate_end d cs z e = one-*ℤ _ ∙ ap (λ w. w *ℤ z) (one_powers d) ∙ one-*ℤ z ∙ e ∙ ap (λ v. pos 16 *ℤ v) (sym (value_end d cs))

module _ {c : Curve} {x y : ℤ} (e : EndsAt c x y) where
  at_end : Equals 1 c 1 0 x y
  at_end = record { in_x = coordinate_end c.degree c.x x e.in_x; in_y = coordinate_end c.degree c.y y e.in_y }

  at_next_start : {d : Curve} → CurvesMeet c d → Equals 1 d 0 1 x y
  at_next_start {d} m = record {
    in_x = coordinate_start d.degree d.x x (e.in_x ∙ ap (λ z. pos 16 *ℤ z) m.in_x);
    in_y = coordinate_start d.degree d.y y (e.in_y ∙ ap (λ z. pos 16 *ℤ z) m.in_y);
  }

-- ---- an outline gives one list of curves
pub same_curves : {o : Outlined} {cs ds : List Curve} → o ≡ curves cs → o ≡ curves ds → cs ≡ ds
same_curves e f = cc

-- ---- neighbours by their numbers stand one behind the other
next_curve_is : (bs ds after rest : List Curve) (c d : Curve) → length ds ≡ suc (length bs) → bs ++ c ∷ after ≡ ds ++ d ∷ rest → after ≡ d ∷ rest
next_curve_is [] (b ∷ []) after rest c d l e = cc
next_curve_is [] (b ∷ a ∷ ds) after rest c d l e = absurd (omega arith)
next_curve_is [] [] after rest c d l e = absurd (omega arith)
next_curve_is (b ∷ bs) [] after rest c d l e = absurd (omega arith)
next_curve_is (b ∷ bs) (a ∷ ds) after rest c d l e = next_curve_is bs ds after rest c d (omega arith) (cc)

pub numbers_meet : (most m : ℕ) (ns : List ℤ) (cs : List Curve) → outlined most m ns ≡ curves cs
    → (k : ℕ) (c d : Curve) → CurveOf cs k c → CurveOf cs (suc k) d → CurvesMeet c d
numbers_meet most m ns cs o k c d first second =
    let number = second.number ∙ ap suc (sym first.number) in
    let after = next_curve_is first.before second.before first.after second.after c d number (sym first.split ∙ second.split) in
    curves_meet most m ns first.before c d second.after (o ∙ ap curves (first.split ∙ ap (λ l. first.before ++ c ∷ l) after))

-- ---- the point where curve k ends and curve k + 1 begins
pub covered_twice : (σ : Setting) → σ.sixths ≡ false → (T : ℤ) (ns old : List ℤ) (a b n : ℕ) → banded σ T ns (length old) ≡ done a b n
    → (cs : List Curve) → outlined σ.most σ.pieces ns ≡ curves cs
    → (k : ℕ) (c d : Curve) → CurveOf cs k c → CurveOf cs (suc k) d → (x y : ℤ) → EndsAt c x y
    → (answer : Judgement) → Judged σ (take (record_length σ * b) (written σ T ns old)) x y answer
    → CoveredTwice σ (take (record_length σ * b) (written σ T ns old)) k x y answer
covered_twice σ units T ns old a b n said cs o k c d first second x y ends answer judged =
    let h = (done_exactly σ T ns (length old) a b n).0 said in
    let same = same_curves h.1.outline o in
    let from = outlined_from σ.most σ.pieces ns h.0 h.1.outline in
    let sized = accepted_all σ.most σ.pieces ns 0 h.0 from in
    let takes = accepted_pieces σ.most σ.pieces ns 0 h.0 from in
    let held = held_at σ (faultless_rows h.1) T h.0 sized takes h.2.meet in
    let d3 = demand_3 σ T ns old a b n said x y answer judged in
    let is = records_written σ T ns old h.1 h.2 in
    let next = at_next_start ends (numbers_meet σ.most σ.pieces ns cs o k c d first second) in
    record {
      on = d3.demand_3.every_point_on k c (rw (same_curves d3.are o) first) 1 0 (omega arith) (rw units (at_end ends));
      last_leaf = subst (λ rs. HeldAt σ rs k 1 0 x y) (sym is) (held k c (rw same first) 1 0 (omega arith) x y (rw units (at_end ends)));
      first_leaf = subst (λ rs. HeldAt σ rs (suc k) 0 1 x y) (sym is) (held (suc k) d (rw same second) 0 1 (omega arith) x y (rw units next));
    }
