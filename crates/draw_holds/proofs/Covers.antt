-- The covers of a leaf list that judging accepts: drawing accepts the two boxes of each, and its polygon holds exactly what the cover holds. So a
-- point is judged on exactly where some drawn polygon of some record holds it.
use mathlib.Core.Path.{◌≡◌, refl, subst}
use mathlib.Core.Logic.{◌↔◌}
use mathlib.Core.Bool.{Bool, true}
use mathlib.Core.List.{List, ◌++◌}
use mathlib.Core.Option.{Option, none, some}
use Prim.Native.Nat.{ℕ, zero, suc, ◌+◌, ◌*◌, ◌%◌, ◌≤◌, ◌<◌}
use native.Mathlib.Nat.{mul-mod_right}
use native.Mathlib.Omega.{arith}
use lib.ListN.{length}
use lib.IntN.{ℤ}
use Rattle.integers.specs.Entry.{entry}
use Rattle.integers.proofs.Clash.{clash}
use Rattle.integers.proofs.First.{none_bad, bad_none}
use Rattle.setting.specs.Setting.{Setting, break_points, covers, record_length}
use Rattle.refusals.specs.declared.Refusal.{Refusal}
use Rattle.boxes.specs.Ranges.{in_range, low_fine, box_number_fine, numbers_of}
use Rattle.boxes.specs.Records.{box_index, box_at_index}
use Rattle.judge_list.specs.Inside.{fine_at, record_fault_at}
use Rattle.judge_cover.specs.Covers.{CoverHolds}
use Rattle.std.specs.Prelude.{Some, None, Ok, Err}
use Rattle.judge.specs.Judging.{Judgement, off, point_fault, list_fault, judging_fault, Passed, Verdict, Judged}
use Rattle.judge.specs.Judgements.{judgement}
use Rattle.judge.specs.Inside.{RecordAt}
use Rattle.judge.proofs.Answers.{list_passed}
use Rattle.judge.proofs.Judgements.{is_judged, judged_on}
use Rattle.judge.proofs.Holders.{record_passed}
use Rattle.draw_polygon.specs.declared.Point.{Point}
use Rattle.draw.specs.Drawing.{two_boxes_fault}
use Rattle.draw_holds.specs.InPolygon.{InPolygon}
use Rattle.draw_holds.specs.Polygons.{cover_polygon, InSomePolygon, JudgedOn}
use Rattle.draw_holds.proofs.Theorems.{held_exactly_drawn}

-- ---- a record that passes check 10: two neighbouring boxes pass check 12
even_fine : (q : ℕ) (z next : ℤ) → q % 2 ≡ 0 → box_number_fine q z next ≡ true → low_fine z next ≡ true
even_fine q z next e f = go (q % 2) e f
  where
    go : (m : ℕ) → m ≡ 0 → ◌≡◌ {A = Bool} (elim m [ zero ↦ low_fine z next | suc _ ↦ in_range z ]) true → low_fine z next ≡ true
    go zero e f = f
    go (suc m) e f = absurd (omega arith)

odd_fine : (q : ℕ) (z next : ℤ) → q % 2 ≡ 1 → box_number_fine q z next ≡ true → in_range z ≡ true
odd_fine q z next e f = go (q % 2) e f
  where
    go : (m : ℕ) → m ≡ 1 → ◌≡◌ {A = Bool} (elim m [ zero ↦ low_fine z next | suc _ ↦ in_range z ]) true → in_range z ≡ true
    go zero e f = absurd (omega arith)
    go (suc m) e f = f

module _ {σ : Setting} {ns : List ℤ} {at : ℕ} (r : RecordAt σ ns at) where
  number_fine_law : (q : ℕ) → q < 4 * break_points σ → {i j : ℕ} → at + (2 + q) ≡ i → at + (3 + q) ≡ j
      → box_number_fine q (entry ns i) (entry ns j) ≡ true
  unfolding record_fault_at
  number_fine_law q h {i} {j} d f =
      let t = none_bad (fine_at σ.most ns at) (record_length σ) 0 r.fine (suc (suc q)) (omega arith) in
      let n : 0 + suc (suc q) ≡ suc (suc q) = omega arith in
      let l : i ≡ at + suc (suc q) = omega arith in
      let m : j ≡ at + suc (suc (suc q)) = omega arith in
      rw (l, m) (rw n at t)

  low_fine_law : (q : ℕ) → q < 4 * break_points σ → q % 2 ≡ 0 → {i j : ℕ} → at + (2 + q) ≡ i → at + (3 + q) ≡ j
      → low_fine (entry ns i) (entry ns j) ≡ true
  low_fine_law q h e {i} {j} d f = even_fine q (entry ns i) (entry ns j) e (number_fine_law q h d f)

  high_fine_law : (q : ℕ) → q < 4 * break_points σ → q % 2 ≡ 1 → {i : ℕ} → at + (2 + q) ≡ i → in_range (entry ns i) ≡ true
  high_fine_law q h e {i} d = odd_fine q (entry ns i) (entry ns (at + (3 + q))) e (number_fine_law q h d refl)

  module _ (i : ℕ) where
    abbrev all : List ℤ
    all = numbers_of (box_at_index ns (at + (2 + 4 * i))) ++ numbers_of (box_at_index ns (at + (2 + 4 * suc i)))

    abbrev fine : ℕ → Bool
    fine p = box_number_fine p (entry all p) (entry all (suc p))

    pub boxes_accepted : i < covers σ → two_boxes_fault (box_at_index ns (at + (2 + 4 * i))) (box_at_index ns (at + (2 + 4 * suc i))) ≡ none
    boxes_accepted h = bad_none fine 8 0 each
      where
        each : (p : ℕ) → p < 8 → fine (0 + p) ≡ true
        each zero l = low_fine_law (4 * i) (omega arith) (omega arith) (omega arith) (omega arith)
        each (suc zero) l = high_fine_law (4 * i + 1) (omega arith) (omega arith) (omega arith)
        each (suc (suc zero)) l = low_fine_law (4 * i + 2) (omega arith) (omega arith) (omega arith) (omega arith)
        each (suc (suc (suc zero))) l = high_fine_law (4 * i + 3) (omega arith) (omega arith) (omega arith)
        each (suc (suc (suc (suc zero)))) l = low_fine_law (4 * i + 4) (omega arith) (omega arith) (omega arith) (omega arith)
        each (suc (suc (suc (suc (suc zero))))) l = high_fine_law (4 * i + 5) (omega arith) (omega arith) (omega arith)
        each (suc (suc (suc (suc (suc (suc zero)))))) l = low_fine_law (4 * i + 6) (omega arith) (omega arith) (omega arith) (omega arith)
        each (suc (suc (suc (suc (suc (suc (suc zero))))))) l = high_fine_law (4 * i + 7) (omega arith) (omega arith) (omega arith)
        each (suc (suc (suc (suc (suc (suc (suc (suc p)))))))) l = absurd (omega arith)

-- ---- a leaf list that passes checks 9 and 10, and a list of 16 numbers or more that is lent: cover i of record k
module _ (σ : Setting) (ns lent : List ℤ) (enough : 16 ≤ length lent) where
  pub cover_exactly_drawn : Passed σ ns → (k i : ℕ) → record_length σ * k < length ns → i < covers σ → (p : Point)
      → CoverHolds σ ns k i p.x p.y ↔ InPolygon (cover_polygon σ ns lent k i) p
  cover_exactly_drawn passed k i l h p =
      let r = record_passed passed (record_length σ * k) (mul-mod_right (record_length σ) k) l in
      held_exactly_drawn (box_at_index ns (box_index σ k i)) (box_at_index ns (box_index σ k (suc i))) lent (boxes_accepted r i h) enough p

  -- ---- a leaf list and a point that judging accepts
  module _ (p : Point) (fine : judging_fault σ ns p.x p.y ≡ none) where
    passed : Passed σ ns
    unfolding judging_fault
    passed = (list_passed σ ns (go (list_fault σ ns) fine)).1
      where
        go : (o : Option Refusal) → ◌≡◌ {A = Option Refusal} (elim o [ some r ↦ some r | none ↦ point_fault p.x p.y ]) none → o ≡ none
        go none e = refl
        go (some r) e = clash (cc)

    on_drawn : JudgedOn σ ns p → InSomePolygon σ ns lent p
    on_drawn on =
        let f = judged_on σ ns p.x p.y on.leaf on.cover on.judged in
        record {
          leaf = on.leaf;
          cover = on.cover;
          inside = f.inside;
          few = f.cover;
          holds = (cover_exactly_drawn passed on.leaf on.cover f.inside f.cover p).0 f.holds;
        }

    -- no cover holds a point that is judged off
    off_drawn : Judged σ ns p.x p.y off → InSomePolygon σ ns lent p → ⊥
    off_drawn j s =
        subst (λ o. Verdict σ o ns p.x p.y off) fine j s.leaf s.cover s.inside s.few
        ((cover_exactly_drawn passed s.leaf s.cover s.inside s.few p).1 s.holds)

    drawn_on : InSomePolygon σ ns lent p → JudgedOn σ ns p
    drawn_on s = go (judgement σ ns p.x p.y) (is_judged σ ns p.x p.y)
      where
        go : (a : Judgement) → Judged σ ns p.x p.y a → JudgedOn σ ns p
        go (Ok (Some h)) j = record { leaf = h.leaf; cover = h.cover; judged = j }
        go (Ok None) j = absurd (off_drawn j s)
        go (Err r) j = absurd (subst (λ o. Verdict σ o ns p.x p.y (Err r)) fine j)

    pub on_exactly_drawn : JudgedOn σ ns p ↔ InSomePolygon σ ns lent p
    on_exactly_drawn = (on_drawn, drawn_on)

    pub off_exactly_drawn : Judged σ ns p.x p.y off ↔ (InSomePolygon σ ns lent p → ⊥)
    off_exactly_drawn = (off_drawn, none_off)
      where
        none_off : (InSomePolygon σ ns lent p → ⊥) → Judged σ ns p.x p.y off
        none_off n = go (judgement σ ns p.x p.y) (is_judged σ ns p.x p.y)
          where
            go : (a : Judgement) → Judged σ ns p.x p.y a → Judged σ ns p.x p.y off
            go (Ok (Some h)) j = absurd (n (on_drawn (record { leaf = h.leaf; cover = h.cover; judged = j })))
            go (Ok None) j = j
            go (Err r) j = absurd (subst (λ o. Verdict σ o ns p.x p.y (Err r)) fine j)
