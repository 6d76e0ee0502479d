-- Demand 3, as one theorem from a list of curves and a tolerance to the answer of judging, and from the outline that banding is given. Judging is
-- known here by what it promises of its answer alone. That it refuses no point of the curves is proved, not assumed.
use mathlib.Core.Path.{◌≡◌, refl, sym, ◌∙◌, ap, subst}
use mathlib.Core.Bool.{true, false}
use mathlib.Core.List.Memᴰ
use mathlib.Core.List.{List, [], ◌∷◌, ◌++◌, Memᴰ}
use mathlib.Core.Option.{Option, none, some}
use Prim.Native.Nat.{ℕ, suc, ◌+◌, ◌*◌, ◌^◌, ◌≤◌, ◌<◌}
use native.Mathlib.Nat.{le_of_eq, mul-zero}
use native.Mathlib.Omega.{arith}
use lib.Dec.{lit≤}
use lib.ListN.{length, take}
use lib.IntN.{ℤ, pos}
use lib.Ieee.{Float}
use Rattle.std.specs.Prelude.{Some, None, Ok, Err}
use Rattle.integers.specs.Entry.{entry}
use Rattle.curve_nodes.specs.declared.Curve.{Curve}
use Rattle.curve_halves.specs.Sizes.{Each}
use Rattle.curve_nodes.specs.Bounds.{Sized}
use Rattle.curve_nodes.specs.Points.{Equals}
use Rattle.curve_halves.proofs.Sizes.{each_wider}
use Rattle.setting.specs.Setting.{Setting, lists_of, lists, splines, station, HasRows, scale, covers, record_length, degree_pieces, deepest}
use Rattle.setting.proofs.Scales.{scale_some}
use Rattle.refusals.specs.declared.Refusal.{Refusal}
use Rattle.outline.specs.Checks.{Outlined}
use Rattle.walk_curve.specs.Walked.{node_meets}
use Rattle.walk_tree.proofs.Leaves.{end_facts}
use Rattle.band_banded.specs.Banding.{done}
use Rattle.band_records.specs.Records.{record_of, all_records}
use Rattle.band_banded.specs.Banding.{band_given, written_given, banded, written, banded_spline, written_spline}
use Rattle.band_banded.specs.Banding.{banded_binary64, written_binary64}
use Rattle.band_records.specs.Ranges.{SoundList}
use Rattle.band_passes.specs.Leaves.{leaves_of}
use Rattle.band_passes.specs.FirstWide.{AllMeet}
use Rattle.walk_depths.specs.Premise.{Flat}
use Rattle.band_records.proofs.Sound.{record_curve, record_node}
use Rattle.band_records.proofs.Standing.{Found, every_end_stands, every_record_stands}
use Rattle.band_banded.proofs.Theorems.{done_given, faultless_rows, records_given, leaves_exactly, every_parameter}
use Rattle.band_banded.proofs.Given.{Taken, Given, outline_given, binary64_given, spline_given}
use Rattle.band_banded.proofs.ByPieces.{listed}
use Rattle.band_banded.proofs.Station.{done_listed, written_listed}
use Rattle.band_banded.proofs.Sound.{curves_leaves, curves_sound}
use Rattle.walk_depths.proofs.Depths.{end_depth}
use Rattle.judge_cover.specs.Covers.{Holds, CoverHolds}
use Rattle.judge_list.specs.Checks.{number_fault}
use Rattle.judge.specs.Judging.{Judgement, judging_fault, Verdict, Judged}
use Rattle.judge.proofs.Judgements.{judged_on}
use Rattle.demand_3.specs.Meeting.{HeldAt}
use Rattle.demand_3.specs.Demand3.{CurveOf, IsOn, Somewhere, Shallow, Demand3, GivenDemand3, OutlineDemand3, Binary64Demand3, SplineDemand3}
use Rattle.demand_3.proofs.Passing.{coordinate_fine_law, none_refused}
use Rattle.demand_3.proofs.Mixtures.{up_p, up_r, up_some}
use Rattle.demand_3.proofs.Covers.{node_box, box_there, point_held, held_near}

-- ---- what an answer of judging says
module _ (σ : Setting) (rs : List ℤ) (x y : ℤ) where
  -- where a cover holds the point and nothing is refused, it is on
  held_on : (answer : Judgement) → Verdict σ none rs x y answer → (k i : ℕ) → record_length σ * k < length rs → i < covers σ
      → CoverHolds σ rs k i x y → IsOn answer
  held_on (Ok (Some held)) v k i hk hi h = record { leaf = held.leaf; cover = held.cover; is = refl }
  held_on (Ok None) v k i hk hi h = absurd (v k i hk hi h)
  held_on (Err r) v k i hk hi h = absurd v

-- ---- one place of a list, one curve
pub same_curve : (bs ds after rest : List Curve) {c d : Curve} → length bs ≡ length ds → bs ++ c ∷ after ≡ ds ++ d ∷ rest → c ≡ d
same_curve [] [] after rest l e = cc
same_curve [] (d ∷ ds) after rest l e = absurd (omega arith)
same_curve (b ∷ bs) [] after rest l e = absurd (omega arith)
same_curve (b ∷ bs) (d ∷ ds) after rest l e = same_curve bs ds after rest (omega arith) (cc)

pub small : {c : Curve} → Sized 0 c → Each 1048576 c.x × Each 1048576 c.y
small {c} s = (each_wider fits s.x, each_wider fits s.y)
  where
    fits : 2 ^ 20 * 2 ^ (c.degree * 0) ≤ 1048576
    fits = le_of_eq (rw (mul-zero c.degree))

pub of_member : {cs : List Curve} {k : ℕ} {c : Curve} → CurveOf cs k c → Memᴰ c cs
of_member of = rw of.split (Memᴰ.append_right of.before (Memᴰ.head refl))

-- ---- the claim, for the records of curves that all meet T
module _ (σ : Setting) (rows : HasRows σ.pieces) (T : ℤ) (cs : List Curve) (sized : (c : Curve) → Memᴰ c cs → Sized 0 c)
    (takes : (c : Curve) → Memᴰ c cs → degree_pieces c.degree σ.pieces ≡ true) (meet : AllMeet σ T cs) where
  abbrev rs : List ℤ
  rs = all_records σ T 0 cs

  -- a point of a curve is held by a record of this curve, at a leaf with its parameter
  pub held_at : (k : ℕ) (c : Curve) → CurveOf cs k c → (p r : ℕ) → 0 < p + r → (x y : ℤ) → Equals (scale σ) c p r x y
      → HeldAt σ (all_records σ T 0 cs) k p r x y
  held_at k c of p r positive x y equals =
      let i = of_member of in
      let number = 0 + length of.before in
      let leaf = every_parameter σ T cs meet c i p r in
      let found = subst (λ l. Found σ (all_records σ T 0 l) (record_of σ number c leaf.0)) (sym of.split)
      (every_end_stands σ T 0 of.before c of.after leaf.0 ((leaves_exactly σ T cs meet c i leaf.0).1 leaf.1)) in
      let held = point_held σ rows c (sized c i) (takes c i) leaf.0 leaf.1.node p r positive leaf.2 x y equals in
      let there = box_there σ c leaf.0 leaf.1.node number found.stands in
      record {
        place = found.place;
        inside = found.stands.inside;
        curve_is =
            ap (entry rs) {x = record_length σ * found.place} {y = record_length σ * found.place + 0} (omega arith)
            ∙ found.stands.number 0 (omega arith) ∙ record_curve σ number c leaf.0 ∙ ap pos {x = number} {y = k} (omega (arith, of.number));
        node = leaf.0;
        node_is = found.stands.number 1 (omega arith) ∙ record_node σ number c leaf.0;
        parameter = leaf.2;
        cover = held.cover;
        one_of = held.inside;
        holds = rw (there held.cover (omega (arith, held.inside)), there (suc held.cover) held.inside) held.holds;
      }

  module _ (n : ℕ) (some : 0 < n) (sound : SoundList σ n rs) (x y : ℤ) (answer : Judgement) (judged : Judged σ rs x y answer) where
    point_on : (k : ℕ) (c : Curve) → CurveOf cs k c → (p r : ℕ) → 0 < p + r → Equals (scale σ) c p r x y → IsOn answer
    point_on k c of p r positive equals =
        let h = held_at k c of p r positive x y equals in
        let near = small (sized c (of_member of)) in
        let passes = none_refused σ rows some sound x y
        (coordinate_fine_law (scale σ) (scale_some σ) c.degree c.x near.0 p r positive x equals.in_x)
        (coordinate_fine_law (scale σ) (scale_some σ) c.degree c.y near.1 p r positive y equals.in_y) in
        held_on σ rs x y answer (subst (λ f. Verdict σ f rs x y answer) passes judged) h.place h.cover h.inside h.one_of h.holds

    on_near : IsOn answer → Somewhere σ T cs x y
    on_near on =
        let v = judged_on σ rs x y on.leaf on.cover (subst (Judged σ rs x y) on.is judged) in
        let w = every_record_stands σ T 0 cs on.leaf v.inside in
        let c = w.curve in
        let of : CurveOf cs (length w.before) c = record { before = w.before; after = w.after; split = w.split; number = refl } in
        let i = of_member of in
        let hn = (end_facts (node_meets σ T c) (deepest c.degree) w.node w.end).node in
        let there = box_there σ c w.node hn (0 + length w.before) w.stands in
        let h : Holds (node_box σ c w.node on.cover) (node_box σ c w.node (suc on.cover)) x y =
        rw (← there on.cover (omega (arith, v.cover)), ← there (suc on.cover) v.cover) v.holds in
        record {
          number = length w.before;
          curve = c;
          of = of;
          p = up_p σ.pieces w.node on.cover h.a h.b;
          r = up_r σ.pieces w.node on.cover h.a h.b;
          some = up_some σ.pieces w.node on.cover h.a h.b v.cover h.some;
          near = held_near σ rows c (sized c i) (takes c i) w.node hn T ((meet.each c i).each w.node w.end) on.cover v.cover x y h;
        }

  leaf_shallow : (i : ℕ) → record_length σ * i < length rs → (k : ℕ) (c : Curve) → CurveOf cs k c → entry rs (record_length σ * i) ≡ pos k
      → (j : ℕ) → Flat σ T c j → Shallow σ rs i j
  leaf_shallow i h k c of e j flat =
      let w = every_record_stands σ T 0 cs i h in
      let first = ap (entry rs) {x = record_length σ * i + 0} {y = record_length σ * i} (omega arith) in
      let number : pos (0 + length w.before) ≡ pos k =
      sym (record_curve σ (0 + length w.before) w.curve w.node) ∙ sym (w.stands.number 0 (omega arith)) ∙ first ∙ e in
      let same = same_curve w.before of.before w.after of.after (omega (arith, pos_same number, of.number))
      (sym w.split ∙ of.split) in
      let own : CurveOf cs (length w.before) w.curve = record { before = w.before; after = w.after; split = w.split; number = refl } in
      let member = of_member own in
      record {
        node = w.node;
        is = w.stands.number 1 (omega arith) ∙ record_node σ (0 + length w.before) w.curve w.node;
        depth_at_most = end_depth σ rows T w.curve (sized w.curve member) (takes w.curve member) j (rw same flat) w.node w.end;
      }
    where
      pos_same : {m n : ℕ} → pos m ≡ pos n → m ≡ n
      pos_same e = cc

-- ---- demand 3 of a list of curves that banding takes, of which none is too wide
pub curves_demand_3 : (σ : Setting) → HasRows σ.pieces → (T : ℤ) (cs : List Curve) → Taken σ cs → AllMeet σ T cs
    → (x y : ℤ) (answer : Judgement) → Judged σ (all_records σ T 0 cs) x y answer → Demand3 σ T cs (all_records σ T 0 cs) x y answer
curves_demand_3 σ rows T cs t meet x y answer judged =
    let one = curves_leaves σ T cs t.some in
    let sound = curves_sound σ rows T 0 cs (omega (arith, t.most)) t.sized t.takes in
    record {
      every_point_on = point_on σ rows T cs t.sized t.takes meet (leaves_of σ T cs) one sound x y answer judged;
      every_on_near = on_near σ rows T cs t.sized t.takes meet (leaves_of σ T cs) one sound x y answer judged;
      every_leaf_shallow = leaf_shallow σ rows T cs t.sized t.takes meet;
    }

-- ---- demand 3 of what is given, in every setting: where it is accepted, there are rows for the number of pieces
pub given_demand_3 : (σ : Setting) (T : ℤ) {o : Outlined} → Given σ o → (old : List ℤ) (a b c : ℕ) → band_given σ T o (length old) ≡ done a b c
    → (x y : ℤ) (answer : Judgement) → Judged σ (take (record_length σ * b) (written_given σ T o old)) x y answer
    → GivenDemand3 σ T o (take (record_length σ * b) (written_given σ T o old)) x y answer
given_demand_3 σ T given old a b c said x y answer judged =
    let h = (done_given σ T given (length old) a b c).0 said in
    let cs = h.0 in
    let is = records_given σ T given old h.1 h.2 in
    let said = subst (λ rs. Judged σ rs x y answer) is judged in
    record {
      all = cs;
      are = h.1.outline;
      demand_3 = subst (λ rs. Demand3 σ T cs rs x y answer) (sym is)
          (curves_demand_3 σ (faultless_rows h.1) T cs (given.taken cs h.1.outline) h.2.meet x y answer said);
    }

-- of an outline
pub demand_3 : (σ : Setting) (T : ℤ) (ns old : List ℤ) (a b c : ℕ) → banded σ T ns (length old) ≡ done a b c
    → (x y : ℤ) (answer : Judgement) → Judged σ (take (record_length σ * b) (written σ T ns old)) x y answer
    → OutlineDemand3 σ T ns (take (record_length σ * b) (written σ T ns old)) x y answer
demand_3 σ T ns = given_demand_3 σ T (outline_given σ ns)

-- ---- of an outline in binary64
pub binary64_demand_3 : (m : ℕ) (T : ℤ) (xs : List Float) (old : List ℤ) (a b c : ℕ) → banded_binary64 m T xs (length old) ≡ done a b c
    → (x y : ℤ) (answer : Judgement) → Judged (lists m) (take (record_length (lists m) * b) (written_binary64 m T xs old)) x y answer
    → Binary64Demand3 m T xs (take (record_length (lists m) * b) (written_binary64 m T xs old)) x y answer
binary64_demand_3 m T xs = given_demand_3 (lists m) T (binary64_given m xs)

-- ---- of a B-spline, whose leaves are judged as every leaf list is: judging does not know the scale of control values
faults_same : (m : ℕ) (rs : List ℤ) (x y : ℤ) → judging_fault (lists m) rs x y ≡ judging_fault (splines m) rs x y
unfolding judging_fault number_fault
faults_same m rs x y = refl

verdict_same : (m : ℕ) (o : Option Refusal) (rs : List ℤ) (x y : ℤ) (answer : Judgement) → Verdict (lists m) o rs x y answer
    → Verdict (splines m) o rs x y answer
verdict_same m (some r) rs x y answer v = v
verdict_same m none rs x y (Ok (Some h)) v = record {
  inside = v.inside;
  cover = v.cover;
  holds = v.holds;
  none_earlier = v.none_earlier;
  none_lower = v.none_lower;
}
verdict_same m none rs x y (Ok None) v = v
verdict_same m none rs x y (Err r) v = v

pub spline_demand_3 : (m : ℕ) (T : ℤ) (ns old : List ℤ) (a b c : ℕ) → banded_spline m T ns (length old) ≡ done a b c
    → (x y : ℤ) (answer : Judgement) → Judged (lists m) (take (record_length (lists m) * b) (written_spline m T ns old)) x y answer
    → SplineDemand3 m T ns (take (record_length (lists m) * b) (written_spline m T ns old)) x y answer
spline_demand_3 m T ns old a b c said x y answer judged =
    let rs = take (record_length (lists m) * b) (written_spline m T ns old) in
    given_demand_3 (splines m) T (spline_given m ns) old a b c said x y answer
    (verdict_same m (judging_fault (splines m) rs x y) rs x y answer (rw (faults_same m rs x y) at judged))

-- ---- demand 3 where fewer curves may stand than in lists: the leaves are judged as every leaf list is
pub demand_3_listed : (σ : Setting) → σ.sixths ≡ false → σ.most ≤ (lists σ.pieces).most → (T : ℤ) (ns old : List ℤ) (a b c : ℕ)
    → banded σ T ns (length old) ≡ done a b c
    → (x y : ℤ) (answer : Judgement) → Judged (lists σ.pieces) (take (record_length σ * b) (written σ T ns old)) x y answer
    → OutlineDemand3 (lists σ.pieces) T ns (take (record_length σ * b) (written σ T ns old)) x y answer
demand_3_listed σ units few T ns old a b c said x y answer judged =
    let e : listed σ ≡ lists σ.pieces = ap (lists_of σ.pieces) units in
    let same : written σ T ns old ≡ written (lists σ.pieces) T ns old = written_listed σ few T ns old said ∙ ap (λ τ. written τ T ns old) e in
    let accepted = subst (λ τ. banded τ T ns (length old) ≡ done a b c) e (done_listed σ few T ns (length old) said) in
    rw same (demand_3 (lists σ.pieces) T ns old a b c accepted x y answer (rw same at judged))

-- so of the bands of the bench station
pub station_demand_3 : (m : ℕ) (T : ℤ) (ns old : List ℤ) (a b c : ℕ) → banded (station m) T ns (length old) ≡ done a b c
    → (x y : ℤ) (answer : Judgement) → Judged (lists m) (take (record_length (station m) * b) (written (station m) T ns old)) x y answer
    → OutlineDemand3 (lists m) T ns (take (record_length (station m) * b) (written (station m) T ns old)) x y answer
station_demand_3 m = demand_3_listed (station m) refl (lit≤ tt)
