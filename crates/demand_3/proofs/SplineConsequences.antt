-- What a caller may conclude from demand 3 of a B-spline, by the spline's basis over its points. Each law uses one of its conclusions, so that a
-- weaker one is seen here.
use mathlib.Core.Path.{◌≡◌, refl, sym, ◌∙◌, ap, subst}
use mathlib.Core.List.{List, [], ◌∷◌, ◌++◌}
use Prim.Native.Nat.{ℕ, suc, ◌+◌, ◌-◌, ◌*◌, ◌/◌, ◌≤◌, ◌<◌}
use native.Mathlib.Omega.{arith}
use lib.Dec.{lit<}
use lib.ListN.{length, take, length-append}
use lib.IntN.{ℤ, pos, ◌*ℤ◌, pow, one}
use Rattle.integers.specs.Entry.{entry}
use Rattle.setting.specs.Setting.{lists, splines, record_length}
use Rattle.curve_nodes.specs.declared.Curve.{Curve}
use Rattle.curve_nodes.specs.Nodes.{depth}
use Rattle.curve_nodes.specs.Points.{Equals, Within}
use Rattle.outline_splines.specs.Splines.{spline_at, splines_from, spline_count}
use Rattle.outline_splines.proofs.Basis.{curve_number, curve_value}
use Rattle.outline_splines.proofs.Accepted.{Splines, accepted, splines_length, spline_degree}
use Rattle.band_banded.specs.Banding.{done, banded_spline, written_spline}
use Rattle.walk_depths.specs.Premise.{Flat}
use Rattle.judge.specs.Judging.{Judgement, Judged as JudgedSo}
use Rattle.demand_3.specs.Demand3.{CurveOf, IsOn, SplineDemand3}
use Rattle.demand_3.specs.Splines.{SplinePlace, OnSpline, NearSpline}
use Rattle.demand_3.proofs.Demand3.{same_curve, spline_demand_3}

-- ---- curve k of a list of points that is accepted is that of points k to k + 3
module _ {ns : List ℤ} {cs : List Curve} (s : Splines ns cs) where
  there : (k : ℕ) → k + 3 < length ns / 2 → CurveOf cs k (spline_at ns (2 * k))
  there k h = record {
    before = splines_from k ns 0;
    after = splines_from (spline_count (length ns) - (k + 1)) ns (0 + 2 * k + 2);
    split = s.is ∙ curve_number (spline_count (length ns)) k (omega arith) ns 0
        ∙ ap (λ (i : ℕ). splines_from k ns 0 ++ spline_at ns i ∷ splines_from (spline_count (length ns) - (k + 1)) ns (0 + 2 * k + 2))
        {x = 0 + 2 * k} {y = 2 * k} (omega arith);
    number = splines_length k ns 0;
  }

  one_of : (k : ℕ) (c : Curve) → CurveOf cs k c → k + 3 < length ns / 2
  one_of k c of =
      let n : length cs ≡ length of.before + suc (length of.after) = ap length of.split ∙ length-append of.before (c ∷ of.after) in
      let m : length cs ≡ spline_count (length ns) = ap length s.is ∙ splines_length (spline_count (length ns)) ns 0 in
      omega (arith, n, m, of.number)

  only : (k : ℕ) (c : Curve) → CurveOf cs k c → c ≡ spline_at ns (2 * k)
  only k c of =
      let own = there k (one_of k c of) in
      same_curve of.before own.before of.after own.after (of.number ∙ sym own.number) (sym of.split ∙ own.split)

-- ---- what is said of curve k is said of the basis
module _ (ns : List ℤ) (k p r : ℕ) where
  abbrev c : Curve
  c = spline_at ns (2 * k)

  equals : (x y : ℤ) → OnSpline ns k p r x y → Equals 6 c p r x y
  equals x y o = rw (spline_degree ns (2 * k)) record {
    in_x = o.in_x ∙ ap (λ v. pos 16 *ℤ v) (sym (curve_value ns k (pos p) (pos r)).0);
    in_y = o.in_y ∙ ap (λ v. pos 16 *ℤ v) (sym (curve_value ns k (pos p) (pos r)).1);
  }

  near : (T x y : ℤ) → SplinePlace ns k p r → Within 6 T c p r x y → NearSpline ns T x y
  near T x y place w = record {
    k = k;
    p = p;
    r = r;
    place = place;
    distance = rw ((curve_value ns k (pos p) (pos r)).0, (curve_value ns k (pos p) (pos r)).1) at (rw (spline_degree ns (2 * k)) at w.distance);
  }

-- ---- a B-spline that is banded, and whatever judging answers to its leaves
module _ (m : ℕ) (T : ℤ) (ns old : List ℤ) (a b c : ℕ) (said : banded_spline m T ns (length old) ≡ done a b c) where
  abbrev leaves : List ℤ
  leaves = take (record_length (lists m) * b) (written_spline m T ns old)

  module _ (x y : ℤ) (answer : Judgement) (judged : JudgedSo (lists m) leaves x y answer) where
    claim : SplineDemand3 m T ns leaves x y answer
    claim = spline_demand_3 m T ns old a b c said x y answer judged

    given : Splines ns claim.all
    given = accepted ns claim.all claim.are

    -- a point of the spline is on
    pub spline_point_on : (k p r : ℕ) → OnSpline ns k p r x y → IsOn answer
    spline_point_on k p r o =
        claim.demand_3.every_point_on k (spline_at ns (2 * k)) (there given k o.place.curve) p r o.place.some (equals ns k p r x y o)

    -- a point that is on is near the spline
    pub spline_on_near : IsOn answer → NearSpline ns T x y
    spline_on_near on =
        let s = claim.demand_3.every_on_near on in
        let k = s.number in
        near ns k s.p s.r T x y (record { curve = one_of given k s.curve s.of; some = s.some })
        (subst (λ d. Within 6 T d s.p s.r x y) (only given k s.curve s.of) s.near)

    -- the node that stands in a record of curve k has depth at most j
    pub spline_leaf_depth : (i : ℕ) → record_length (lists m) * i < length leaves → (k : ℕ) → k + 3 < length ns / 2
        → entry leaves (record_length (lists m) * i) ≡ pos k → (j : ℕ) → Flat (splines m) T (spline_at ns (2 * k)) j
        → (n : ℕ) → entry leaves (record_length (lists m) * i + 1) ≡ pos n → depth n ≤ j
    spline_leaf_depth i h k l e j flat n is =
        let s = claim.demand_3.every_leaf_shallow i h k (spline_at ns (2 * k)) (there given k l) e j flat in
        subst (λ q. depth q ≤ j) (natural_is (sym s.is ∙ is)) s.depth_at_most
      where
        natural_is : {q n : ℕ} → pos q ≡ pos n → q ≡ n
        natural_is e = cc

-- ---- the points (0 0), (10 30), (20 30), (30 0): half-way their spline is at (15 28.75), which is on at every tolerance, m and lent list
abbrev A : List ℤ
A = pos 0 ∷ pos 0 ∷ pos 10 ∷ pos 30 ∷ pos 20 ∷ pos 30 ∷ pos 30 ∷ pos 0 ∷ []

half_way : OnSpline A 0 1 1 (pos 240) (pos 460)
unfolding pow one
half_way = record { place = record { curve = lit< tt; some = lit< tt }; in_x = refl; in_y = refl }

pub half_way_on : (m : ℕ) (T : ℤ) (old : List ℤ) (a b c : ℕ) → banded_spline m T A (length old) ≡ done a b c
    → (answer : Judgement) → JudgedSo (lists m) (take (record_length (lists m) * b) (written_spline m T A old)) (pos 240) (pos 460) answer → IsOn answer
half_way_on m T old a b c said answer judged = spline_point_on m T A old a b c said (pos 240) (pos 460) answer judged 0 1 1 half_way
