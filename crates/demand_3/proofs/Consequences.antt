-- What a caller may conclude from demand 3. Each law uses a definition in which it ends, so that a weaker one is seen here.
use mathlib.Core.Path.{◌≡◌, refl, sym, ◌∙◌, subst}
use mathlib.Core.List.Memᴰ
use mathlib.Core.List.{List, [], ◌∷◌, Memᴰ}
use Prim.Native.Nat.{ℕ, ◌+◌, ◌*◌, ◌^◌, ◌≤◌, ◌<◌}
use native.Mathlib.Omega.{arith}
use lib.Dec.{lit<}
use lib.ListN.{length, take}
use lib.IntN.{ℤ, pos, neg_ℤ, ◌+ℤ◌, ◌*ℤ◌, pow, one}
use lib.Signed.{◌≤ℤ◌, ◌<ℤ◌, le_z_yes}
use Rattle.integers.specs.Entry.{entry}
use Rattle.integers.specs.First.{first_bad}
use Rattle.integers.specs.Squares.{squared}
use Rattle.integers.proofs.Ring.{ring, sides}
use Rattle.integers.proofs.Between.{between_low}
use Rattle.integers.proofs.Order.{NonNeg, gap, gap<, natural, nonneg_by, le_by, pos_le, pos_lt, pow_positive, times_positive, *ℤ_cancel, ◌+₀◌, ◌×₀◌}
use Rattle.curve_bernstein.specs.Value.{choose, sum, value}
use Rattle.curve_halves.specs.Sizes.{Each}
use Rattle.curve_nodes.specs.declared.Curve.{Curve}
use Rattle.curve_nodes.specs.Bounds.{Sized}
use Rattle.curve_nodes.specs.Nodes.{depth, start}
use Rattle.curve_nodes.specs.Points.{Equals, Within, Near}
use Rattle.curve_nodes.specs.Differences.{largest_of, bend, largest}
use Rattle.curve_nodes.proofs.Points.{within_near}
use Rattle.curve_nodes.proofs.Values.{value_high, value_low}
use Rattle.setting.specs.Setting.{Setting, lists, standard, scale, record_length}
use Rattle.setting.proofs.Scales.{scale_some}
use Rattle.bound_rows.specs.Table.{table, rows_of}
use Rattle.bound_rows.specs.Rule.{gap_of}
use Rattle.outline.specs.Curves.{curve_at}
use Rattle.outline.specs.Faults.{fault_at}
use Rattle.outline.specs.Checks.{curves, outline_from, outlined}
use Rattle.outline.proofs.Accepted.{outlined_from, accepted_all}
use Rattle.band_banded.specs.Banding.{done, banded, written}
use Rattle.walk_depths.specs.Premise.{Flat}
use Rattle.walk_depths.proofs.Thirds.{FlatFrom}
use Rattle.band_banded.proofs.Theorems.{done_exactly}
use Rattle.judge.specs.Judging.{Judgement, Judged as JudgedSo}
use Rattle.demand_3.specs.Demand3.{CurveOf, IsOn, Somewhere, Shallow, OutlineDemand3}
use Rattle.demand_3.specs.Meeting.{CoveredTwice}
use Rattle.demand_3.specs.Starred.{A}
use Rattle.demand_3.proofs.Demand3.{small, of_member, demand_3}
use Rattle.demand_3.proofs.Meeting.{same_curves}

-- ---- a point near a curve lies no farther than T from the square in which control points lie, 16 × 1,048,576 sixteenths each way
abbrev pub Reach : ℤ → ℤ → Type 0
Reach T z = (neg_ℤ (pos 16777216 +ℤ T) ≤ℤ z) × (z ≤ℤ (pos 16777216 +ℤ T))

near_in_reach : (s : ℕ) → 0 < s → (T : ℤ) (d p r : ℕ) (cs : List ℤ) → Each 1048576 cs → 0 < p + r → (z : ℤ) → Near s T d p r cs z → Reach T z
near_in_reach s hs T d p r cs each nonzero z near =
    let w = pow (pos (p + r)) d in
    let v = value (pos p) (pos r) d cs in
    let low = value_low p r 1048576 d cs each in
    let high = value_high p r 1048576 d cs each in
    let positive = pow_positive (pos_lt nonzero) d in
    let k : pos 0 <ℤ (pos s *ℤ w) = times_positive (pos_lt hs) positive in
    let more = natural 16777216 ×₀ gap (pos_le hs) ×₀ (gap< positive +₀ natural 1) in (
      *ℤ_cancel k (le_by (pos s ∷ w ∷ v ∷ z ∷ T ∷ []) (gap near.below +₀ natural 16 ×₀ gap low +₀ more) (search sides depth 20) refl),
      *ℤ_cancel k (le_by (pos s ∷ w ∷ v ∷ z ∷ T ∷ []) (gap near.above +₀ natural 16 ×₀ gap high +₀ more) (search sides depth 20) refl),
    )

pub somewhere_in_reach : (σ : Setting) (T : ℤ) (cs : List Curve) → ((c : Curve) → Memᴰ c cs → Sized 0 c)
    → (x y : ℤ) → NonNeg T → Somewhere σ T cs x y → Reach T x × Reach T y
somewhere_in_reach σ T cs sized x y nonneg s =
    let c = s.curve in
    let each = small (sized c (of_member s.of)) in
    let near = within_near nonneg s.near in (
      near_in_reach (scale σ) (scale_some σ) T c.degree s.p s.r c.x each.0 s.some x near.0,
      near_in_reach (scale σ) (scale_some σ) T c.degree s.p s.r c.y each.1 s.some y near.1,
    )

-- ---- the node that stands in a record of depth at most j
pub shallow_depth : {σ : Setting} {rs : List ℤ} {i j n : ℕ} → Shallow σ rs i j → entry rs (record_length σ * i + 1) ≡ pos n → depth n ≤ j
shallow_depth {j = j} s is = subst (λ m. depth m ≤ j) (natural_is (sym s.is ∙ is)) s.depth_at_most
  where
    natural_is : {m n : ℕ} → pos m ≡ pos n → m ≡ n
    natural_is e = cc

-- ---- an outline that is banded, and whatever judging answers to its leaves
module _ (σ : Setting) (T : ℤ) (ns old : List ℤ) (a b c : ℕ) (said : banded σ T ns (length old) ≡ done a b c) where
  abbrev leaves : List ℤ
  leaves = take (record_length σ * b) (written σ T ns old)

  module _ (x y : ℤ) (answer : Judgement) (judged : JudgedSo σ leaves x y answer) where
    claim : OutlineDemand3 σ T ns leaves x y answer
    claim = demand_3 σ T ns old a b c said x y answer judged

    -- a point beyond the reach is never judged on
    pub on_in_reach : IsOn answer → Reach T x × Reach T y
    on_in_reach on =
        let sized = accepted_all σ.most σ.pieces ns 0 claim.all (outlined_from σ.most σ.pieces ns claim.all claim.are) in
        let least = between_low (pos 2) (pos 1048576) T ((done_exactly σ T ns (length old) a b c).0 said).1.tolerance in
        somewhere_in_reach σ T claim.all sized x y (nonneg_by (T ∷ []) (gap least +₀ natural 2) (search sides depth 20) refl)
        (claim.demand_3.every_on_near on)

    -- the node that stands in a leaf's record has depth at most j
    pub leaf_depth : (i : ℕ) → record_length σ * i < length leaves → (cs : List Curve) → outlined σ.most σ.pieces ns ≡ curves cs
        → (k : ℕ) (c : Curve) → CurveOf cs k c → entry leaves (record_length σ * i) ≡ pos k
        → (j : ℕ) → Flat σ T c j → (n : ℕ) → entry leaves (record_length σ * i + 1) ≡ pos n → depth n ≤ j
    leaf_depth i h cs o k c of e j flat n is =
        shallow_depth (claim.demand_3.every_leaf_shallow i h k c (rw (same_curves claim.are o) of) e j flat) is

-- ---- curve A: half-way it is at (240 360), which is on at every tolerance and with every list lent
abbrev pub curve_a : Curve
curve_a = record {
  degree = 3;
  x = pos 0 ∷ pos 10 ∷ pos 20 ∷ pos 30 ∷ pos 0 ∷ pos 0 ∷ [];
  y = pos 0 ∷ pos 30 ∷ pos 30 ∷ pos 0 ∷ pos 0 ∷ pos 0 ∷ [];
}

of_a : outlined standard.most standard.pieces A ≡ curves (curve_a ∷ [])
unfolding outlined outline_from fault_at first_bad curve_at
of_a = refl

pub half_way : Equals 1 curve_a 1 1 (pos 240) (pos 360)
unfolding value sum choose pow one
half_way = record { in_x = refl; in_y = refl }

pub half_way_on : (T : ℤ) (old : List ℤ) (a b c : ℕ) → banded standard T A (length old) ≡ done a b c
    → (answer : Judgement) → JudgedSo standard (take (record_length standard * b) (written standard T A old)) (pos 240) (pos 360) answer → IsOn answer
half_way_on T old a b c said answer judged =
    let d = claim standard T A old a b c said (pos 240) (pos 360) answer judged in
    d.demand_3.every_point_on 0 curve_a (record { before = []; after = []; split = same_curves d.are of_a; number = refl }) 1 1 (lit< tt) half_way

-- ---- the premise of the depth claim: y 0, 0, 125, 250 has M = 125. With three pieces G is 890, and 2 × (16 × 890 × 125 + 20000)² lies between
-- (10000 × 254)² and (10000 × 255)²; with eight it is 120, and 2 × (16 × 120 × 125 + 20000)² lies between (10000 × 36)² and (10000 × 37)².
abbrev bow : Curve
bow = record {
  degree = 3;
  x = pos 0 ∷ pos 0 ∷ pos 0 ∷ pos 0 ∷ pos 0 ∷ pos 0 ∷ [];
  y = pos 0 ∷ pos 0 ∷ pos 125 ∷ pos 250 ∷ pos 0 ∷ pos 0 ∷ [];
}

pub flat_from_255 : FlatFrom standard 255 bow 0
unfolding largest bend largest_of gap_of rows_of table
flat_from_255 = (le_z_yes tt, λ f. f.le)

pub eighths_flat_from_37 : FlatFrom (lists 8) 37 bow 0
unfolding largest bend largest_of gap_of rows_of table
eighths_flat_from_37 = (le_z_yes tt, λ f. f.le)

-- ---- an outline that is one point, (0 0): what is judged on lies in the circle of radius T round it, and not only in the square
abbrev zeros : List ℤ
zeros = pos 0 ∷ pos 0 ∷ pos 0 ∷ pos 0 ∷ pos 0 ∷ pos 0 ∷ []

abbrev dot : Curve
dot = record { degree = 1; x = zeros; y = zeros }

abbrev dotted : List ℤ
dotted = pos 1 ∷ pos 0 ∷ pos 0 ∷ pos 0 ∷ pos 0 ∷ []

of_dotted : outlined standard.most standard.pieces dotted ≡ curves (dot ∷ [])
unfolding outlined outline_from fault_at first_bad curve_at
of_dotted = refl

dot_value : (p r : ℤ) → value p r 1 zeros ≡ pos 0
unfolding value sum choose pow one
dot_value p r = ring (p ∷ r ∷ []) (search sides depth 40 fits 9999) refl

in_circle : (T x y : ℤ) (p r : ℕ) → 0 < p + r → Within 1 T dot p r x y → (squared x +ℤ squared y) ≤ℤ squared T
in_circle T x y p r nonzero w =
    let W = pow (pos (p + r)) 1 in
    let h = rw (dot_value (pos p) (pos r)) at w.distance in
    let positive = pow_positive (pos_lt nonzero) 1 in
    *ℤ_cancel (times_positive positive positive) (le_by (W ∷ x ∷ y ∷ T ∷ []) (gap h) (search sides depth 40 fits 9999) refl)

pub on_in_circle : (T : ℤ) (old : List ℤ) (a b c : ℕ) → banded standard T dotted (length old) ≡ done a b c → (x y : ℤ) (answer : Judgement)
    → JudgedSo standard (take (record_length standard * b) (written standard T dotted old)) x y answer → IsOn answer
    → (squared x +ℤ squared y) ≤ℤ squared T
on_in_circle T old a b c said x y answer judged on =
    let d = claim standard T dotted old a b c said x y answer judged in
    let s = d.demand_3.every_on_near on in
    let one = Memᴰ.eq_of_singleton (subst (λ cs. Memᴰ s.curve cs) (same_curves d.are of_dotted) (of_member s.of)) in
    in_circle T x y s.p s.r s.some (subst (λ e. Within 1 T e s.p s.r x y) one s.near)

-- ---- the point between two curves: the leaf that holds it at the end of the one has a stretch that ends where the curve does, and the leaf that
-- holds it at the start of the next has one that begins where that curve does
pub twice_at_the_ends : {σ : Setting} {rs : List ℤ} {k : ℕ} {x y : ℤ} {answer : Judgement} (t : CoveredTwice σ rs k x y answer)
    → (2 ^ depth t.last_leaf.node ≤ start t.last_leaf.node + 1) × (start t.first_leaf.node ≡ 0)
twice_at_the_ends t = (omega (arith, t.last_leaf.parameter.to), omega (arith, t.first_leaf.parameter.from))
