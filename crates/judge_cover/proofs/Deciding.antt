-- The decision is right: a cover holds a point exactly where the cuts of its four sides leave weights. A range of weights lies between two of them;
-- each cut keeps just those on the inner side of its edge, so the range stays exact, and its low end is the witness.
use mathlib.Core.Path.{◌≡◌, refl}
use mathlib.Core.Logic.{◌⊎◌, inl, inr, ⊎_elim, ◌↔◌}
use mathlib.Core.Bool.{Bool, true, false, not, ◌&&◌, ◌||◌}
use mathlib.Core.List.{[], ◌∷◌}
use Prim.Native.Nat.{ℕ}
use lib.Dec.{lit<}
use lib.IntN.{ℤ, pos, ◌+ℤ◌, ◌-ℤ◌, ◌*ℤ◌}
use lib.Signed.{lt_z, ◌<ℤ◌}
use Rattle.integers.proofs.Ring.{sides}
use Rattle.integers.proofs.Clash.{clash}
use Rattle.integers.proofs.Order.{NonNeg, natural, nonneg_by, nonneg_natural, nonneg_cancel, gap, gap<, le_of_gap, nonneg, lt_le, le_or_lt, lt_by}
use Rattle.integers.proofs.Order.{clash_by, pos_lt, lt_pos, ◌+₀◌, ◌×₀◌}
use Rattle.integers.proofs.Ranges.{lt_yes, lt_no, le_yes, le_no, yes_le}
use Rattle.boxes.specs.declared.Box.{Box}
use Rattle.judge_cover.specs.declared.held.Weights.{Weights}
use Rattle.judge_cover.specs.declared.held.Range.{Range}
use Rattle.judge_cover.specs.declared.held.Sides.{Sides}
use Rattle.judge_cover.specs.Covers.{Mixed, Holds}
use Rattle.judge_cover.specs.Deciding.{ordered, later, earlier, sides_of, sides_x, sides_y, outside, apart, cut, cut_sides, whole, held_by, held}

-- ---- weights
record Proper (w : Weights) : Type 0 where
  first : NonNeg w.first
  second : NonNeg w.second
  some : pos 0 <ℤ (w.first +ℤ w.second)

-- q gives the second box no less weight than p does
record Before (p q : Weights) : Type 0 where
  before : NonNeg (p.first *ℤ q.second -ℤ p.second *ℤ q.first)

module _ (p q : Weights) where
  abbrev one : ℤ
  one = p.second *ℤ q.first

  abbrev other : ℤ
  other = p.first *ℤ q.second

  ordered_yes : ordered p q ≡ true → Before p q
  ordered_yes e = record { before = gap {a = one} {b = other} (le_yes {a = one} {b = other} e) }

  ordered_no : ordered p q ≡ false → Before q p
  ordered_no e =
      let l = lt_le (le_no {a = one} {b = other} e) in
      record {
        before = nonneg_by (p.first ∷ p.second ∷ q.first ∷ q.second ∷ []) (gap {a = other} {b = one} l)
            (search sides depth 40 fits 9999) refl;
      }

  yes_ordered : Before p q → ordered p q ≡ true
  yes_ordered h = yes_le {a = one} {b = other} (le_of_gap h.before)

either : (w : Weights) → Proper w → (pos 0 <ℤ w.first) ⊎ (pos 0 <ℤ w.second)
either w h = ⊎_elim
    (λ l. inr (lt_by (w.first ∷ w.second ∷ []) (gap< h.some +₀ gap l) (search sides depth 40 fits 9999) refl))
    inl
    (le_or_lt w.first (pos 0))

through : (p q w : Weights) → Proper p → Proper q → Proper w → Before p q → Before q w → Before p w
through p q w hp hq hw a b =
    let ρ = p.first ∷ p.second ∷ q.first ∷ q.second ∷ w.first ∷ w.second ∷ [] in
    record {
      before = ⊎_elim
          (λ l. nonneg_cancel l (nonneg_by ρ (hw.first ×₀ a.before +₀ hp.first ×₀ b.before) (search sides depth 40 fits 9999) refl))
          (λ l. nonneg_cancel l (nonneg_by ρ (hw.second ×₀ a.before +₀ hp.second ×₀ b.before) (search sides depth 40 fits 9999) refl))
          (either q hq);
    }

-- ---- the later and the earlier of two weights
module _ (p q w : Weights) (hp : Proper p) (hq : Proper q) (hw : Proper w) where
  later_before : Before (later p q) w ↔ (Before p w × Before q w)
  later_before = go (ordered p q) refl
    where
      go : (b : Bool) → ordered p q ≡ b → Before (elim b [ true ↦ q | false ↦ p ]) w ↔ (Before p w × Before q w)
      go true e = (λ h. (through p q w hp hq hw (ordered_yes p q e) h, h), λ h. h.1)
      go false e = (λ h. (h, through q p w hq hp hw (ordered_no p q e) h), λ h. h.0)

  earlier_after : Before w (earlier p q) ↔ (Before w p × Before w q)
  earlier_after = go (ordered p q) refl
    where
      go : (b : Bool) → ordered p q ≡ b → Before w (elim b [ true ↦ p | false ↦ q ]) ↔ (Before w p × Before w q)
      go true e = (λ h. (h, through w p q hw hp hq h (ordered_yes p q e)), λ h. h.0)
      go false e = (λ h. (through w q p hw hq hp h (ordered_no p q e), h), λ h. h.1)

pick : {p q : Weights} → Proper p → Proper q → (b : Bool) → Proper (elim b [ true ↦ p | false ↦ q ])
pick hp hq true = hp
pick hp hq false = hq

-- ---- ranges
record Fine (r : Range) : Type 0 where
  low : Proper r.low
  high : Proper r.high

record In (r : Range) (w : Weights) : Type 0 where
  from : Before r.low w
  to : Before w r.high

-- the weights that a side allows
abbrev Inside : ℤ → ℤ → Weights → Type 0
Inside a b w = NonNeg (w.first *ℤ a +ℤ w.second *ℤ b)

-- what a cut leaves
record Cut (r : Range) (a b : ℤ) (s : Range) : Type 0 where
  fine : Fine s
  leaves : (w : Weights) → Proper w → In s w ↔ (In r w × Inside a b w)

module _ (a b : ℤ) where
  abbrev edge_low : Weights
  edge_low = record { first = b; second = pos 0 -ℤ a }

  abbrev edge_high : Weights
  edge_high = record { first = pos 0 -ℤ b; second = a }

  low_proper : a <ℤ pos 0 → NonNeg b → Proper edge_low
  low_proper h k = record {
    first = k;
    second = nonneg_by (a ∷ []) (gap< h +₀ natural 1) (search sides depth 40 fits 9999) refl;
    some = lt_by (a ∷ b ∷ []) (gap< h +₀ k) (search sides depth 40 fits 9999) refl;
  }

  high_proper : NonNeg a → b <ℤ pos 0 → Proper edge_high
  high_proper h k = record {
    first = nonneg_by (b ∷ []) (gap< k +₀ natural 1) (search sides depth 40 fits 9999) refl;
    second = h;
    some = lt_by (a ∷ b ∷ []) (gap< k +₀ h) (search sides depth 40 fits 9999) refl;
  }

  module _ (w : Weights) where
    low_side : Before edge_low w ↔ Inside a b w
    low_side =
        let ρ = a ∷ b ∷ w.first ∷ w.second ∷ [] in (
          λ h. nonneg_by ρ h.before (search sides depth 40 fits 9999) refl,
          λ h. record { before = nonneg_by ρ h (search sides depth 40 fits 9999) refl },
        )

    high_side : Before w edge_high ↔ Inside a b w
    high_side =
        let ρ = a ∷ b ∷ w.first ∷ w.second ∷ [] in (
          λ h. nonneg_by ρ h.before (search sides depth 40 fits 9999) refl,
          λ h. record { before = nonneg_by ρ h (search sides depth 40 fits 9999) refl },
        )

  module _ (r : Range) (f : Fine r) where
    -- a side that the first box is outside of
    cut_first : a <ℤ pos 0 → NonNeg b → Cut r a b (record { low = later r.low edge_low; high = r.high })
    cut_first h k =
        let e = low_proper h k in
        record {
          fine = record { low = pick e f.low (ordered r.low edge_low); high = f.high };
          leaves = λ w hw.
              let l = later_before r.low edge_low w f.low e hw in (
                λ i. let m = l.0 i.from in (record { from = m.0; to = i.to }, (low_side w).0 m.1),
                λ i. record { from = l.1 (i.0.from, (low_side w).1 i.1); to = i.0.to },
              );
        }

    -- one that the second is outside of
    cut_second : NonNeg a → b <ℤ pos 0 → Cut r a b (record { low = r.low; high = earlier r.high edge_high })
    cut_second h k =
        let e = high_proper h k in
        record {
          fine = record { low = f.low; high = pick f.high e (ordered r.high edge_high) };
          leaves = λ w hw.
              let l = earlier_after r.high edge_high w f.high e hw in (
                λ i. let m = l.0 i.to in (record { from = i.from; to = m.0 }, (high_side w).0 m.1),
                λ i. record { from = i.0.from; to = l.1 (i.0.to, (high_side w).1 i.1) },
              );
        }

    -- one that neither is
    cut_neither : NonNeg a → NonNeg b → Cut r a b r
    cut_neither h k = record {
      fine = f;
      leaves = λ w hw. (λ i. (i, hw.first ×₀ h +₀ hw.second ×₀ k), λ i. i.0);
    }

    cut_is : outside a b ≡ false → Cut r a b (cut r a b)
    cut_is o = go (lt_z a (pos 0)) (lt_z b (pos 0)) refl refl o
      where
        go : (s t : Bool) → lt_z a (pos 0) ≡ s → lt_z b (pos 0) ≡ t → (s && t) ≡ false → Cut r a b (elim s [
          | true ↦ record { low = later r.low edge_low; high = r.high }
          | false ↦ elim t [ true ↦ record { low = r.low; high = earlier r.high edge_high } | false ↦ r ]
        ])
        go true true e g n = clash (cc)
        go true false e g n = cut_first (lt_yes e) (nonneg (lt_no g))
        go false true e g n = cut_second (nonneg (lt_no e)) (lt_yes g)
        go false false e g n = cut_neither (nonneg (lt_no e)) (nonneg (lt_no g))

  -- no weights are inside of a side that both boxes are outside of
  none_inside : outside a b ≡ true → (w : Weights) → Proper w → Inside a b w → ⊥
  none_inside o w h i = go (lt_z a (pos 0)) (lt_z b (pos 0)) refl refl o
    where
      go : (s t : Bool) → lt_z a (pos 0) ≡ s → lt_z b (pos 0) ≡ t → (s && t) ≡ true → ⊥
      go true true e g n =
          let l : a <ℤ pos 0 = lt_yes e in
          let m : b <ℤ pos 0 = lt_yes g in
          clash_by (a ∷ b ∷ w.first ∷ w.second ∷ []) (i +₀ h.first ×₀ gap< l +₀ h.second ×₀ gap< m +₀ gap< h.some)
          (search sides depth 40 fits 9999) refl
      go true false e g n = clash (cc)
      go false t e g n = clash (cc)

-- ---- a range has weights in it exactly where its ends are in order
some_in : (r : Range) → Fine r → ordered r.low r.high ≡ true → In r r.low
some_in r f e = record {
  from = record { before = nonneg_by (r.low.first ∷ r.low.second ∷ []) (natural 0) (search sides depth 40 fits 9999) refl };
  to = ordered_yes r.low r.high e;
}

in_some : (r : Range) → Fine r → (w : Weights) → Proper w → In r w → ordered r.low r.high ≡ true
in_some r f w hw i = yes_ordered r.low r.high (through r.low w r.high f.low hw f.high i.from i.to)

whole_fine : Fine whole
whole_fine = record {
  low = record { first = natural 1; second = natural 0; some = pos_lt (lit< tt) };
  high = record { first = natural 0; second = natural 1; some = pos_lt (lit< tt) };
}

whole_in : (w : Weights) → Proper w → In whole w
whole_in w h = record {
  from = record { before = nonneg_by (w.first ∷ w.second ∷ []) h.second (search sides depth 40 fits 9999) refl };
  to = record { before = nonneg_by (w.first ∷ w.second ∷ []) h.first (search sides depth 40 fits 9999) refl };
}

-- ---- both sides of a coordinate
record InsideBoth (s : Sides) (w : Weights) : Type 0 where
  low : Inside s.low_first s.low_second w
  high : Inside s.high_first s.high_second w

or_false : (a b : Bool) → (a || b) ≡ false → (a ≡ false) × (b ≡ false)
or_false false b e = (refl, e)
or_false true b e = clash (cc)

module _ (r : Range) (f : Fine r) (s : Sides) (n : apart s ≡ false) where
  neither : (outside s.low_first s.low_second ≡ false) × (outside s.high_first s.high_second ≡ false)
  neither = or_false (outside s.low_first s.low_second) (outside s.high_first s.high_second) n

  once : Cut r s.low_first s.low_second (cut r s.low_first s.low_second)
  once = cut_is s.low_first s.low_second r f neither.0

  twice : Cut (cut r s.low_first s.low_second) s.high_first s.high_second (cut_sides r s)
  twice = cut_is s.high_first s.high_second (cut r s.low_first s.low_second) once.fine neither.1

  sides_leave : (w : Weights) → Proper w → In (cut_sides r s) w ↔ (In r w × InsideBoth s w)
  sides_leave w h =
      let t = twice.leaves w h in
      let o = once.leaves w h in (
        λ i. let j = t.0 i in let k = o.0 j.0 in (k.0, record { low = k.1; high = j.1 }),
        λ i. t.1 (o.1 (i.0, i.1.low), i.1.high),
      )

none_apart : (s : Sides) → apart s ≡ true → (w : Weights) → Proper w → InsideBoth s w → ⊥
none_apart s e w h i = go (outside s.low_first s.low_second) refl e
  where
    go : (b : Bool) → outside s.low_first s.low_second ≡ b → (b || outside s.high_first s.high_second) ≡ true → ⊥
    go true f g = none_inside s.low_first s.low_second f w h i.low
    go false f g = none_inside s.high_first s.high_second g w h i.high

-- ---- a cover
record HeldAt (sx sy : Sides) : Type 0 where
  w : Weights
  proper : Proper w
  in_x : InsideBoth sx w
  in_y : InsideBoth sy w

module _ (sx sy : Sides) (nx : apart sx ≡ false) (ny : apart sy ≡ false) where
  abbrev across : Range
  across = cut_sides whole sx

  across_fine : Fine across
  across_fine = (twice whole whole_fine sx nx).fine

  held_by_law : held_by sx sy ≡ true → HeldAt sx sy
  held_by_law e =
      let f = (twice across across_fine sy ny).fine in
      let w = (cut_sides across sy).low in
      let j = (sides_leave across across_fine sy ny w f.low).0 (some_in (cut_sides across sy) f e) in
      let k = (sides_leave whole whole_fine sx nx w f.low).0 j.0 in
      record { w = w; proper = f.low; in_x = k.1; in_y = j.1 }

  by_held : HeldAt sx sy → held_by sx sy ≡ true
  by_held h =
      let w = h.w in
      let p = h.proper in
      in_some (cut_sides across sy) (twice across across_fine sy ny).fine w p
      ((sides_leave across across_fine sy ny w p).1 ((sides_leave whole whole_fine sx nx w p).1 (whole_in w p, h.in_x), h.in_y))

-- ---- in the words of the definition: the weights are two naturals
module _ (a b : ℕ) (low₀ high₀ low₁ high₁ z : ℤ) where
  abbrev natural_weights : Weights
  natural_weights = record { first = pos a; second = pos b }

  mixed_inside : Mixed a b low₀ high₀ low₁ high₁ z ↔ InsideBoth (sides_of low₀ high₀ low₁ high₁ z) natural_weights
  mixed_inside =
      let ρ = pos a ∷ pos b ∷ low₀ ∷ high₀ ∷ low₁ ∷ high₁ ∷ z ∷ [] in (
        λ m. record {
          low = nonneg_by ρ (gap m.low) (search sides depth 40 fits 9999) refl;
          high = nonneg_by ρ (gap m.high) (search sides depth 40 fits 9999) refl;
        },
        λ i. record {
          low = le_of_gap (nonneg_by ρ i.low (search sides depth 40 fits 9999) refl);
          high = le_of_gap (nonneg_by ρ i.high (search sides depth 40 fits 9999) refl);
        },
      )

module _ (p q : Box) (x y : ℤ) where
  held_at : Holds p q x y → HeldAt (sides_x p q x) (sides_y p q y)
  held_at h = record {
    w = record { first = pos h.a; second = pos h.b };
    proper = record { first = natural h.a; second = natural h.b; some = pos_lt h.some };
    in_x = (mixed_inside h.a h.b p.x_low p.x_high q.x_low q.x_high x).0 h.in_x;
    in_y = (mixed_inside h.a h.b p.y_low p.y_high q.y_low q.y_high y).0 h.in_y;
  }

  at_held : HeldAt (sides_x p q x) (sides_y p q y) → Holds p q x y
  at_held h = go (nonneg_natural h.proper.first) (nonneg_natural h.proper.second)
    where
      go : (m : (n : ℕ) × (h.w.first ≡ pos n)) (k : (n : ℕ) × (h.w.second ≡ pos n)) → Holds p q x y
      go m k =
          let e : h.w ≡ record { first = pos m.0; second = pos k.0 } = λ i. record { first = m.1 i; second = k.1 i } in
          let P = rw e at h.proper in
          let X = rw e at h.in_x in
          let Y = rw e at h.in_y in
          record {
            a = m.0;
            b = k.0;
            some = lt_pos P.some;
            in_x = (mixed_inside m.0 k.0 p.x_low p.x_high q.x_low q.x_high x).1 X;
            in_y = (mixed_inside m.0 k.0 p.y_low p.y_high q.y_low q.y_high y).1 Y;
          }

  pub held_exactly : (held p q x y ≡ true) ↔ Holds p q x y
  unfolding held
  held_exactly = (
    λ e. at_held (there (apart (sides_x p q x)) (apart (sides_y p q y)) refl refl e),
    λ h. back (apart (sides_x p q x)) (apart (sides_y p q y)) refl refl (held_at h),
  )
    where
      there : (s t : Bool) → apart (sides_x p q x) ≡ s → apart (sides_y p q y) ≡ t → (not s && not t && held_by (sides_x p q x) (sides_y p q y)) ≡ true
          → HeldAt (sides_x p q x) (sides_y p q y)
      there false false e f g = held_by_law (sides_x p q x) (sides_y p q y) e f g
      there true t e f g = clash (cc)
      there false true e f g = clash (cc)

      back : (s t : Bool) → apart (sides_x p q x) ≡ s → apart (sides_y p q y) ≡ t → HeldAt (sides_x p q x) (sides_y p q y)
          → (not s && not t && held_by (sides_x p q x) (sides_y p q y)) ≡ true
      back false false e f h = by_held (sides_x p q x) (sides_y p q y) e f h
      back true t e f h = absurd (none_apart (sides_x p q x) e h.w h.proper h.in_x)
      back false true e f h = absurd (none_apart (sides_y p q y) f h.w h.proper h.in_y)
