-- The first bad number of a box, test by test; of two boxes, the first's before the second's; and that a box without fault is two intervals in range.
use mathlib.Core.Path.{◌≡◌, refl, sym, ◌∙◌, ap}
use mathlib.Core.Bool.{Bool, true, false, ◌&&◌}
use mathlib.Core.Option.{Option, none, some}
use Prim.Native.Nat.{ℕ, suc, ◌+◌, ◌<◌}
use lib.IntN.{ℤ, pos, neg_ℤ}
use lib.Signed.{le_z, ◌≤ℤ◌}
use Rattle.std.specs.Prelude.{Option as Maybe, Some, None}
use Rattle.std.proofs.lemmas.Option.{none-some, same_Some}
use Rattle.integers.specs.Entry.{entry}
use Rattle.integers.specs.First.{first_bad}
use Rattle.integers.proofs.Ranges.{le_yes, yes_le}
use Rattle.integers.proofs.Order.{≤ℤ_trans}
use Rattle.integers.proofs.Between.{between_low, between_high}
use Rattle.integers.proofs.First.{moved, bad_moved, bad_below}
use Rattle.integers.proofs.Both.{both_true}
use Rattle.boxes.specs.declared.Box.{Box}
use Rattle.boxes.specs.Ranges.{farthest, in_range, low_fine, box_number_fine, numbers_of, box_fault, place_of, Interval}
use Rattle.boxes.specs.Inside.{side_fine}

-- ---- test by test: x low, x high, y low, y high
abbrev pub fault_by : Bool → Bool → Bool → Bool → Maybe ℕ
fault_by false b c d = Some 0
fault_by true false c d = Some 1
fault_by true true false d = Some 2
fault_by true true true false = Some 3
fault_by true true true true = None

pub fault_by_law : (b : Box) → place_of (box_fault b)
    ≡ fault_by (low_fine b.x_low b.x_high) (in_range b.x_high) (low_fine b.y_low b.y_high) (in_range b.y_high)
unfolding box_fault first_bad
fault_by_law b = go (low_fine b.x_low b.x_high) (in_range b.x_high) (low_fine b.y_low b.y_high) (in_range b.y_high)
  where
    go : (p q r s : Bool)
        → place_of (elim p [
          | true ↦ elim q [ true ↦ elim r [ true ↦ elim s [ true ↦ none | false ↦ some 3 ] | false ↦ some 2 ] | false ↦ some 1 ]
          | false ↦ some 0
        ]) ≡ fault_by p q r s
    go false q r s = refl
    go true false r s = refl
    go true true false s = refl
    go true true true false = refl
    go true true true true = refl

-- ---- a box that stands at place i of a list
pub fault_at_law : (fine : ℕ → Bool) (i : ℕ) (b : Box)
    → ((p : ℕ) → p < 4 → fine (i + p) ≡ box_number_fine p (entry (numbers_of b) p) (entry (numbers_of b) (suc p)))
    → first_bad fine 4 i ≡ moved i (box_fault b)
unfolding box_fault
fault_at_law fine i b h = bad_moved fine i (λ p. box_number_fine p (entry (numbers_of b) p) (entry (numbers_of b) (suc p))) 4 h

-- ---- what the tests of the four numbers give, each behind those before it
module _ (b : Box) where
  pub at_x_low : low_fine b.x_low b.x_high ≡ false → Some 0 ≡ place_of (box_fault b)
  at_x_low e = sym (fault_by_law b ∙ rw e)

  module _ (xl : low_fine b.x_low b.x_high ≡ true) where
    pub at_x_high : in_range b.x_high ≡ false → Some 1 ≡ place_of (box_fault b)
    at_x_high e = sym (fault_by_law b ∙ rw (xl, e))

    module _ (xh : in_range b.x_high ≡ true) where
      pub at_y_low : low_fine b.y_low b.y_high ≡ false → Some 2 ≡ place_of (box_fault b)
      at_y_low e = sym (fault_by_law b ∙ rw (xl, xh, e))

      module _ (yl : low_fine b.y_low b.y_high ≡ true) where
        pub at_y_high : in_range b.y_high ≡ false → Some 3 ≡ place_of (box_fault b)
        at_y_high e = sym (fault_by_law b ∙ rw (xl, xh, yl, e))

        pub all_fine : in_range b.y_high ≡ true → None ≡ place_of (box_fault b)
        all_fine e = sym (fault_by_law b ∙ rw (xl, xh, yl, e))

-- ---- a low and a high that are fine are an interval in range, and an interval in range is fine
module _ {low high : ℤ} where
  pub interval : low_fine low high ≡ true → in_range high ≡ true → Interval low high
  interval l h = record {
    from = between_low (neg_ℤ (pos farthest)) (pos farthest) low (both_true (in_range low) (le_z low high) l).0;
    order = le_yes (both_true (in_range low) (le_z low high) l).1;
    to = between_high (neg_ℤ (pos farthest)) (pos farthest) high h;
  }

  pub interval_low : Interval low high → low_fine low high ≡ true
  interval_low i =
      let t : low ≤ℤ pos farthest = ≤ℤ_trans i.order i.to in
      rw (yes_le i.from, yes_le t, yes_le i.order)

  pub interval_high : Interval low high → in_range high ≡ true
  interval_high i =
      let f : neg_ℤ (pos farthest) ≤ℤ high = ≤ℤ_trans i.from i.order in
      rw (yes_le f, yes_le i.to)

-- ---- the three comparisons of a side say exactly that it is an interval in range
module _ (low high : ℤ) where
  pub side_interval : side_fine low high ≡ true → Interval low high
  side_interval e =
      let a = both_true (le_z (neg_ℤ (pos farthest)) low && le_z low high) (le_z high (pos farthest)) e in
      let b = both_true (le_z (neg_ℤ (pos farthest)) low) (le_z low high) a.0 in
      record { from = le_yes b.0; order = le_yes b.1; to = le_yes a.1 }

  pub interval_side : Interval low high → side_fine low high ≡ true
  interval_side i = rw (yes_le i.from, yes_le i.order, yes_le i.to)

pub sides_fine_law : (b : Box) → side_fine b.x_low b.x_high ≡ true → side_fine b.y_low b.y_high ≡ true → None ≡ place_of (box_fault b)
sides_fine_law b e f =
    let x = side_interval b.x_low b.x_high e in
    let y = side_interval b.y_low b.y_high f in
    all_fine b (interval_low x) (interval_high x) (interval_low y) (interval_high y)

-- ---- what the code hands on says what was found
pub place_some : (o : Option ℕ) {p : ℕ} → Some p ≡ place_of o → o ≡ some p
place_some (some q) e = ap some (sym (same_Some _ q e))
place_some none {p} e = absurd (none-some p (sym e))

pub place_none : (o : Option ℕ) → None ≡ place_of o → o ≡ none
place_none none e = refl
place_none (some q) e = absurd (none-some q e)

pub box_below : (b : Box) (p : ℕ) → box_fault b ≡ some p → p < 4
unfolding box_fault
box_below b p e = bad_below (λ p. box_number_fine p (entry (numbers_of b) p) (entry (numbers_of b) (suc p))) 4 0 p e
