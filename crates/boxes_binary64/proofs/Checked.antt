-- Check 12 of a box by itself, as its code answers it.
use mathlib.Core.Path.{◌≡◌, refl, sym, ap, ◌∙◌}
use mathlib.Core.Bool.{Bool, true, false}
use mathlib.Core.Option.{none, some}
use Prim.Native.Nat.{ℕ}
use Rattle.std.specs.Prelude.{Some, None}
use Rattle.std.proofs.lemmas.Option.{none-some}
use Rattle.refusals.specs.declared.Refusal.TheVariants.{BoxNumber}
use Rattle.boxes.specs.declared.Box.{Box}
use Rattle.boxes.specs.Ranges.{in_range, low_fine, box_fault, place_of, Interval}
use Rattle.boxes.proofs.Faults.{fault_by, fault_by_law, interval, place_some, place_none}

pub faulty : (b : Box) {place : ℕ} → Some place ≡ place_of (box_fault b) → (p : ℕ) × (box_fault b ≡ some p) × (BoxNumber place ≡ BoxNumber p)
faulty b {place} e = (place, place_some (box_fault b) e, refl)

pub fine : (b : Box) → None ≡ place_of (box_fault b) → box_fault b ≡ none
fine b e = place_none (box_fault b) e

-- a box without a fault is two intervals in range
pub intervals : (b : Box) → box_fault b ≡ none → Interval b.x_low b.x_high × Interval b.y_low b.y_high
intervals b e =
    let h = go (low_fine b.x_low b.x_high) (in_range b.x_high) (low_fine b.y_low b.y_high) (in_range b.y_high)
    (ap place_of (sym e) ∙ fault_by_law b) in
    (interval h.0 h.1, interval h.2 h.3)
  where
    go : (p q r t : Bool) → None ≡ fault_by p q r t → (p ≡ true) × (q ≡ true) × (r ≡ true) × (t ≡ true)
    go false q r t f = absurd (none-some _ f)
    go true false r t f = absurd (none-some _ f)
    go true true false t f = absurd (none-some _ f)
    go true true true false f = absurd (none-some _ f)
    go true true true true f = (refl, refl, refl, refl)
