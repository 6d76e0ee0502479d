-- A point beyond all boxes of a record on one side is held by none of its covers.
use mathlib.Core.Path.{◌≡◌, refl, sym, subst}
use mathlib.Core.Logic.{⊎_elim}
use mathlib.Core.Bool.{Bool, true, false, ◌||◌}
use mathlib.Core.List.{List, [], ◌∷◌}
use Prim.Native.Nat.{ℕ, suc, ◌+◌, ◌*◌, ◌%◌, ◌≤◌, ◌<◌}
use native.Mathlib.Omega.{arith}
use lib.IntN.{ℤ, pos, ◌-ℤ◌}
use lib.Signed.{lt_z}
use Rattle.std.specs.Prelude.{None}
use Rattle.integers.specs.Entry.{entry}
use Rattle.integers.proofs.Ring.{sides}
use Rattle.integers.proofs.Order.{gap<, lt_by, lt_or_ge}
use Rattle.integers.proofs.Ranges.{lt_yes, yes_lt}
use Rattle.boxes.specs.declared.Box.{Box}
use Rattle.setting.specs.Setting.{Setting, break_points, covers, record_length}
use Rattle.boxes.specs.Records.{box_at_index}
use Rattle.boxes.proofs.Records.{record_next, one_record}
use Rattle.judge_cover.specs.Deciding.{sides_of, sides_x, outside, apart, held}
use Rattle.judge_cover.proofs.Cuts.{apart_x, apart_y}
use Rattle.judge.proofs.Passing.{pass_each}
use Rattle.judge.specs.Inside.{held_at, below_all, above_all, beyond, record_apart, ApartTo, NextNear}

-- ---- a cover
below_out : (z a : ℤ) → lt_z z a ≡ true → lt_z (z -ℤ a) (pos 0) ≡ true
below_out z a e = yes_lt {a = z -ℤ a} {b = pos 0} (lt_by (z ∷ a ∷ []) (gap< (lt_yes {a = z} {b = a} e)) (search sides depth 40) refl)

or_true : (b : Bool) → (b || true) ≡ true
or_true true = refl
or_true false = refl

-- both boxes of cover i are on the other side, wherever their numbers stand
module _ (σ : Setting) (ns : List ℤ) (at : ℕ) (z : ℤ) (e : beyond σ z ns at ≡ true) (i : ℕ) (h : i < covers σ) where
  pub beyond_apart : {l₀ h₀ l₁ h₁ : ℕ} → at + 4 * i ≡ l₀ → at + 1 + 4 * i ≡ h₀ → at + 4 * suc i ≡ l₁ → at + 1 + 4 * suc i ≡ h₁
      → apart (sides_of (entry ns l₀) (entry ns h₀) (entry ns l₁) (entry ns h₁) z) ≡ true
  beyond_apart {l₀} {h₀} {l₁} {h₁} p q r s = go (below_all σ z ns at) refl e
    where
      low : (j : ℕ) → j < break_points σ → {l : ℕ} → at + 4 * j ≡ l → below_all σ z ns at ≡ true → lt_z (z -ℤ entry ns l) (pos 0) ≡ true
      low j m {l} t f = below_out z (entry ns l) (subst (λ k. lt_z z (entry ns k) ≡ true) t (pass_each (λ a. lt_z z a) ns at (break_points σ) f j m))

      high : (j : ℕ) → j < break_points σ → {l : ℕ} → at + 1 + 4 * j ≡ l → above_all σ z ns (at + 1) ≡ true → lt_z (entry ns l -ℤ z) (pos 0) ≡ true
      high j m {l} t f =
          below_out (entry ns l) z (subst (λ k. lt_z (entry ns k) z ≡ true) t (pass_each (λ a. lt_z a z) ns (at + 1) (break_points σ) f j m))

      go : (b : Bool) → below_all σ z ns at ≡ b → (b || above_all σ z ns (at + 1)) ≡ true
          → apart (sides_of (entry ns l₀) (entry ns h₀) (entry ns l₁) (entry ns h₁) z) ≡ true
      go true f g = rw (low i (omega arith) p f, low (suc i) (omega arith) r f)
      go false f g = rw (high i (omega arith) q g, high (suc i) (omega arith) s g) (or_true (outside (z -ℤ entry ns l₀) (z -ℤ entry ns l₁)))

-- ---- a record
module _ (σ : Setting) (ns : List ℤ) (x y : ℤ) (at : ℕ) where
  missed_x : beyond σ x ns (at + 2) ≡ true → (i : ℕ) → i < covers σ → held_at ns x y at i ≡ false
  missed_x e i h = sym (apart_x (box_at_index ns (at + (2 + 4 * i))) (box_at_index ns (at + (2 + 4 * suc i))) x y
      (beyond_apart σ ns (at + 2) x e i h (omega arith) (omega arith) (omega arith) (omega arith)))

  missed_y : beyond σ y ns (at + 4) ≡ true → (i : ℕ) → i < covers σ → held_at ns x y at i ≡ false
  missed_y e i h = go (apart (sides_x p q x)) refl
    where
      p : Box
      p = box_at_index ns (at + (2 + 4 * i))

      q : Box
      q = box_at_index ns (at + (2 + 4 * suc i))

      go : (b : Bool) → apart (sides_x p q x) ≡ b → held p q x y ≡ false
      go true f = sym (apart_x p q x y f)
      go false f = sym (apart_y p q x y f (beyond_apart σ ns (at + 4) y e i h (omega arith) (omega arith) (omega arith) (omega arith)))

  pub apart_held : record_apart σ x y ns at ≡ true → (i : ℕ) → i < covers σ → held_at ns x y at i ≡ false
  apart_held e = go (beyond σ x ns (at + 2)) refl e
    where
      go : (b : Bool) → beyond σ x ns (at + 2) ≡ b → (b || beyond σ y ns (at + 4)) ≡ true → (i : ℕ) → i < covers σ → held_at ns x y at i ≡ false
      go true f g = missed_x f
      go false f g = missed_y g

-- ---- records one after the other
module _ {σ : Setting} {ns : List ℤ} {x y : ℤ} {from : ℕ} where
  pub apart_here : from % record_length σ ≡ 0 → ApartTo σ x y ns from from
  apart_here e = record { whole = e; after = omega arith; each = λ k h l. absurd (omega arith) }

  pub apart_more : {at : ℕ} → ApartTo σ x y ns from at → record_apart σ x y ns at ≡ true → ApartTo σ x y ns from (at + record_length σ)
  apart_more {at} a e = record {
    whole = record_next (record_length σ) at a.whole;
    after = let h = a.after in omega arith;
    each = λ k h l. ⊎_elim (a.each k h)
        (λ m. subst (λ n. record_apart σ x y ns n ≡ true) (sym (one_record (record_length σ) k a.whole m l)) e)
        (lt_or_ge (record_length σ * k) at);
  }

  -- past the last record the point is apart from each
  pub apart_all : {at to : ℕ} → ApartTo σ x y ns from at → to ≤ at → NextNear σ x y ns from to None
  apart_all a h k l m = a.each k l (omega arith)
