-- A cut, case by case, and the test of a cover, step by step.
use mathlib.Core.Path.{◌≡◌}
use mathlib.Core.Bool.{true, false}
use lib.IntN.{ℤ, pos, ◌-ℤ◌}
use lib.Signed.{lt_z}
use Rattle.boxes.specs.declared.Box.{Box}
use Rattle.judge_cover.specs.declared.held.Range.{Range}
use Rattle.judge_cover.specs.declared.held.Sides.{Sides}
use Rattle.judge_cover.specs.Deciding.{ordered, later, earlier, sides_x, sides_y, apart, cut, held_by, held}
use Rattle.judge_cover.proofs.Sizes.{weights}

module _ (r : Range) (a b : ℤ) where
  module _ (t : lt_z a (pos 0) ≡ true) where
    pub cut_low : ordered r.low (weights b (pos 0 -ℤ a)) ≡ true
        → ◌≡◌ {A = Range} (record { low = weights b (pos 0 -ℤ a); high = r.high }) (cut r a b)
    cut_low e = rw (cut, t, later, e)

    pub keep_low : ordered r.low (weights b (pos 0 -ℤ a)) ≡ false → r ≡ cut r a b
    keep_low e = rw (cut, t, later, e)

  module _ (t : lt_z a (pos 0) ≡ false) (u : lt_z b (pos 0) ≡ true) where
    pub cut_high : ordered r.high (weights (pos 0 -ℤ b) a) ≡ false
        → ◌≡◌ {A = Range} (record { low = r.low; high = weights (pos 0 -ℤ b) a }) (cut r a b)
    cut_high e = rw (cut, t, u, earlier, e)

    pub keep_high : ordered r.high (weights (pos 0 -ℤ b) a) ≡ true → r ≡ cut r a b
    keep_high e = rw (cut, t, u, earlier, e)

  pub cut_none : lt_z a (pos 0) ≡ false → lt_z b (pos 0) ≡ false → r ≡ cut r a b
  cut_none t u = rw (cut, t, u)

pub sides_are : {a b c d e f g h : ℤ} → a ≡ e → b ≡ f → c ≡ g → d ≡ h
    → ◌≡◌ {A = Sides} (record { low_first = a; low_second = b; high_first = c; high_second = d })
    (record { low_first = e; low_second = f; high_first = g; high_second = h })
sides_are p q r s = λ i. record { low_first = p i; low_second = q i; high_first = r i; high_second = s i }

module _ (p q : Box) (x y : ℤ) where
  pub apart_x : apart (sides_x p q x) ≡ true → false ≡ held p q x y
  unfolding held
  apart_x e = rw e

  pub apart_y : apart (sides_x p q x) ≡ false → apart (sides_y p q y) ≡ true → false ≡ held p q x y
  unfolding held
  apart_y e f = rw (e, f)

  pub not_apart : apart (sides_x p q x) ≡ false → apart (sides_y p q y) ≡ false → held_by (sides_x p q x) (sides_y p q y) ≡ held p q x y
  unfolding held
  not_apart e f = rw (e, f)
