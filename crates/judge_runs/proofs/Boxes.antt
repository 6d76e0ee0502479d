-- Boxes round boxes, and round the records of a run.
use mathlib.Core.Path.{◌≡◌, refl, sym, ◌∙◌, ap₂, subst}
use mathlib.Core.Logic.{⊎_elim}
use mathlib.Core.Bool.{Bool, true, false, cond}
use mathlib.Core.List.{List}
use Prim.Native.Nat.{ℕ, zero, suc, ◌+◌, ◌*◌, ◌%◌, ◌≤◌, ◌<◌}
use native.Mathlib.Nat.{eq-or-lt_of_le, le_of_suc-le-suc}
use native.Mathlib.Numerals.{add-one}
use native.Mathlib.Omega.{arith}
use lib.IntN.{ℤ}
use lib.Signed.{lt_z, ◌≤ℤ◌, ≤ℤ_refl}
use mir.Syntax.{w32}
use mir.Val.{SFits}
use mir.Facts.{to_z-of_z}
use Rattle.std.specs.Int.{int_min, int_max}
use Rattle.integers.proofs.Order.{≤ℤ_trans, lt_le, lt_or_ge}
use Rattle.integers.proofs.Ranges.{stored, lt_yes, lt_no}
use Rattle.setting.specs.Setting.{Setting, break_points, record_length}
use Rattle.boxes.specs.declared.Box.{Box}
use Rattle.boxes.specs.Inside.{box_of}
use Rattle.boxes.specs.Records.{box_index, box_at_index}
use Rattle.boxes.proofs.Records.{one_record}
use Rattle.judge_runs.specs.Inside.{round_both, round_boxes, LiesIn, Around}

-- ---- numbers of 32 bits as they are kept, and a box made of four
pub kept_by : (op : ℤ → ℤ → ℤ) {u v r : ℤ} → SFits w32 u → SFits w32 v → SFits w32 r → r ≡ op (stored w32 u) (stored w32 v) → stored w32 r ≡ op u v
kept_by op fu fv fr e = to_z-of_z fr ∙ e ∙ ap₂ op (to_z-of_z fu) (to_z-of_z fv)

pub same_box : {a b c d a' b' c' d' : ℤ} → a ≡ a' → b ≡ b' → c ≡ c' → d ≡ d' → box_of a b c d ≡ box_of a' b' c' d'
same_box {c} {d} {a'} {b'} ea eb ec ed = ap₂ (λ x y. box_of x y c d) ea eb ∙ ap₂ (λ x y. box_of a' b' x y) ec ed

-- ---- the lesser and the greater of two numbers
module _ (a b : ℤ) where
  lesser_le : (int_min a b ≤ℤ a) × (int_min a b ≤ℤ b)
  lesser_le = go (lt_z b a) refl
    where
      go : (t : Bool) → lt_z b a ≡ t → (cond t b a ≤ℤ a) × (cond t b a ≤ℤ b)
      go true e = (lt_le (lt_yes e), ≤ℤ_refl b)
      go false e = (≤ℤ_refl a, lt_no e)

  greater_ge : (a ≤ℤ int_max a b) × (b ≤ℤ int_max a b)
  greater_ge = go (lt_z b a) refl
    where
      go : (t : Bool) → lt_z b a ≡ t → (a ≤ℤ cond t a b) × (b ≤ℤ cond t a b)
      go true e = (≤ℤ_refl a, lt_le (lt_yes e))
      go false e = (lt_no e, ≤ℤ_refl b)

-- ---- boxes in boxes
pub lies_on : {a b c : Box} → LiesIn a b → LiesIn b c → LiesIn a c
lies_on p q = record {
  x_low = ≤ℤ_trans q.x_low p.x_low;
  x_high = ≤ℤ_trans p.x_high q.x_high;
  y_low = ≤ℤ_trans q.y_low p.y_low;
  y_high = ≤ℤ_trans p.y_high q.y_high;
}

module _ (a b : Box) where
  -- a box of numbers that lie between those of the two
  between_lies : (pick : ℤ → ℤ → ℤ) → ((u v : ℤ) → (int_min u v ≤ℤ pick u v) × (pick u v ≤ℤ int_max u v))
      → LiesIn (box_of (pick a.x_low b.x_low) (pick a.x_high b.x_high) (pick a.y_low b.y_low) (pick a.y_high b.y_high))
      (round_both a b)
  unfolding round_both
  between_lies pick h = record { x_low = (h _ _).0; x_high = (h _ _).1; y_low = (h _ _).0; y_high = (h _ _).1 }

  first_lies : LiesIn a (round_both a b)
  first_lies = between_lies (λ u v. u) (λ u v. ((lesser_le u v).0, (greater_ge u v).0))

  second_lies : LiesIn b (round_both a b)
  second_lies = between_lies (λ u v. v) (λ u v. ((lesser_le u v).1, (greater_ge u v).1))

lies_itself : (a : Box) → LiesIn a a
lies_itself a = record { x_low = ≤ℤ_refl _; x_high = ≤ℤ_refl _; y_low = ≤ℤ_refl _; y_high = ≤ℤ_refl _ }

module _ (b : Box) (ns : List ℤ) (at : ℕ) where
  pub round_next : (n : ℕ) → round_both (round_boxes b ns at n) (box_at_index ns (at + 4 * n)) ≡ round_boxes b ns at (n + 1)
  unfolding round_boxes
  round_next n = subst (λ k. round_both (round_boxes b ns at n) (box_at_index ns (at + 4 * n)) ≡ round_boxes b ns at k) (sym (add-one n)) refl

  pub round_first : (n : ℕ) → LiesIn b (round_boxes b ns at n)
  unfolding round_boxes
  round_first zero = lies_itself b
  round_first (suc n) = lies_on (round_first n) (first_lies (round_boxes b ns at n) (box_at_index ns (at + 4 * n)))

  pub round_each : (n i : ℕ) → i < n → LiesIn (box_at_index ns (at + 4 * i)) (round_boxes b ns at n)
  unfolding round_boxes
  round_each zero i h = absurd (omega arith)
  round_each (suc n) i h = ⊎_elim
      (λ e. subst (λ j. LiesIn (box_at_index ns (at + 4 * j)) (round_boxes b ns at (suc n))) (sym e)
      (second_lies (round_boxes b ns at n) (box_at_index ns (at + 4 * n))))
      (λ l. lies_on (round_each n i l) (first_lies (round_boxes b ns at n) (box_at_index ns (at + 4 * n))))
      (eq-or-lt_of_le (le_of_suc-le-suc h))

-- ---- the records of a run, one by one
module _ {σ : Setting} {ns : List ℤ} {from : ℕ} where
  pub around_none : {to : ℕ} (b : Box) → to ≤ from → Around σ ns from to b
  around_none b e = record { each = λ k i h l r m. absurd (omega arith) }

  pub around_more : {at : ℕ} {b : Box} → Around σ ns from at b → at % record_length σ ≡ 0
      → Around σ ns from (at + record_length σ) (round_boxes b ns (at + 2) (break_points σ))
  around_more {at} {b} a e = record {
    each = λ k i h l r m. ⊎_elim
        (λ n. lies_on (a.each k i h n r m) (round_first b ns (at + 2) (break_points σ)))
        (λ n. here k i m (one_record (record_length σ) k e n l))
        (lt_or_ge (record_length σ * k) at);
  }
    where
      here : (k i : ℕ) → i < break_points σ → record_length σ * k ≡ at
          → LiesIn (box_at_index ns (box_index σ k i)) (round_boxes b ns (at + 2) (break_points σ))
      here k i m f =
          let n : at + 2 + 4 * i ≡ box_index σ k i = omega arith in
          subst (λ j. LiesIn (box_at_index ns j) (round_boxes b ns (at + 2) (break_points σ))) n (round_each b ns (at + 2) (break_points σ) i m)

  pub around_less : {to at : ℕ} {b : Box} → Around σ ns from at b → to ≤ at → Around σ ns from to b
  around_less a e = record { each = λ k i h l r m. a.each k i h (omega arith) r m }
