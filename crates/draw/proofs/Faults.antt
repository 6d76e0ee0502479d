-- Check 12: the first bad number of two boxes is the first box's, or else the second's.
use mathlib.Core.Path.{◌≡◌, refl, ◌∙◌, ap, ap₂}
use mathlib.Core.Bool.{Bool}
use mathlib.Core.List.{◌++◌}
use mathlib.Core.Option.{none, some}
use Prim.Native.Nat.{ℕ, zero, suc, ◌+◌, ◌<◌}
use native.Mathlib.Nat.{zero-add}
use native.Mathlib.Omega.{arith}
use Rattle.integers.specs.Entry.{entry}
use Rattle.integers.proofs.First.{or_else, moved, bad_parts}
use Rattle.boxes.specs.declared.Box.{Box}
use Rattle.boxes.specs.Ranges.{box_number_fine, numbers_of, box_fault}
use Rattle.boxes.proofs.Faults.{fault_at_law, box_below}
use Rattle.draw.specs.Drawing.{two_boxes_fault}

-- the test of a box's own number at place p
abbrev own : Box → ℕ → Bool
own c p = box_number_fine p (entry (numbers_of c) p) (entry (numbers_of c) (suc p))

-- two tests that agree at the four places of a box
each_of_four : (f g : ℕ → Bool) → f 0 ≡ g 0 → f 1 ≡ g 1 → f 2 ≡ g 2 → f 3 ≡ g 3 → (p : ℕ) → p < 4 → f p ≡ g p
each_of_four f g a b c d zero h = a
each_of_four f g a b c d (suc zero) h = b
each_of_four f g a b c d (suc (suc zero)) h = c
each_of_four f g a b c d (suc (suc (suc zero))) h = d
each_of_four f g a b c d (suc (suc (suc (suc p)))) h = absurd (omega arith)

module _ (a b : Box) where
  abbrev fine : ℕ → Bool
  fine p = box_number_fine p (entry (numbers_of a ++ numbers_of b) p) (entry (numbers_of a ++ numbers_of b) (suc p))

  two_faults : two_boxes_fault a b ≡ or_else (moved 0 (box_fault a)) (moved 4 (box_fault b))
  two_faults = bad_parts fine 4 4 0 ∙ ap₂ or_else (fault_at_law fine 0 a at_first) (fault_at_law fine 4 b at_second)
    where
      at_first : (p : ℕ) → p < 4 → fine (0 + p) ≡ own a p
      at_first = each_of_four (λ p. fine (0 + p)) (own a) refl refl refl refl

      at_second : (p : ℕ) → p < 4 → fine (4 + p) ≡ own b p
      at_second = each_of_four (λ p. fine (4 + p)) (own b) refl refl refl refl

  pub second_below : (p : ℕ) → box_fault b ≡ some p → p < 4
  second_below p e = box_below b p e

  pub fault_of_first : (p : ℕ) → box_fault a ≡ some p → two_boxes_fault a b ≡ some p
  fault_of_first p e = two_faults ∙ ap (λ o. or_else (moved 0 o) (moved 4 (box_fault b))) e ∙ ap some (zero-add p)

  pub fault_of_second : box_fault a ≡ none → two_boxes_fault a b ≡ moved 4 (box_fault b)
  fault_of_second e = two_faults ∙ ap (λ o. or_else (moved 0 o) (moved 4 (box_fault b))) e
