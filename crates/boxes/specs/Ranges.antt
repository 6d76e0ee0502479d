-- The range of box numbers and of points, and the first bad number of a box (document 01, checks 10, 11 and 12).
use Rattle.std.specs.Prelude.{Bool, ◌&&◌, List, [], ◌∷◌, ℕ, zero, suc, ◌%◌, ℤ, pos, neg_ℤ, ◌≤ℤ◌}
use Rattle.std.specs.Prelude.{Option as Maybe, Some, None}
use Rattle.std.proofs.Math.Option.{Option, none, some}
use Rattle.std.specs.Int.Signed.{le_z}
use Rattle.integers.specs.Entry.{entry}
use Rattle.integers.specs.Between.{between}
use Rattle.integers.specs.First.{first_bad}
use Rattle.boxes.specs.declared.Box.{Box}

-- the greatest size of a number
abbrev pub farthest : ℕ
farthest = 536870912

abbrev pub in_range : ℤ → Bool
in_range z = between (neg_ℤ (pos farthest)) (pos farthest) z

-- a low in range and not above its high
abbrev pub low_fine : ℤ → ℤ → Bool
low_fine low high = in_range low && le_z low high

-- The number z at place p of a list of boxes, in front of `next`: at an even place stands a low, and next is its high;
-- at an odd place stands a high.
abbrev pub box_number_fine : ℕ → ℤ → ℤ → Bool
box_number_fine p z next = elim (p % 2) [ zero ↦ low_fine z next | suc _ ↦ in_range z ]

abbrev pub numbers_of : Box → List ℤ
numbers_of b = b.x_low ∷ b.x_high ∷ b.y_low ∷ b.y_high ∷ []

-- of a list of boxes, the place of the first bad number among the first n
abbrev pub boxes_fault : ℕ → List ℤ → Option ℕ
boxes_fault n zs = first_bad (λ p. box_number_fine p (entry zs p) (entry zs (suc p))) n 0

unfoldable pub box_fault : Box → Option ℕ
box_fault b = boxes_fault 4 (numbers_of b)

-- a place, or that there is none, as the code hands it on
abbrev pub place_of : Option ℕ → Maybe ℕ
place_of (some p) = Some p
place_of none = None

-- in words: a low and a high in range, the low not above the high
pub record Interval (low high : ℤ) : Type 0 where
  pub from : neg_ℤ (pos farthest) ≤ℤ low
  pub order : low ≤ℤ high
  pub to : high ≤ℤ pos farthest
