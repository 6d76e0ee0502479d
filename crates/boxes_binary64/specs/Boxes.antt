-- A box handed out in binary64 (document 02, request 10): its four numbers in stage units, and the short form. A box
-- given by itself is checked as in 12, so its places are 0 to 3.
use Rattle.std.specs.Prelude.{◌≡◌, ℕ, ◌+ℤ◌, ◌-ℤ◌, Result, Ok, Err}
use Rattle.std.proofs.Math.Option.{none, some}
use Rattle.refusals.specs.declared.Refusal.{Refusal}
use Rattle.refusals.specs.declared.Refusal.TheVariants.{BoxNumber}
use Rattle.boxes.specs.declared.Box.{Box}
use Rattle.boxes.specs.Ranges.{box_fault}
use Rattle.binary64.specs.Exact.{Exactly}
use Rattle.boxes_binary64.specs.declared.StageBox.{StageBox}
use Rattle.boxes_binary64.specs.declared.Short.{Short}
use Rattle.boxes_binary64.specs.declared.Short.TheVariants.{Point, Middle}

-- each number is exactly the sixteenth divided by 16
pub record InUnits (b : Box) (r : StageBox) : Type 0 where
  pub x_low : Exactly r.x_low b.x_low 16
  pub x_high : Exactly r.x_high b.x_high 16
  pub y_low : Exactly r.y_low b.y_low 16
  pub y_high : Exactly r.y_high b.y_high 16

-- a single point: both widths are 0
pub record OnePoint (b : Box) : Type 0 where
  pub x : b.x_low ≡ b.x_high
  pub y : b.y_low ≡ b.y_high

-- The short form: a box that is a single point is that point, any other its middle with two half widths. A middle is
-- half of low + high sixteenths, so (low + high) / 32 of a unit, and a half width (high − low) / 32.
abbrev pub ShortOf : Box → Short → Type 0
ShortOf b (Point x y) = OnePoint b × Exactly x b.x_low 16 × Exactly y b.y_low 16
ShortOf b (Middle x y half-width half-height) =
    (OnePoint b → ⊥)
    × Exactly x (b.x_low +ℤ b.x_high) 32
    × Exactly y (b.y_low +ℤ b.y_high) 32
    × Exactly half-width (b.x_high -ℤ b.x_low) 32
    × Exactly half-height (b.y_high -ℤ b.y_low) 32

-- ---- the answers: the box in one of the forms, or 12 with the place of its first bad number
abbrev pub HandedOut : Box → Result StageBox Refusal → Type 0
HandedOut b (Ok r) = (box_fault b ≡ none) × InUnits b r
HandedOut b (Err q) = (place : ℕ) × (box_fault b ≡ some place) × (q ≡ BoxNumber place)

abbrev pub Shortened : Box → Result Short Refusal → Type 0
Shortened b (Ok r) = (box_fault b ≡ none) × ShortOf b r
Shortened b (Err q) = (place : ℕ) × (box_fault b ≡ some place) × (q ≡ BoxNumber place)
