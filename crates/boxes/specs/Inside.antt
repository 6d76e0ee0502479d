-- For contracts of private functions, and of `side_fine`, which other crates call: how the code looks at a box.
use Rattle.std.specs.Prelude.{Bool, ◌&&◌, ℤ, pos, neg_ℤ}
use Rattle.std.specs.Int.Signed.{le_z}
use Rattle.boxes.specs.declared.Box.{Box}
use Rattle.boxes.specs.Ranges.{farthest}

-- a low and a high that are both fine, in three comparisons
abbrev pub side_fine : ℤ → ℤ → Bool
side_fine low high = le_z (neg_ℤ (pos farthest)) low && le_z low high && le_z high (pos farthest)

abbrev pub box_of : ℤ → ℤ → ℤ → ℤ → Box
box_of a b c d = record { x_low = a; x_high = b; y_low = c; y_high = d }
