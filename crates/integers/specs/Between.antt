-- The test of a range, both ends included.
use Rattle.std.specs.Prelude.{Bool, ◌&&◌, ℤ}
use Rattle.std.specs.Int.Signed.{le_z}

-- from low to high
abbrev pub between : ℤ → ℤ → ℤ → Bool
between low high z = le_z low z && le_z z high
