-- The square of a number, by which distances are compared.
use Rattle.std.specs.Prelude.{ℤ, ◌*ℤ◌}

abbrev pub squared : ℤ → ℤ
squared z = z *ℤ z
