-- The version of the C interface.
use Rattle.std.specs.Prelude.{ℕ}

-- 10000 × the first, 100 × the second and the third part of it: 0.1.0
abbrev pub version : ℕ
version = 100
