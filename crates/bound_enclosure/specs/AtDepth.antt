-- The low and the high of a coordinate at a depth, in a setting (document 01, "Enclosure rows"; request 05).
use Rattle.std.specs.Prelude.{List, ℕ, ◌*◌, ◌^◌, ℤ, pos}
use Rattle.setting.specs.Setting.{Setting, scale}
use Rattle.bound_rows.specs.Table.{rows_of}
use Rattle.bound_enclosure.specs.Bounds.{high, low}

-- the denominator of the control values of degree d at depth k
abbrev pub over : Setting → ℕ → ℕ → ℤ
over σ d k = pos (scale σ * 2 ^ (d * k))

-- the low and the high of a coordinate of degree d at depth k, at break point i
abbrev pub low_of : Setting → ℕ → ℕ → List ℤ → ℕ → ℤ
low_of σ d k cs i = low σ.pieces (rows_of σ.pieces d) (over σ d k) d cs i

abbrev pub high_of : Setting → ℕ → ℕ → List ℤ → ℕ → ℤ
high_of σ d k cs i = high σ.pieces (rows_of σ.pieces d) (over σ d k) d cs i
