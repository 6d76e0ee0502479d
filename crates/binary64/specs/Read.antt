-- What an f64 is read as, said for every f64 (document 02, request 10).
use Rattle.std.specs.Prelude.{◌*◌, ◌/◌, ◌%◌, Bool, true, false, ℤ, ◌==◌, Float}
use Rattle.std.proofs.Math.Option.{Option, none, some}
use Rattle.std.specs.Float.{nan, inf, fin}
use Rattle.std.specs.Float.Ieee.{up, down}
use Rattle.binary64.specs.Exact.{signed, Number}

-- whether an f64 is a whole number, of any size: m × 2^e is one where down e divides m × up e without a rest
abbrev pub whole_of : Float → Bool
whole_of nan = false
whole_of (inf s) = false
whole_of (fin s m e) = m * up e % down e == 0

-- that number, where it is one
abbrev pub read_of : Float → Option ℤ
read_of nan = none
read_of (inf s) = none
read_of (fin s m e) = elim (whole_of (fin s m e)) [ true ↦ some (signed s (m * up e / down e)) | false ↦ none ]

-- What an answer means, with no arithmetic in it. `means` of crates/binary64/proofs/Meaning.antt shows it of every
-- f64's `read_of`, and `one_meaning` that an f64 has one such answer.
abbrev pub Means : Float → Option ℤ → Type 0
Means x (some z) = Number x z
Means x none = (z : ℤ) → Number x z → ⊥
