-- The test of a range: as orders, and as code finds it by comparing a number with one end and then with the other.
use mathlib.Core.Path.{◌≡◌, sym, subst}
use mathlib.Core.Bool.{Bool, true, false, not}
use mathlib.Core.List.{List}
use Prim.Native.Nat.{ℕ, ◌^◌, ◌<◌}
use lib.Dec.{T}
use lib.IntN.{ℤ}
use lib.Signed.{mag, le_z, lt_z, ◌≤ℤ◌, le_z_yes}
use mir.Syntax.{Width, w32}
use mir.Val.{SFits}
use mir.Facts.{to_z-of_z}
use Rattle.integers.specs.Entry.{entry}
use Rattle.integers.proofs.Ranges.{stored, lt_yes, lt_no, yes_le, no_le}
use Rattle.integers.proofs.Table.{and_left, and_right}
use Rattle.integers.specs.Between.{between}
use Rattle.integers.proofs.Both.{and_false}

module _ (low high z : ℤ) where
  pub between_low : between low high z ≡ true → low ≤ℤ z
  between_low e = le_z_yes (and_left (le_z low z) (le_z z high) (subst T (sym e) tt))

  pub between_high : between low high z ≡ true → z ≤ℤ high
  between_high e = le_z_yes (and_right (le_z low z) (le_z z high) (subst T (sym e) tt))

-- a comparison the other way round
turned : (a b : ℤ) (t : Bool) → lt_z b a ≡ t → le_z a b ≡ not t
turned a b true e = no_le (lt_yes {a = b} {b = a} e)
turned a b false e = yes_le (lt_no {a = b} {b = a} e)

-- z is held in w bits
module _ {w : Width} {z : ℤ} (fits : SFits w z) (low high : ℤ) where
  from_low : (t : Bool) → lt_z (stored w z) low ≡ t → le_z low z ≡ not t
  from_low t e = turned low z t (rw (to_z-of_z fits) at e)

  to_high : (t : Bool) → lt_z high (stored w z) ≡ t → le_z z high ≡ not t
  to_high t e = turned z high t (rw (to_z-of_z fits) at e)

  pub found_below : lt_z (stored w z) low ≡ true → between low high z ≡ false
  found_below e = rw (from_low true e)

  pub found_above : lt_z high (stored w z) ≡ true → between low high z ≡ false
  found_above e = rw (to_high true e) (and_false (le_z low z))

  pub found_within : lt_z (stored w z) low ≡ false → lt_z high (stored w z) ≡ false → between low high z ≡ true
  found_within e f = rw (from_low false e, to_high false f)

  pub found_last : lt_z (stored w z) low ≡ false → le_z (stored w z) high ≡ between low high z
  found_last e = rw (to_z-of_z fits, from_low false e)

-- what a struct of i32 tells of its fields, and a read of a list of i32 of its element
pub number_fits : (z : ℤ) → mag z < 2 ^ 31 → SFits w32 z
number_fits z h = record { sfits = h }

pub element_fits : (ns : List ℤ) (i : ℕ) → mag (entry ns i) < 2 ^ 31 → SFits w32 (entry ns i)
element_fits ns i h = number_fits (entry ns i) h
