-- Places of a text: a list from one of its places on, and which places lie inside.
use mathlib.Core.Path.{◌≡◌}
use mathlib.Core.List.{List, [], ◌∷◌}
use Prim.Native.Nat.{ℕ, zero, suc, ◌+◌, ◌<◌}
use native.Mathlib.Numerals.{add-one}
use native.Mathlib.Omega.{arith}
use lib.ListN.{length, drop}
use lib.Seq.{drop-cons}
use Rattle.text_numbers.specs.Numerals.{byte}

-- the byte at a place stands in front of the bytes from the next place on
pub byte_first : (s : List ℕ) (i : ℕ) → i < length s → drop i s ≡ byte s i ∷ drop (i + 1) s
byte_first s i h = rw (add-one, drop-cons s i 0)

-- a place whose byte is not 0 lies inside
pub byte_inside : (s : List ℕ) (i k : ℕ) → 0 < k → byte s i ≡ k → i < length s
byte_inside [] i k h e = absurd (omega arith)
byte_inside (b ∷ s) zero k h e = omega arith
byte_inside (b ∷ s) (suc i) k h e = omega (arith, byte_inside s i k h e)
