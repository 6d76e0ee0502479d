-- An outline list in binary64 (document 02, request 10): the whole numbers read from it, and its curves or first fault.
use Rattle.std.specs.Prelude.{true, false, not, ◌&&◌, List, map, ℕ, eqb, get_or, ℤ, pos, Float}
use Rattle.std.proofs.Math.Option.{Option, none, some}
use Rattle.std.specs.Float.{nan}
use Rattle.refusals.specs.declared.Refusal.{Refusal}
use Rattle.refusals.specs.declared.Refusal.TheVariants.{NotWhole}
use Rattle.refusals.specs.Refusals.{number_of, spot_of}
use Rattle.outline.specs.Checks.{Outlined, curves, faulty, outlined}
use Rattle.binary64.specs.Read.{whole_of, read_of}

-- What is no whole number stands as 1,048,577, which is neither a degree nor a coordinate.
abbrev pub number_for : Option ℤ → ℤ
number_for (some z) = z
number_for none = pos 1048577

-- the whole numbers read: the list of integers that the list of f64 stands for
abbrev pub wholes : List Float → List ℤ
wholes xs = map (λ x. number_for (read_of x)) xs

-- 21 in the place of 4: a refusal with 4 at an index where no whole number stands is one with 21
abbrev pub named : List Float → Refusal → Refusal
named xs r =
    elim (eqb (number_of r) 4 && not (whole_of (get_or xs (spot_of r) nan))) [ true ↦ NotWhole (spot_of r) | false ↦ r ]

abbrev pub with_named : List Float → Outlined → Outlined
with_named xs (curves cs) = curves cs
with_named xs (faulty r) = faulty (named xs r)

-- the curves, or the first fault: those of the whole numbers read
unfoldable pub outlined_binary64 : (most m : ℕ) → List Float → Outlined
outlined_binary64 most m xs = with_named xs (outlined most m (wholes xs))
