-- What a list of f64 gives, from what the whole numbers read give: the same curves, and the fault with its name.
use mathlib.Core.Path.{◌≡◌, refl}
use mathlib.Core.List.{List}
use Prim.Native.Nat.{ℕ}
use lib.Ieee.{Float}
use Rattle.integers.proofs.Clash.{clash}
use Rattle.refusals.specs.declared.Refusal.{Refusal}
use Rattle.curve_nodes.specs.declared.Curve.{Curve}
use Rattle.outline.specs.Checks.{Outlined, curves, faulty, outlined}
use Rattle.outline_binary64.specs.Lists.{wholes, named, with_named, outlined_binary64}

curves_of_law : (xs : List Float) (o : Outlined) (cs : List Curve) → with_named xs o ≡ curves cs → o ≡ curves cs
curves_of_law xs (curves ds) cs e = e
curves_of_law xs (faulty r) cs e = clash (cc)

-- a fault of the whole numbers read, and its name
pub record NamedFault (most m : ℕ) (xs : List Float) (r : Refusal) : Type 0 where
  pub own : Refusal
  pub is : outlined most m (wholes xs) ≡ faulty own
  pub name : r ≡ named xs own

fault_of_law : (xs : List Float) (o : Outlined) (r : Refusal) → with_named xs o ≡ faulty r → (q : Refusal) × (o ≡ faulty q) × (r ≡ named xs q)
fault_of_law xs (curves cs) r e = clash (cc)
fault_of_law xs (faulty q) r e = (q, refl, cc)

module _ (most m : ℕ) (xs : List Float) where
  pub whole_curves : (cs : List Curve) → outlined_binary64 most m xs ≡ curves cs → outlined most m (wholes xs) ≡ curves cs
  unfolding outlined_binary64
  whole_curves cs e = curves_of_law xs (outlined most m (wholes xs)) cs e

  pub whole_fault : (r : Refusal) → outlined_binary64 most m xs ≡ faulty r → NamedFault most m xs r
  unfolding outlined_binary64
  whole_fault r e = let f = fault_of_law xs (outlined most m (wholes xs)) r e in record { own = f.0; is = f.1; name = f.2 }
