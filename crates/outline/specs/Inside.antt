-- For contracts inside the engine alone, no part of a public promise: what the checks find, as their code answers it.
use Rattle.std.proofs.Math.Option.{none, some}
use Rattle.std.specs.Prelude.{ℕ, length, Option, Some, None, Result, Ok, Err}
use Rattle.refusals.specs.declared.Refusal.{Refusal}
use Rattle.outline.specs.Checks.{Outlined, curves, faulty}

-- the first number of a curve that is no coordinate
abbrev pub found_of : Rattle.std.proofs.Math.Option.Option ℕ → Option ℕ
found_of (some i) = Some i
found_of none = None

-- the fault of a curve, or none
abbrev pub fault_of : Rattle.std.proofs.Math.Option.Option Refusal → Result (Unit {0}) Refusal
fault_of (some r) = Err r
fault_of none = Ok tt

-- the curves of an outline, counted, or its first fault
abbrev pub checked_of : Outlined → Result ℕ Refusal
checked_of (curves cs) = Ok (length cs)
checked_of (faulty r) = Err r
