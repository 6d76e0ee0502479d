-- For a contract inside the engine alone, no part of a public promise: banding's refusal, or else that of a point.
use Rattle.std.specs.Prelude.{Result, Ok, Err}
use Rattle.refusals.specs.declared.Refusal.{Refusal}
use Rattle.band_banded.specs.declared.banding.Banded.{Banded}

abbrev pub refusal_or : Refusal → Result Banded Refusal → Refusal
refusal_or point (Err r) = r
refusal_or point (Ok b) = point
