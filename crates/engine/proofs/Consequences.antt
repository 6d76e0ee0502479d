-- What a caller may conclude from what banding and judging in one call answers. Each law uses a definition in which the promise ends, so that a weaker
-- one is seen here.
use mathlib.Core.Path.{◌≡◌, refl}
use mathlib.Core.List.{List}
use mathlib.Core.Option.{Option, none, some}
use Prim.Native.Nat.{◌*◌}
use lib.ListN.{length, take}
use lib.IntN.{ℤ}
use Rattle.integers.proofs.Clash.{clash}
use Rattle.refusals.specs.declared.Refusal.{Refusal}
use Rattle.setting.specs.Setting.{Setting, record_length}
use Rattle.std.specs.Prelude.{Result, Ok, Err}
use Rattle.band_banded.specs.declared.banding.Banded.{Banded}
use Rattle.band_banded.specs.Banding.{banded, written}
use Rattle.band_banded.proofs.Theorems.{refused_unaltered as banding-unaltered}
use Rattle.judge.specs.Judging.{point_fault, Verdict}
use Rattle.engine.specs.declared.Outcome.{Outcome}
use Rattle.demand_3.specs.Demand3.{OutlineDemand3}
use Rattle.engine.specs.Outcomes.{JudgedAs, written_for, Answered}

-- ---- a refusal of banding and judging together, whichever it is, leaves the lent list as it was
module _ (σ : Setting) (T : ℤ) (ns old : List ℤ) (x y : ℤ) (r : Refusal) where
  not_judged : {rs : List ℤ} {b : Banded} → JudgedAs σ T ns rs x y b (Err r) → ⊥
  not_judged j = let e = j.is in clash (cc)

  pub refused_unaltered : Answered σ T ns x y old (Err r) → written_for σ T ns x y old ≡ old
  refused_unaltered answered = go (banded σ T ns (length old)) refl (point_fault x y) refl
    where
      go : (b : Result Banded Refusal) → banded σ T ns (length old) ≡ b → (fault : Option Refusal) → point_fault x y ≡ fault
          → written_for σ T ns x y old ≡ old
      go b e (some q) f = rw f
      go (Err q) e none f = rw f (banding-unaltered σ T ns old q e)
      go (Ok b) e none f = absurd (not_judged (rw (e, Answered, f) at answered))

-- ---- an outcome that is no refusal: the report is banding's, and the holder is what judging answers to the leaves that it left in the list
pub record JudgedOutcome (σ : Setting) (T : ℤ) (ns : List ℤ) (x y : ℤ) (old : List ℤ) (o : Outcome) : Type 0 where
  pub report : banded σ T ns (length old) ≡ Ok o.banded
  pub list : written_for σ T ns x y old ≡ written σ T ns old
  pub judged : Verdict σ none (take (record_length σ * o.banded.leaves) (written σ T ns old)) x y (Ok o.holder)
  pub demand_3 : OutlineDemand3 σ T ns (take (record_length σ * o.banded.leaves) (written σ T ns old)) x y (Ok o.holder)

module _ (σ : Setting) (T : ℤ) (ns old : List ℤ) (x y : ℤ) (o : Outcome) where
  pub judged_told : Answered σ T ns x y old (Ok o) → JudgedOutcome σ T ns x y old o
  judged_told answered = go (banded σ T ns (length old)) refl (point_fault x y) refl
    where
      same : {p : Outcome} → ◌≡◌ {A = Result Outcome Refusal} (Ok o) (Ok p) → o ≡ p
      same e = cc

      not_refused : {r : Refusal} → ◌≡◌ {A = Result Outcome Refusal} (Ok o) (Err r) → ⊥
      not_refused e = clash (cc)

      go : (d : Result Banded Refusal) → banded σ T ns (length old) ≡ d → (fault : Option Refusal) → point_fault x y ≡ fault
          → JudgedOutcome σ T ns x y old o
      go (Err q) e fault f = absurd (not_refused (rw (e, Answered) at answered))
      go (Ok b) e (some q) f = absurd (not_refused (rw (e, Answered, f) at answered))
      go (Ok b) e none f =
          let k = rw (e, Answered, f) at answered in
          rw (same k.is) (record { report = e; list = rw f; judged = k.judged; demand_3 = k.demand_3 })
