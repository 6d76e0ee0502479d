-- What banding an outline and then judging a point against its leaves answers, and what it leaves in the caller's list.
-- It is banding's refusal, or else that of the point, and then nothing is written; or banding's report with a judgement
-- of the leaves written, and demand 3 holds of it.
use Rattle.std.specs.Prelude.{◌≡◌, List, ◌*◌, length, take, ℤ, Option, Result, Ok, Err}
use Rattle.std.proofs.Math.Option.{none, some}
use Rattle.setting.specs.Setting.{Setting, record_length}
use Rattle.refusals.specs.declared.Refusal.{Refusal}
use Rattle.band_banded.specs.declared.banding.Banded.{Banded}
use Rattle.band_banded.specs.Banding.{banded, written}
use Rattle.judge.specs.declared.judging.Holder.{Holder}
use Rattle.judge.specs.Judging.{point_fault, Verdict}
use Rattle.engine.specs.declared.Outcome.{Outcome}
use Rattle.demand_3.specs.Demand3.{OutlineDemand3}

-- ---- the caller's list afterwards: as banding leaves it, and unaltered where the point is refused
abbrev pub written_for : Setting → ℤ → List ℤ → (x y : ℤ) → List ℤ → List ℤ
written_for σ T ns x y old = elim (point_fault x y) [ some r ↦ old | none ↦ written σ T ns old ]

-- ---- the answer
-- The outcome is banding's report b with the holder of the point, if any: what judging the leaves rs answers, in which
-- nothing is refused, and demand 3 holds of it.
pub record JudgedAs (σ : Setting) (T : ℤ) (ns rs : List ℤ) (x y : ℤ) (b : Banded) (outcome : Result Outcome Refusal)
    : Type 0 where
  pub holder : Option Holder
  pub is : outcome ≡ Ok (record { banded = b; holder = holder })
  pub judged : Verdict σ none rs x y (Ok holder)
  pub demand_3 : OutlineDemand3 σ T ns rs x y (Ok holder)

-- The checks of banding, then 11, then the judgement of the leaves: of as many records as there are leaves, at the
-- front of what banding leaves in the list.
abbrev pub Answered : Setting → ℤ → List ℤ → (x y : ℤ) → List ℤ → Result Outcome Refusal → Type 0
Answered σ T ns x y old outcome =
    elim (banded σ T ns (length old)) [
      | Err r ↦ outcome ≡ Err r
      | Ok b ↦
          elim (point_fault x y) [
            | some r ↦ outcome ≡ Err r
            | none ↦ JudgedAs σ T ns (take (record_length σ * b.leaves) (written σ T ns old)) x y b outcome
          ]
    ]
