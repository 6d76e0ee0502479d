-- What an answer of exchanging means: where it is accepted, the numbers given were the outline's records, and answer and list are those of banding
-- the changed outline, so that demand 3 holds of it; a refusal alters nothing.
use mathlib.Core.Path.{◌≡◌, refl, sym, ◌∙◌, ap}
use mathlib.Core.Bool.{Bool, true, false}
use mathlib.Core.List.{List}
use mathlib.Core.Option.{Option, none, some}
use Prim.Native.Nat.{ℕ, ◌*◌, ◌≤◌, ◌<◌}
use borrow.Author.Tests.{ltb-true}
use lib.Dec.{ltb}
use lib.ListN.{length, take}
use lib.IntN.{ℤ}
use Rattle.setting.specs.Setting.{Setting, record_length}
use Rattle.integers.proofs.Clash.{clash}
use Rattle.refusals.specs.declared.Refusal.{Refusal}
use Rattle.refusals.specs.declared.Refusal.TheVariants.{NoSuchCurve, OtherRecords}
use Rattle.outline_changed.specs.Changed.{changed}
use Rattle.band_banded.specs.declared.banding.Banded.{Banded}
use Rattle.std.specs.Prelude.{Result, Ok, Err}
use Rattle.band_banded.specs.Banding.{done, banded, written, written_by, written_given}
use Rattle.judge.specs.Judging.{Judgement, Judged}
use Rattle.demand_3.specs.Demand3.{OutlineDemand3}
use Rattle.demand_3.proofs.Demand3.{demand_3}
use Rattle.band_exchanged.specs.Exchange.{records_for, other_records, exchanged_after, exchanged, exchanged_list}
use Rattle.band_exchanged.proofs.Reaching.{others_are}

-- ---- the old outline was accepted with n curves, of which there is a number k, the records are its own, and the rest is new
record Passed (old : Result Banded Refusal) (k : ℕ) (others : Option ℕ) (new : Result Banded Refusal) (a b c : ℕ) : Type 0 where
  curves : ℕ
  leaves : ℕ
  nodes : ℕ
  accepted : old ≡ done curves leaves nodes
  number : k < curves
  own : others ≡ none
  is : new ≡ done a b c

passed : (old : Result Banded Refusal) (k : ℕ) (others : Option ℕ) (new : Result Banded Refusal) (a b c : ℕ) → exchanged_after old k others new ≡ done a b c
    → Passed old k others new a b c
passed (Err r) k others new a b c e = clash (cc)
passed (Ok o) k others new a b c e = go (ltb k o.curves) refl others refl e
  where
    go : (t : Bool) → ltb k o.curves ≡ t → (i : Option ℕ) → others ≡ i
        → ◌≡◌ {A = Result Banded Refusal} (elim t [ false ↦ Err (NoSuchCurve k) | true ↦ elim i [ some j ↦ Err (OtherRecords j) | none ↦ new ] ]) (done a b c)
        → Passed (Ok o) k others new a b c
    go false f o g h = clash (cc)
    go true f (some i) g h = clash (cc)
    go true f none g h = record { curves = o.curves; leaves = o.leaves; nodes = o.nodes; accepted = refl; number = ltb-true k o.curves f; own = g; is = h }

module _ (σ : Setting) (T : ℤ) (ns : List ℤ) (k : ℕ) (new : List ℤ) (count : ℕ) (lent : List ℤ) where
  -- ---- accepted
  module _ (a b c : ℕ) (e : exchanged σ T ns k new count lent ≡ done a b c) where
    all : Passed (banded σ T ns (length (records_for σ T ns))) k (other_records count lent (records_for σ T ns)) (banded σ T (changed ns k new) (length lent))
        a b c
    unfolding exchanged
    all = passed _ k _ _ a b c e

    -- the numbers given were the outline's records
    pub accepted_own : (take count lent ≡ records_for σ T ns) × (count ≡ length (records_for σ T ns)) × (count ≤ length lent)
    accepted_own = others_are count lent (records_for σ T ns) all.own

    -- banding accepts the changed outline with this report
    pub accepted_new : banded σ T (changed ns k new) (length lent) ≡ done a b c
    accepted_new = all.is

    -- and leaves this list
    pub accepted_list : exchanged_list σ T ns k new count lent ≡ written σ T (changed ns k new) lent
    unfolding exchanged_list written_given
    accepted_list = ap (λ q. written_by q (records_for σ T (changed ns k new)) lent) (e ∙ sym accepted_new)

    -- demand 3 of the changed outline, of the leaves in the list, and of whatever judging answers to them
    pub exchanged_demand_3 : (x y : ℤ) (answer : Judgement)
        → Judged σ (take (record_length σ * b) (exchanged_list σ T ns k new count lent)) x y answer
        → OutlineDemand3 σ T (changed ns k new) (take (record_length σ * b) (exchanged_list σ T ns k new count lent)) x y answer
    exchanged_demand_3 x y answer judged =
        rw accepted_list (demand_3 σ T (changed ns k new) lent a b c accepted_new x y answer (rw accepted_list at judged))

  -- ---- refused
  pub refused_list : (r : Refusal) → exchanged σ T ns k new count lent ≡ Err r → exchanged_list σ T ns k new count lent ≡ lent
  unfolding exchanged_list
  refused_list r e = ap (λ q. written_by q (records_for σ T (changed ns k new)) lent) e
