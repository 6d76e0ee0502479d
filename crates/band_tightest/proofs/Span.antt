-- The tolerances of the span: one that is not too tight is followed by none that is. So a span whose last is too tight has none that fits, and where
-- all up to `low` are too tight and the next is not, that is the least.
use mathlib.Core.Path.{◌≡◌, refl, sym, ◌∙◌, ap}
use mathlib.Core.Bool.{Bool, true, false, not}
use mathlib.Core.Logic.{⊎_elim}
use mathlib.Core.List.{List}
use mathlib.Core.Option.{Option, none, some}
use Prim.Native.Nat.{ℕ, ◌+◌, ◌*◌, ◌≤◌, ◌<◌}
use native.Mathlib.Omega.{arith}
use borrow.Author.Tests.{le-ltb, ltb-false}
use lib.Dec.{eqb, ltb}
use lib.ListN.{length}
use lib.IntN.{pos}
use Rattle.std.specs.Prelude.{Some, None, Result, Ok, Err}
use Rattle.setting.specs.Setting.{Setting, relimited, record_length}
use Rattle.integers.proofs.First.{bad_none, bad_at}
use Rattle.integers.proofs.Clash.{clash}
use Rattle.integers.proofs.Order.{natural, pos_le}
use Rattle.refusals.specs.declared.Refusal.{Refusal}
use Rattle.refusals.specs.declared.Refusal.TheVariants.{TooManyLeaves, TooFewRecords}
use Rattle.refusals.specs.Refusals.{number_of}
use Rattle.curve_nodes.specs.declared.Curve.{Curve}
use Rattle.walk_tree.proofs.Tree.{either, not_both}
use Rattle.band_passes.specs.Leaves.{first_too_wide, leaves_of, nodes_of}
use Rattle.band_passes.specs.FirstWide.{AllMeet}
use Rattle.band_passes.proofs.Wide.{none_wide, only_wide}
use Rattle.band_banded.specs.declared.banding.Banded.{Banded}
use Rattle.band_banded.specs.Banding.{done, answer_for, band_curves}
use Rattle.band_banded.proofs.ByPieces.{wide_same, leaves_same, nodes_same}
use Rattle.band_tightest.specs.Tightest.{too_tight, tightest_of}
use Rattle.band_tightest.proofs.Looser.{leaves_fewer, meet_kept}

-- ---- the answer for what the search of the span finds
abbrev pub said : Option ℕ → Result (Rattle.std.specs.Prelude.Option ℕ) Refusal
said o = elim o [ some T ↦ Ok (Some T) | none ↦ Ok None ]

-- ---- what banding says that takes at most R leaves, whatever is lent
module _ (σ : Setting) (cs : List Curve) (R T n room : ℕ) where
  abbrev own : Setting
  own = relimited σ n R

  own_answer : band_curves own (pos T) cs room
      ≡ answer_for own room (first_too_wide σ (pos T) 0 cs) (length cs) (leaves_of σ (pos T) cs) (nodes_of σ (pos T) cs)
  unfolding band_curves
  own_answer = rw (wide_same σ n R (pos T) 0 cs, leaves_same σ n R (pos T) cs, nodes_same σ n R (pos T) cs)

  by_number : (o : Option Refusal) (count l k : ℕ) → ((q : Refusal) → o ≡ some q → number_of q ≡ 7) → (r : Refusal)
      → Err r ≡ answer_for own room o count l k → not (eqb (number_of r) 8) ≡ elim o [ some q ↦ true | none ↦ ltb R l ]
  by_number (some q) count l k wide r e = let s : r ≡ q = cc in rw (s, wide q refl)
  by_number none count l k wide r e = go (ltb R l) (ltb room (record_length own * l)) e
    where
      go : (many short : Bool) → ◌≡◌ {A = Result Banded Refusal} (Err r) (elim many [
        | true ↦ Err (TooManyLeaves l)
        | false ↦ elim short [ true ↦ Err (TooFewRecords l) | false ↦ done count l k ]
      ]) → not (eqb (number_of r) 8) ≡ many
      go true short e = let q : r ≡ TooManyLeaves l = cc in rw q
      go false true e = let q : r ≡ TooFewRecords l = cc in rw q
      go false false e = clash (cc)

  by_report : (o : Option Refusal) (count l k a b c : ℕ) → done a b c ≡ answer_for own room o count l k
      → false ≡ elim o [ some q ↦ true | none ↦ ltb R l ]
  by_report (some q) count l k a b c e = clash (cc)
  by_report none count l k a b c e = go (ltb R l) e
    where
      go : (many : Bool) → done a b c ≡ elim many [
        | true ↦ Err (TooManyLeaves l)
        | false ↦ elim (ltb room (record_length own * l)) [ true ↦ Err (TooFewRecords l) | false ↦ done count l k ]
      ] → false ≡ many
      go true e = clash (cc)
      go false e = refl

  by_kind : (o : Option Refusal) (count l k : ℕ) (r : Refusal) → ((q : ℕ) → r ≡ TooFewRecords q → ⊥)
      → Err r ≡ answer_for own room o count l k → true ≡ elim o [ some q ↦ true | none ↦ ltb R l ]
  by_kind (some q) count l k r other e = refl
  by_kind none count l k r other e = go (ltb R l) (ltb room (record_length own * l)) e
    where
      go : (many short : Bool) → ◌≡◌ {A = Result Banded Refusal} (Err r) (elim many [
        | true ↦ Err (TooManyLeaves l)
        | false ↦ elim short [ true ↦ Err (TooFewRecords l) | false ↦ done count l k ]
      ]) → true ≡ many
      go true short e = refl
      go false true e = absurd (other l (cc))
      go false false e = clash (cc)

  -- a tolerance is too tight where banding refuses with another number than 8
  pub tight_refused : (r : Refusal) → Err r ≡ band_curves own (pos T) cs room → not (eqb (number_of r) 8) ≡ too_tight σ cs R T
  unfolding too_tight
  tight_refused r e =
      by_number (first_too_wide σ (pos T) 0 cs) (length cs) (leaves_of σ (pos T) cs) (nodes_of σ (pos T) cs)
      (λ q h. ap number_of (only_wide σ (pos T) 0 cs q h).2) r (e ∙ own_answer)

  -- so it is not where there are too few records, and is where the refusal is another
  pub tight_few : (l : ℕ) → Err (TooFewRecords l) ≡ band_curves own (pos T) cs room → false ≡ too_tight σ cs R T
  tight_few l e = tight_refused (TooFewRecords l) e

  pub tight_other : (r : Refusal) → ((l : ℕ) → r ≡ TooFewRecords l → ⊥) → Err r ≡ band_curves own (pos T) cs room → true ≡ too_tight σ cs R T
  unfolding too_tight
  tight_other r other e =
      by_kind (first_too_wide σ (pos T) 0 cs) (length cs) (leaves_of σ (pos T) cs) (nodes_of σ (pos T) cs) r other (e ∙ own_answer)

  -- and not where it accepts
  pub tight_done : (a b c : ℕ) → done a b c ≡ band_curves own (pos T) cs room → false ≡ too_tight σ cs R T
  unfolding too_tight
  tight_done a b c e =
      by_report (first_too_wide σ (pos T) 0 cs) (length cs) (leaves_of σ (pos T) cs) (nodes_of σ (pos T) cs) a b c (e ∙ own_answer)

-- ---- in words: not too tight where nothing is too wide and there are at most R leaves
module _ (σ : Setting) (cs : List Curve) (R T : ℕ) where
  pub loose : AllMeet σ (pos T) cs → leaves_of σ (pos T) cs ≤ R → too_tight σ cs R T ≡ false
  unfolding too_tight
  loose meet few = rw ((none_wide σ (pos T) 0 cs).1 meet, too_tight) (le-ltb R (leaves_of σ (pos T) cs) few)

  not_tight : (o : Option Refusal) (l : ℕ) → elim o [ some q ↦ true | none ↦ ltb R l ] ≡ false → (o ≡ none) × (l ≤ R)
  not_tight none l e = (refl, ltb-false R l e)
  not_tight (some q) l e = clash (cc)

  pub loose_meets : too_tight σ cs R T ≡ false → AllMeet σ (pos T) cs
  unfolding too_tight
  loose_meets e = (none_wide σ (pos T) 0 cs).0 (not_tight (first_too_wide σ (pos T) 0 cs) (leaves_of σ (pos T) cs) e).0

  pub loose_few : too_tight σ cs R T ≡ false → leaves_of σ (pos T) cs ≤ R
  unfolding too_tight
  loose_few e = (not_tight (first_too_wide σ (pos T) 0 cs) (leaves_of σ (pos T) cs) e).1

module _ (σ : Setting) (cs : List Curve) (R : ℕ) where
  -- what fits at T fits at every larger one
  pub looser : {T U : ℕ} → T ≤ U → too_tight σ cs R T ≡ false → too_tight σ cs R U ≡ false
  looser {T} {U} h e = loose σ cs R U (meet_kept σ (natural T) (pos_le h) (loose_meets σ cs R T e))
      (omega (arith, leaves_fewer σ (natural T) (pos_le h) cs, loose_few σ cs R T e))

  pub tighter : {T U : ℕ} → T ≤ U → too_tight σ cs R U ≡ true → too_tight σ cs R T ≡ true
  tighter {T} h e = ⊎_elim (λ t. t) (λ f. absurd (not_both e (looser h f))) (either (too_tight σ cs R T))

  -- ---- the span
  pub nothing_fits : too_tight σ cs R 1048576 ≡ true → Ok None ≡ tightest_of σ cs R
  unfolding tightest_of
  nothing_fits e = sym (ap said (bad_none (too_tight σ cs R) 1048575 2 (λ k h. tighter (omega arith) e)))

  -- low and all below it are too tight, and high is not
  pub record Around (low high : ℕ) : Type 0 where
    pub least : 1 ≤ low
    pub order : low < high
    pub most : high ≤ 1048576
    pub tight : (T : ℕ) → 2 ≤ T → T ≤ low → too_tight σ cs R T ≡ true
    pub fits : too_tight σ cs R high ≡ false

  pub around_all : too_tight σ cs R 1048576 ≡ false → Around 1 1048576
  around_all e = record { least = omega arith; order = omega arith; most = omega arith; tight = λ T a b. absurd (omega arith); fits = e }

  pub around_upper : {low high : ℕ} → Around low high → (T : ℕ) → low < T → T < high → too_tight σ cs R T ≡ true → Around T high
  around_upper a T l h e = record { least = omega arith; order = h; most = a.most; tight = λ S two s. tighter s e; fits = a.fits }

  pub around_lower : {low high : ℕ} → Around low high → (T : ℕ) → low < T → T < high → too_tight σ cs R T ≡ false → Around low T
  around_lower a T l h e = record { least = a.least; order = l; most = omega (arith, a.most); tight = a.tight; fits = e }

  pub least_found : {low high : ℕ} → Around low high → high ≤ low + 1 → Ok (Some high) ≡ tightest_of σ cs R
  unfolding tightest_of
  least_found {low} {high} a h =
      sym (ap said (bad_at (too_tight σ cs R) 1048575 2 high (omega arith) (omega arith) a.fits (λ k two l. a.tight k two (omega arith))))
