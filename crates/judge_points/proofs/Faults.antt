-- What judging a list of points answers, check by check.
use mathlib.Core.Path.{◌≡◌, refl, ◌∙◌}
use mathlib.Core.List.{List}
use mathlib.Core.Option.{Option, none, some}
use Prim.Native.Nat.{ℕ, ◌*◌, ◌/◌, ◌%◌, ◌≤◌, ◌<◌}
use native.Mathlib.Omega.{arith}
use borrow.Author.Tests.{eq-eqb, ne_eqb, lt-ltb, le-ltb}
use lib.ListN.{length}
use lib.Seq.{sets}
use lib.IntN.{ℤ}
use Rattle.integers.proofs.Clash.{clash}
use Rattle.setting.specs.Setting.{Setting}
use Rattle.refusals.specs.declared.Refusal.{Refusal}
use Rattle.refusals.specs.declared.Refusal.TheVariants.{TooFewRecords, OddPoints}
use Rattle.judge.specs.Judging.{list_fault}
use Rattle.std.specs.Prelude.{Result, Ok, Err}
use Rattle.judge_points.specs.Points.{numbers_to, points_fault, points_judged, judged_into}
use Rattle.judge_points.proofs.PointNumbers.{in_front}

module _ (σ : Setting) (ns ps : List ℤ) (room : ℕ) where
  -- ---- 18, 9 and 10
  pub list_bad : {r : Refusal} → list_fault σ ns ≡ some r → points_fault σ ns ps room ≡ some r
  unfolding points_fault
  list_bad e = rw (points_fault, e)

  module _ (fine : list_fault σ ns ≡ none) where
    -- ---- 101
    pub odd_bad : (length ps % 2 ≡ 0 → ⊥) → points_fault σ ns ps room ≡ some (OddPoints (length ps))
    unfolding points_fault
    odd_bad n = rw (points_fault, fine, ne_eqb (length ps % 2) 0 n)

    module _ (even : length ps % 2 ≡ 0) where
      -- ---- 8
      pub room_bad : room / 3 < length ps / 2 → points_fault σ ns ps room ≡ some (TooFewRecords (length ps / 2))
      unfolding points_fault
      room_bad h = rw (points_fault, fine, eq-eqb (length ps % 2) 0 even, lt-ltb room (3 * (length ps / 2)) (omega arith))

      pub none_bad : length ps / 2 ≤ room / 3 → points_fault σ ns ps room ≡ none
      unfolding points_fault
      none_bad h = rw (points_fault, fine, eq-eqb (length ps % 2) 0 even, le-ltb room (3 * (length ps / 2)) (omega arith))

-- ---- what an answer says of the checks
module _ (σ : Setting) (ns ps : List ℤ) (room : ℕ) where
  pub points_fine_law : {n : ℕ} → points_judged σ ns ps room ≡ Ok n → (points_fault σ ns ps room ≡ none) × (n ≡ length ps / 2)
  unfolding points_judged
  points_fine_law {n} = go (points_fault σ ns ps room) refl
    where
      go : (o : Option Refusal) → points_fault σ ns ps room ≡ o
          → ◌≡◌ {A = Result ℕ Refusal} (elim o [ some r ↦ Err r | none ↦ Ok (length ps / 2) ]) (Ok n)
          → (points_fault σ ns ps room ≡ none) × (n ≡ length ps / 2)
      go none e f = (e, cc)
      go (some r) e f = clash (cc)

  pub list_fine : points_fault σ ns ps room ≡ none → list_fault σ ns ≡ none
  list_fine e = go (list_fault σ ns) refl
    where
      go : (o : Option Refusal) → list_fault σ ns ≡ o → list_fault σ ns ≡ none
      go none f = f
      go (some r) f = let g = list_bad σ ns ps room f in clash (cc)

-- ---- the answer and the caller's list, of a fault and of none
module _ (σ : Setting) (ns ps old : List ℤ) where
  pub refused : {r : Refusal} → points_fault σ ns ps (length old) ≡ some r
      → (Err r ≡ points_judged σ ns ps (length old)) × (old ≡ judged_into σ ns ps old)
  unfolding points_judged judged_into
  refused e = (rw (points_judged, e), rw (judged_into, e))

  pub accepted : {l : List ℤ} → points_fault σ ns ps (length old) ≡ none → 3 * (length ps / 2) ≤ length old
      → l ≡ sets old 0 (numbers_to σ ns ps (length ps / 2))
      → (Ok (length ps / 2) ≡ points_judged σ ns ps (length old)) × (l ≡ judged_into σ ns ps old)
  unfolding points_judged judged_into
  accepted e h f = (rw (points_judged, e), rw (judged_into, e) (f ∙ in_front σ ns ps old (length ps / 2) h))
