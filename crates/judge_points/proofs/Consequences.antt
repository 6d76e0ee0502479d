-- What the list of answers says of one point: its three numbers are those of what judging says of it.
use mathlib.Core.Path.{◌≡◌, sym, ◌∙◌, subst}
use mathlib.Core.Logic.{⊎_elim}
use mathlib.Core.List.{List, ◌++◌}
use mathlib.Core.Option.{none}
use Prim.Native.Nat.{ℕ, zero, suc, ◌+◌, ◌*◌, ◌/◌, ◌<◌}
use native.Mathlib.Nat.{eq-or-lt_of_le, le_of_suc-le-suc}
use native.Mathlib.Omega.{arith}
use lib.ListN.{length, drop, get_or-append}
use lib.Seq.{get_or-append-add}
use lib.IntN.{ℤ, pos}
use Rattle.integers.specs.Entry.{entry}
use Rattle.setting.specs.Setting.{Setting}
use Rattle.judge.specs.Judgements.{judgement}
use Rattle.judge_points.specs.Points.{judgement_numbers, point_numbers, numbers_to, points_fault, judged_into}
use Rattle.judge_points.proofs.PointNumbers.{numbers_length}

module _ (σ : Setting) (ns ps : List ℤ) where
  number_at : (n i k : ℕ) → i < n → k < 3 → entry (numbers_to σ ns ps n) (3 * i + k) ≡ entry (point_numbers σ ns ps i) k
  unfolding numbers_to
  number_at zero i k h l = absurd (omega arith)
  number_at (suc n) i k h l = ⊎_elim last (λ m. earlier m ∙ number_at n i k m l) (eq-or-lt_of_le {n = i} {m = n} (le_of_suc-le-suc h))
    where
      earlier : i < n → entry (numbers_to σ ns ps n ++ point_numbers σ ns ps n) (3 * i + k) ≡ entry (numbers_to σ ns ps n) (3 * i + k)
      earlier m = get_or-append (numbers_to σ ns ps n) (point_numbers σ ns ps n) (pos 0) (3 * i + k) (omega (arith, numbers_length σ ns ps n))

      last : i ≡ n → entry (numbers_to σ ns ps n ++ point_numbers σ ns ps n) (3 * i + k) ≡ entry (point_numbers σ ns ps i) k
      last e =
          subst (λ j. entry (numbers_to σ ns ps n ++ point_numbers σ ns ps n) (3 * j + k) ≡ entry (point_numbers σ ns ps j) k) (sym e)
          (subst (λ j. entry (numbers_to σ ns ps n ++ point_numbers σ ns ps n) (j + k) ≡ entry (point_numbers σ ns ps n) k) (numbers_length σ ns ps n)
          (get_or-append-add (numbers_to σ ns ps n) (point_numbers σ ns ps n) k (pos 0)))

  pub answer_of_point : (old : List ℤ) → points_fault σ ns ps (length old) ≡ none → (i k : ℕ) → i < length ps / 2 → k < 3
      → entry (judged_into σ ns ps old) (3 * i + k) ≡ entry (judgement_numbers (judgement σ ns (entry ps (2 * i)) (entry ps (2 * i + 1)))) k
  unfolding judged_into
  answer_of_point old e i k h l =
      let n = length ps / 2 in
      rw (judged_into, e)
      (get_or-append (numbers_to σ ns ps n) (drop (3 * n) old) (pos 0) (3 * i + k) (omega (arith, numbers_length σ ns ps n))
      ∙ number_at n i k h l)
