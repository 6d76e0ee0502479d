-- The numbers of the points, one after the other: each three are those of what judging says.
use mathlib.Core.Path.{◌≡◌, refl, sym, ◌∙◌, ap, ap₂}
use mathlib.Core.List.{List, ◌++◌}
use mathlib.Core.Option.{none, some}
use Prim.Native.Nat.{ℕ, zero, suc, ◌+◌, ◌*◌, ◌≤◌, ◌<◌}
use native.Mathlib.Nat.{zero-add, mul-le-mul_right}
use native.Mathlib.Numerals.{add-one}
use native.Mathlib.Omega.{arith}
use lib.ListN.{length, drop, length-append}
use lib.Seq.{sets, length-sets, sets-eq}
use lib.IntN.{ℤ}
use Rattle.integers.proofs.Stores.{sets_append}
use Rattle.setting.specs.Setting.{Setting, record_length}
use Rattle.refusals.specs.declared.Refusal.{Refusal}
use Rattle.std.specs.Prelude.{Some, None, Ok, Err}
use Rattle.judge.specs.Judging.{Judgement, judging_fault, FirstHolder, Verdict, Judged}
use Rattle.judge.specs.Judgements.{judgement}
use Rattle.judge.proofs.Answers.{judged_refused, judged_found}
use Rattle.judge.proofs.Judgements.{judged_is}
use Rattle.judge_points.specs.Points.{judgement_numbers, point_judgement, point_numbers, numbers_to}

-- ---- an answer that judging may give has the numbers of the one answer
pub numbers_judged : (σ : Setting) (ns : List ℤ) (x y : ℤ) (a : Judgement) → Judged σ ns x y a → judgement_numbers a ≡ judgement_numbers (judgement σ ns x y)
numbers_judged σ ns x y a j = ap judgement_numbers (judged_is σ ns x y a j)

module _ (σ : Setting) (ns : List ℤ) (x y : ℤ) where
  pub numbers_refused : (r : Refusal) → judging_fault σ ns x y ≡ some r → judgement_numbers (Err r) ≡ judgement_numbers (judgement σ ns x y)
  numbers_refused r e = numbers_judged σ ns x y (Err r) (judged_refused σ ns x y r e)

  pub numbers_found : (a : Judgement) → judging_fault σ ns x y ≡ none → Verdict σ none ns x y a
      → judgement_numbers a ≡ judgement_numbers (judgement σ ns x y)
  numbers_found a e v = numbers_judged σ ns x y a (judged_found σ ns x y a e v)

-- a record's number is below the length of its list
pub leaf_below : {σ : Setting} {ns : List ℤ} {x y : ℤ} {k i : ℕ} → FirstHolder σ ns x y k i → k < length ns
leaf_below {σ} {k} f = let h = f.inside in omega (arith, mul-le-mul_right {m = 1} {n = record_length σ} k (omega arith))

three_numbers_law : (a : Judgement) → length (judgement_numbers a) ≡ 3
three_numbers_law (Ok (Some h)) = refl
three_numbers_law (Ok None) = refl
three_numbers_law (Err r) = refl

-- ---- the numbers of the first n points
module _ (σ : Setting) (ns ps : List ℤ) where
  pub numbers_length : (n : ℕ) → length (numbers_to σ ns ps n) ≡ 3 * n
  unfolding numbers_to
  numbers_length zero = refl
  numbers_length (suc n) = omega (arith, length-append (numbers_to σ ns ps n) (point_numbers σ ns ps n), numbers_length n, three_numbers_law (point_judgement σ ns ps n))

  next : (n : ℕ) → numbers_to σ ns ps (n + 1) ≡ numbers_to σ ns ps n ++ point_numbers σ ns ps n
  unfolding numbers_to
  next n = ap (numbers_to σ ns ps) (add-one n)

  module _ (old : List ℤ) where
    pub written_none : old ≡ sets old 0 (numbers_to σ ns ps 0)
    unfolding numbers_to
    written_none = refl

    pub written_more : {l l' : List ℤ} (i : ℕ) (vs : List ℤ) → l ≡ sets old 0 (numbers_to σ ns ps i) → l' ≡ sets l (3 * i) vs
        → vs ≡ point_numbers σ ns ps i → l' ≡ sets old 0 (numbers_to σ ns ps (i + 1))
    written_more {l} i vs e f g =
        f ∙ ap₂ (λ k v. sets k (3 * i) v) e g
        ∙ ap (λ n. sets (sets old 0 (numbers_to σ ns ps i)) n (point_numbers σ ns ps i))
        (sym (zero-add (length (numbers_to σ ns ps i)) ∙ numbers_length i))
        ∙ sym (sets_append old 0 (numbers_to σ ns ps i) (point_numbers σ ns ps i))
        ∙ ap (sets old 0) (sym (next i))

    pub written_length : {l : List ℤ} (n : ℕ) → l ≡ sets old 0 (numbers_to σ ns ps n) → length l ≡ length old
    written_length n e = ap length e ∙ length-sets old 0 (numbers_to σ ns ps n)

    -- the numbers written stand in front of what stood behind them
    pub in_front : (n : ℕ) → 3 * n ≤ length old → sets old 0 (numbers_to σ ns ps n) ≡ numbers_to σ ns ps n ++ drop (3 * n) old
    in_front n h =
        let m = numbers_length n in
        sets-eq (numbers_to σ ns ps n) old 0 (omega arith)
        ∙ ap (λ k. numbers_to σ ns ps n ++ drop k old) (zero-add (length (numbers_to σ ns ps n)) ∙ m)
