-- A test of the numbers of a side, one by one, and a number of a list read as one of 64 bits.
use mathlib.Core.Path.{◌≡◌, refl, sym, ◌∙◌, ap}
use mathlib.Core.Logic.{⊎_elim}
use mathlib.Core.Bool.{Bool, true, false, not, ◌&&◌}
use mathlib.Core.List.{List}
use Prim.Native.Nat.{ℕ, zero, suc, ◌+◌, ◌*◌, ◌^◌, ◌≤◌, ◌<◌}
use native.Mathlib.Nat.{eq-or-lt_of_le, le_of_suc-le-suc}
use native.Mathlib.Omega.{arith}
use lib.IntN.{ℤ}
use lib.Signed.{mag, le_z, lt_z}
use mir.Syntax.{w32, w64}
use mir.Val.{SFits}
use mir.Facts.{to_z-of_z, sfits_widen}
use Rattle.integers.specs.Entry.{entry}
use Rattle.integers.proofs.Ranges.{stored, yes_lt, no_lt, le_yes, le_no}
use Rattle.integers.proofs.Between.{element_fits}
use Rattle.integers.proofs.Both.{and_false, both_true}
use Rattle.judge.specs.Inside.{all_pass}

-- ---- a test of n numbers, one by one
module _ (test : ℤ → Bool) (ns : List ℤ) (at : ℕ) where
  -- the first i of n numbers pass
  pub record Passing (n i : ℕ) : Type 0 where
    pub few : i ≤ n
    pub each : all_pass test ns at i ≡ true

  pub pass_none : (n : ℕ) → Passing n 0
  pass_none n = record { few = omega arith; each = refl }

  module _ {n i : ℕ} (p : Passing n i) where
    pub pass_more : i < n → test (entry ns (at + 4 * i)) ≡ true → Passing n (i + 1)
    pass_more h f = let m : i + 1 ≡ suc i = omega arith in record { few = omega arith; each = rw (m, p.each, f) }

    pass_done : n ≤ i → true ≡ all_pass test ns at n
    pass_done h =
        let f = p.few in
        let m : i ≡ n = omega arith in
        sym (rw m at p.each)

  pub pass_fails : (n i : ℕ) → i < n → test (entry ns (at + 4 * i)) ≡ false → false ≡ all_pass test ns at n
  pass_fails zero i h f = absurd (omega arith)
  pass_fails (suc n) i h f = ⊎_elim
      (λ e. sym (rw (← e, f) (and_false (all_pass test ns at i))))
      (λ l. ap (λ b. b && test (entry ns (at + 4 * n))) (pass_fails n i l f))
      (eq-or-lt_of_le (le_of_suc-le-suc h))

  pub pass_each : (n : ℕ) → all_pass test ns at n ≡ true → (i : ℕ) → i < n → test (entry ns (at + 4 * i)) ≡ true
  pass_each zero e i h = absurd (omega arith)
  pass_each (suc n) e i h =
      let s = both_true (all_pass test ns at n) (test (entry ns (at + 4 * n))) e in
      ⊎_elim (λ f. rw f s.1) (pass_each n s.0 i) (eq-or-lt_of_le (le_of_suc-le-suc h))

-- ---- a comparison turned round
pub turned : (a b : ℤ) (t : Bool) → le_z a b ≡ t → lt_z b a ≡ not t
turned a b true e = no_lt {a = b} {b = a} (le_yes {a = a} {b = b} e)
turned a b false e = yes_lt {a = b} {b = a} (le_no {a = a} {b = b} e)

-- ---- a number of 32 bits, read as one of 64
pub wide_fits : {z : ℤ} → SFits w32 z → SFits w64 (stored w32 z)
wide_fits fits = rw (to_z-of_z fits) (sfits_widen tt fits)

pub widened : {z : ℤ} → SFits w32 z → stored w64 (stored w32 z) ≡ z
widened fits = ap (stored w64) (to_z-of_z fits) ∙ to_z-of_z (sfits_widen {w' = w64} tt fits)

-- ---- a loop that tests m + 1 numbers against z, which the code holds as it is kept: the comparison says where the test fails
module _ (test compared : ℤ → ℤ → Bool) (z : ℤ) (ns : List ℤ) (at n i : ℕ) where
  abbrev read : ℤ
  read = stored w32 (entry ns (at + 4 * i))

  pub record Reading : Type 0 where
    pub fails : compared (stored w32 z) read ≡ true → false ≡ all_pass (test z) ns at n
    pub passes : compared (stored w32 z) read ≡ false → Passing (test (stored w32 z)) ns at n (i + 1)

module _ (test : ℤ → ℤ → Bool) {z : ℤ} (kept : SFits w32 z) {ns : List ℤ} {at : ℕ} where
  pub reading : (compared : ℤ → ℤ → Bool) → ((y a : ℤ) (t : Bool) → compared y a ≡ t → test y a ≡ not t) → {m i : ℕ}
      → Passing (test (stored w32 z)) ns at (suc m) i → i ≤ m → mag (entry ns (at + 4 * i)) < 2 ^ 31 → Reading test compared z ns at (suc m) i
  reading compared turn {m} {i} p h b =
      let fits = element_fits ns (at + 4 * i) b in
      let in_turn : i < suc m = omega arith in
      record {
        fails = λ e. pass_fails (test z) ns at (suc m) i in_turn (turn _ _ true (rw (to_z-of_z fits, to_z-of_z kept) at e));
        passes = λ e. pass_more (test (stored w32 z)) ns at p in_turn (turn _ _ false (rw (to_z-of_z fits) at e));
      }

  pub all_read : {n i : ℕ} → Passing (test (stored w32 z)) ns at n i → n ≤ i → true ≡ all_pass (test z) ns at n
  all_read p h = rw (to_z-of_z kept) at (pass_done (test (stored w32 z)) ns at p h)
