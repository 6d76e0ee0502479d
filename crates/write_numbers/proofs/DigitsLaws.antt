-- What each way through the function that puts digits leaves: no place, a digit alone, the digits before the last and the last.
use mathlib.Core.Path.{◌≡◌, sym, ap, ◌∙◌, subst}
use mathlib.Core.Bool.{Bool, true, false, cond}
use mathlib.Core.List.{List, [], ◌∷◌, ◌++◌}
use Prim.Native.Nat.{ℕ, zero, suc, ◌+◌, ◌-◌, ◌*◌, ◌/◌, ◌%◌, ◌^◌, ◌≤◌, ◌<◌}
use native.Mathlib.Nat.{pow-suc}
use native.Mathlib.Omega.{arith}
use borrow.Author.Tests.{lt-ltb, le-ltb}
use lib.Dec.{ltb}
use lib.ListN.{length, length-append}
use Rattle.write_numbers.specs.Appends.{Appended, PutWithin}
use Rattle.write_numbers.proofs.Appends.{append_none, append_both, within}
use Rattle.write_numbers.specs.Digits.{digits}

module _ (d : List ℕ) (i n places : ℕ) where
  pub digits_none : places ≡ 0 → PutWithin d i places (digits places n) d i
  unfolding digits
  digits_none e = rw e (within (append_none d i) (omega arith))

  module _ (h : places ≡ 0 → ⊥) where
    one_more : digits places n ≡ digits (suc (places - 1)) n
    one_more = ap (λ (k : ℕ). digits k n) (omega arith)

    pub digits_one : (o : List ℕ) (j : ℕ) → n < 10 → Appended d i ((48 + n) ∷ []) o j → PutWithin d i places (digits places n) o j
    unfolding digits
    digits_one o j l a = within (subst (λ (xs : List ℕ). Appended d i xs o j) (sym (one_more ∙ simp (lt-ltb _ _ l))) a) (omega (arith, a.next))

    pub digits_more : (o : List ℕ) (j : ℕ) → 10 ≤ n → PutWithin d i (places - 1) (digits (places - 1) (n / 10)) o j → (u : List ℕ) (k : ℕ)
        → Appended o j ((48 + n % 10) ∷ []) u k → PutWithin d i places (digits places n) u k
    unfolding digits
    digits_more o j l a u k b =
        within
        (subst (λ (xs : List ℕ). Appended d i xs u k) (sym (one_more ∙ simp (le-ltb _ _ l)))
        (append_both d o u (digits (places - 1) (n / 10)) ((48 + n % 10) ∷ []) i j k a.put b))
        (omega (arith, a.small, b.next))

-- a number below 10^(k + 1) has at most k + 1 digits
pub digits_few : (k places n : ℕ) → n < 10 ^ suc k → length (digits places n) ≤ suc k
unfolding digits
digits_few k zero n h = omega arith
digits_few zero (suc places) n h = let l : n < 10 = omega arith in simp (lt-ltb _ _ l) (omega arith)
digits_few (suc k) (suc places) n h = go (ltb n 10) (digits_few k places (n / 10) (below (10 ^ suc k) (rw pow-suc at h)))
  where
    below : (m : ℕ) → n < m * 10 → n / 10 < m
    below m l = omega arith

    go : (b : Bool) → length (digits places (n / 10)) ≤ suc k
        → length (cond b ((48 + n) ∷ []) (digits places (n / 10) ++ ((48 + n % 10) ∷ []))) ≤ suc (suc k)
    go true l = omega arith
    go false l = omega (arith, length-append (digits places (n / 10)) ((48 + n % 10) ∷ []))
