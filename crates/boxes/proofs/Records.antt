-- Records of any length L, one after the other: where one begins, at which place of its record an index stands, and in which record.
use mathlib.Core.Path.{◌≡◌, ◌∙◌, ap}
use mathlib.Core.Logic.{⊎_elim}
use Prim.Native.Nat.{ℕ, zero, suc, ◌+◌, ◌*◌, ◌/◌, ◌%◌, ◌≤◌, ◌<◌}
use native.Mathlib.Nat.{
  add-zero,
  zero-mul,
  mul_comm,
  add-mod_right,
  mul-add-mod_self_left,
  mul-add-div,
  mod-eq_of_lt,
  div-eq_of_lt,
  div-add-mod,
  mod-lt,
  div-lt_iff_lt-mul,
  mul-le-mul_left,
  mul-lt-mul_of_pos_left,
  lt_of_mul-lt-mul_left,
}
use native.Mathlib.Omega.{arith}
use Rattle.integers.proofs.Order.{lt_or_ge}

module _ (L : ℕ) where
  -- ---- n numbers are whole records
  pub whole_is : (n : ℕ) → n % L ≡ 0 → n ≡ L * (n / L)
  whole_is n e = omega (arith, div-add-mod n L)

  -- where whole records are left, there is one more
  pub record_left : {at n : ℕ} → at % L ≡ 0 → n % L ≡ 0 → at < n → at + L ≤ n
  record_left {at} {n} e f h =
      let a = whole_is at e in
      let b = whole_is n f in
      let l = lt_of_mul-lt-mul_left L {m = at / L} {n = n / L} (omega arith) in
      omega (arith, mul-le-mul_left {m = suc (at / L)} {n = n / L} L l)

  pub record_next : (at : ℕ) → at % L ≡ 0 → (at + L) % L ≡ 0
  record_next at e = add-mod_right at L ∙ e

  -- no record begins between a whole one and the next
  pub one_record : {at : ℕ} (k : ℕ) → at % L ≡ 0 → at ≤ L * k → L * k < at + L → L * k ≡ at
  one_record {at} k e h l =
      let a = whole_is at e in
      ⊎_elim
      (λ q. absurd (omega (arith, mul-le-mul_left {m = suc (at / L)} {n = k} L q)))
      (λ q. omega (arith, mul-le-mul_left {m = k} {n = at / L} L q))
      (lt_or_ge (at / L) k)

  -- record k begins among n numbers exactly where it is one of their records
  pub begins_among : (k n : ℕ) → 0 < L → n % L ≡ 0 → k < n / L → L * k < n
  begins_among k n some e h = omega (arith, whole_is n e, mul-lt-mul_of_pos_left {m = k} {n = n / L} h some)

  pub among_begins : (k n : ℕ) → n % L ≡ 0 → L * k < n → k < n / L
  among_begins k n e h = let a = whole_is n e in lt_of_mul-lt-mul_left L {m = k} {n = n / L} (omega arith)

  -- ---- place i of a record
  module _ {i : ℕ} (h : i < L) where
    pub place_is : (k : ℕ) → (L * k + i) % L ≡ i
    place_is k = mul-add-mod_self_left L k i ∙ mod-eq_of_lt h

    pub place_in : (at : ℕ) → at % L ≡ 0 → (at + i) % L ≡ i
    place_in at e = ap (λ n. (n + i) % L) (whole_is at e) ∙ place_is (at / L)

    pub record_is : (k : ℕ) → (L * k + i) / L ≡ k
    record_is k = mul-add-div {m = L} (omega arith) k i ∙ ap (λ n. k + n) (div-eq_of_lt h) ∙ add-zero k

    -- and every later record comes after it
    pub comes_before : {k m : ℕ} → k < m → L * k + i < L * m
    comes_before {k} {m} l = omega (arith, mul-le-mul_left {m = suc k} {n = m} L l)

-- ---- an index j among m records
module _ (L m : ℕ) {j : ℕ} (h : j < L * m) where
  pub some_place : 0 < L
  some_place = go L h
    where
      go : (l : ℕ) → j < l * m → 0 < l
      go zero n = absurd (omega (arith, zero-mul m))
      go (suc l) n = omega arith

  pub place_below : j % L < L
  place_below = mod-lt j some_place

  pub record_below : j / L < m
  record_below = (div-lt_iff_lt-mul {k = L} {x = j} {y = m} some_place).1 (omega (arith, mul_comm L m))
