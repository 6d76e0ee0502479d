-- Runs of digits: what each turn of the loop reads, and that a value above 2^32 stays above.
use mathlib.Core.Path.{◌≡◌, refl}
use mathlib.Core.Bool.{Bool, true, false, cond}
use mathlib.Core.List.{List, [], ◌∷◌}
use Prim.Native.Nat.{ℕ, suc, ◌+◌, ◌-◌, ◌*◌, ◌≤◌, ◌<◌}
use native.Mathlib.Omega.{arith}
use borrow.Author.Tests.{ltb-true, ltb-false}
use lib.Dec.{ltb}
use lib.ListN.{length, drop, drop_of_length-le}
use Rattle.text_numbers.specs.Numerals.{byte, is_digit, value_from, digit_count}
use Rattle.text_numbers.specs.Inside.{StandsFor, DigitRun}
use Rattle.text_numbers.proofs.Places.{byte_first}

-- ---- reading on does not make a value smaller
pub value_grows : (v : ℕ) (bs : List ℕ) → v ≤ value_from v bs
unfolding value_from
value_grows v [] = omega arith
value_grows v (b ∷ bs) = either (is_digit b) (value_from (10 * v + (b - 48)) bs) (value_grows (10 * v + (b - 48)) bs)
  where
    either : (t : Bool) (w : ℕ) → 10 * v + (b - 48) ≤ w → v ≤ cond t w v
    either true w h = omega arith
    either false w h = omega arith

-- ---- the loop: what is left to read from place i on, after digits of value v, gives what there is from place `at` on
pub record Reading (s : List ℕ) (at v i : ℕ) : Type 0 where
  pub value : StandsFor (value_from v (drop i s)) (value_from 0 (drop at s))
  pub next : i + digit_count (drop i s) ≡ at + digit_count (drop at s)

pub reading_start : (s : List ℕ) (at : ℕ) → Reading s at 0 at
reading_start s at = record { value = record { low = λ _. refl; high = λ h. h }; next = refl }

module _ {s : List ℕ} {at v i : ℕ} (r : Reading s at v i) where
  ended : (bs : List ℕ) → drop i s ≡ bs → value_from v bs ≡ v → digit_count bs ≡ 0 → DigitRun (drop at s) at v i
  ended bs e p q = record {
    value = rw (e, p) at r.value;
    after = let c = rw (e, q) at r.next in omega arith;
  }

  -- the text is over
  pub reading_over : length s ≤ i → DigitRun (drop at s) at v i
  unfolding value_from digit_count
  reading_over h = ended [] (drop_of_length-le s h) refl refl

  module _ (h : i < length s) where
    -- another byte stands at place i
    pub reading_stopped : is_digit (byte s i) ≡ false → DigitRun (drop at s) at v i
    unfolding value_from digit_count
    reading_stopped e = ended (byte s i ∷ drop (i + 1) s) (byte_first s i h) (rw (value_from, e)) (rw (digit_count, e))

    module _ (e : is_digit (byte s i) ≡ true) where
      one_more : digit_count (drop i s) ≡ suc (digit_count (drop (i + 1) s))
      unfolding digit_count
      one_more = rw (byte_first s i h, digit_count, e)

      read_on : value_from v (drop i s) ≡ value_from (10 * v + (byte s i - 48)) (drop (i + 1) s)
      unfolding value_from
      read_on = rw (byte_first s i h, value_from, e)

      place_on : i + 1 + digit_count (drop (i + 1) s) ≡ at + digit_count (drop at s)
      place_on = omega (arith, r.next, one_more)

      -- a digit is read
      pub reading_more : (w : ℕ) → w ≡ 10 * v + (byte s i - 48) → Reading s at w (i + 1)
      reading_more w f = record { value = rw f (rw read_on at r.value); next = place_on }

      -- the value is above 2^32 and is left so
      pub reading_above : (w : ℕ) → w ≡ v → 4294967296 ≤ v → Reading s at w (i + 1)
      reading_above w f k = rw f (record {
        value = record {
          low = λ l. absurd (omega (arith, value_grows v (drop (i + 1) s)));
          high = λ _. r.value.high (omega (arith, value_grows v (drop i s)));
        };
        next = place_on;
      })

-- ---- tests of a value that stands for another
module _ {v n : ℕ} (r : StandsFor v n) where
  pub stands_small : v ≤ 2147483648 → v ≡ n
  stands_small h = r.low (omega arith)

  pub stands_large : 2147483648 < v → 2147483648 < n
  stands_large h = either (ltb v 4294967296) refl
    where
      either : (b : Bool) → ltb v 4294967296 ≡ b → 2147483648 < n
      either true e = let k = r.low (ltb-true _ _ e) in omega arith
      either false e = let k = r.high (ltb-false _ _ e) in omega arith
