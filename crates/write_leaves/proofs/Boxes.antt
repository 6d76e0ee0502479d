-- The bytes of a box, put one part after the other, and those of several.
use mathlib.Core.Path.{◌≡◌, refl, sym, ◌∙◌, subst}
use mathlib.Core.List.{List, [], ◌++◌}
use Prim.Native.Nat.{ℕ, ◌+◌, ◌*◌, ◌^◌, ◌≤◌, ◌<◌}
use native.Mathlib.Nat.{mul-add, mul-one}
use native.Mathlib.Numerals.{add-one}
use native.Mathlib.Omega.{arith}
use lib.ListN.{length}
use lib.IntN.{ℤ}
use lib.Signed.{mag}
use mir.Syntax.{w32}
use Rattle.integers.specs.Entry.{entry}
use Rattle.integers.proofs.Ranges.{stored, read_again}
use Rattle.write_numbers.specs.Appends.{Appended, PutWithin}
use Rattle.write_numbers.proofs.Appends.{append_none, within, word_within, within_both}
use Rattle.write_numbers.specs.Decimals.{decimal, spaced}
use Rattle.write_leaves.specs.Boxes.{four_numbers, opening, ending, box_bytes, boxes_bytes}

-- ---- a number as it was read from the list
module _ (d o : List ℕ) (i j : ℕ) (z : ℤ) (h : mag z < 2 ^ 31) where
  pub element_put : PutWithin d i 12 (spaced (stored w32 z)) o j → PutWithin d i 12 (spaced z) o j
  element_put a = rw (read_again w32 z h) at a

-- ---- parts of a box
module _ (d : List ℕ) (i : ℕ) (ns : List ℤ) (k : ℕ) where
  pub four_put : (o u v w : List ℕ) (a b c e : ℕ) → mag (entry ns k) < 2 ^ 31 → PutWithin d i 11 (decimal (stored w32 (entry ns k))) o a
      → PutWithin o a 12 (spaced (entry ns (k + 1))) u b → PutWithin u b 12 (spaced (entry ns (k + 2))) v c
      → PutWithin v c 12 (spaced (entry ns (k + 3))) w e
      → PutWithin d i 47 (four_numbers ns k) w e
  unfolding four_numbers
  four_put o u v w a b c e h p q r s = within_both (within_both (within_both (rw (read_again w32 (entry ns k) h) at p) q) r) s

  pub box_put : (o u v : List ℕ) (a b c : ℕ) → Appended d i opening o a → PutWithin o a 47 (four_numbers ns k) u b → Appended u b ending v c
      → PutWithin d i 50 (box_bytes ns k) v c
  unfolding box_bytes
  box_put o u v a b c p q r = within_both (within_both (word_within p) q) (word_within r)

-- ---- loops: of n parts, `m` bytes at most each, k are put from place `b` on, and their bytes are `part k`
pub record PutSoFar (m : ℕ) (part : ℕ → List ℕ) (n : ℕ) (d : List ℕ) (b : ℕ) (o : List ℕ) (i k : ℕ) : Type 0 where
  pub inside : k ≤ n
  pub size : length o ≡ length d
  pub put : PutWithin d b (m * k) (part k) o i

module _ (m : ℕ) (part : ℕ → List ℕ) (n : ℕ) (d : List ℕ) (b : ℕ) where
  pub parts_start : part 0 ≡ [] → PutSoFar m part n d b d b 0
  parts_start e = record {
    inside = omega arith;
    size = refl;
    put = within (subst (λ (xs : List ℕ). Appended d b xs d b) (sym e) (append_none d b)) (omega arith);
  }

  module _ (o : List ℕ) (i k : ℕ) (r : PutSoFar m part n d b o i k) where
    pub parts_more : k < n → (u : List ℕ) (j : ℕ) → length u ≡ length o → (xs : List ℕ) → part (k + 1) ≡ part k ++ xs → PutWithin o i m xs u j
        → PutSoFar m part n d b u j (k + 1)
    parts_more h u j z xs e q = record {
      inside = omega arith;
      size = z ∙ r.size;
      put = subst (λ (ys : List ℕ). PutWithin d b (m * (k + 1)) ys u j) (sym e) (rw (mul-add, mul-one) (within_both r.put q));
    }

    pub parts_all : n ≤ k → PutWithin d b (m * n) (part n) o i
    parts_all h = let e : k ≡ n = omega (arith, r.inside) in subst (λ (l : ℕ). PutWithin d b (m * l) (part l) o i) e r.put

-- the boxes of a record
module _ (ns : List ℤ) (k : ℕ) (d : List ℕ) (b : ℕ) where
  pub boxes_start : PutSoFar 50 (boxes_bytes ns k) 4 d b d b 0
  unfolding boxes_bytes
  boxes_start = parts_start 50 (boxes_bytes ns k) 4 d b refl

  module _ (o : List ℕ) (i n : ℕ) (r : PutSoFar 50 (boxes_bytes ns k) 4 d b o i n) where
    pub boxes_more : n < 4 → (u : List ℕ) (j : ℕ) → length u ≡ length o → PutWithin o i 50 (box_bytes ns (k + 4 * n)) u j
        → PutSoFar 50 (boxes_bytes ns k) 4 d b u j (n + 1)
    unfolding boxes_bytes
    boxes_more h u j z q = parts_more 50 (boxes_bytes ns k) 4 d b o i n r h u j z (box_bytes ns (k + 4 * n)) (rw (add-one n)) q

    pub boxes_all : 4 ≤ n → PutWithin d b 200 (boxes_bytes ns k 4) o i
    boxes_all h = parts_all 50 (boxes_bytes ns k) 4 d b o i n r h
