-- The line of a leaf record, put one part after the other, and the lines of several.
use mathlib.Core.Path.{◌≡◌, refl}
use mathlib.Core.List.{List}
use Prim.Native.Nat.{ℕ, ◌+◌, ◌*◌, ◌≤◌, ◌<◌}
use native.Mathlib.Numerals.{add-one}
use lib.ListN.{length}
use lib.IntN.{ℤ}
use Rattle.integers.specs.Entry.{entry}
use Rattle.write_numbers.specs.Appends.{Appended, PutWithin}
use Rattle.write_numbers.proofs.Appends.{word_within, within_both}
use Rattle.write_numbers.specs.Decimals.{spaced}
use Rattle.write_leaves.specs.Boxes.{boxes_bytes}
use Rattle.write_leaves.proofs.Boxes.{PutSoFar, parts_start, parts_more, parts_all}
use Rattle.write_leaves.specs.Leaves.{leaf_word, line_end, leaf_head, leaf_line, leaf_lines}

-- ---- parts of a line
module _ (d : List ℕ) (i : ℕ) (ns : List ℤ) (k : ℕ) where
  pub head_put : (o u v : List ℕ) (a b c : ℕ) → Appended d i leaf_word o a → PutWithin o a 12 (spaced (entry ns k)) u b
      → PutWithin u b 12 (spaced (entry ns (k + 1))) v c
      → PutWithin d i 29 (leaf_head ns k) v c
  head_put o u v a b c p q r = within_both (within_both (word_within p) q) r

  pub leaf_put : (o u v : List ℕ) (a b c : ℕ) → PutWithin d i 29 (leaf_head ns k) o a → PutWithin o a 200 (boxes_bytes ns (k + 2) 4) u b
      → Appended u b line_end v c
      → PutWithin d i 231 (leaf_line ns k) v c
  unfolding leaf_line
  leaf_put o u v a b c p q r = within_both (within_both p q) (word_within r)

-- ---- the lines of records
module _ (ns : List ℤ) (n : ℕ) (d : List ℕ) (b : ℕ) where
  pub leaves_start : PutSoFar 231 (leaf_lines ns) n d b d b 0
  unfolding leaf_lines
  leaves_start = parts_start 231 (leaf_lines ns) n d b refl

  module _ (o : List ℕ) (i k : ℕ) (r : PutSoFar 231 (leaf_lines ns) n d b o i k) where
    pub leaves_more : k < n → (u : List ℕ) (j : ℕ) → length u ≡ length o → PutWithin o i 231 (leaf_line ns (18 * k)) u j
        → PutSoFar 231 (leaf_lines ns) n d b u j (k + 1)
    unfolding leaf_lines
    leaves_more h u j z q = parts_more 231 (leaf_lines ns) n d b o i k r h u j z (leaf_line ns (18 * k)) (rw (add-one k)) q

    pub leaves_all : n ≤ k → PutWithin d b (231 * n) (leaf_lines ns n) o i
    leaves_all h = parts_all 231 (leaf_lines ns) n d b o i k r h
