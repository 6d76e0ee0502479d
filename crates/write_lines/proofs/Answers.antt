-- The lines of the answer but for the leaves, put one part after the other: numbers and the end of the line, and a word before them.
use mathlib.Core.Path.{◌≡◌}
use mathlib.Core.List.{List}
use Prim.Native.Nat.{ℕ}
use Rattle.refusals.specs.declared.Refusal.{Refusal}
use Rattle.refusals.specs.Refusals.{number_of, spot_of}
use Rattle.write_numbers.specs.Appends.{Appended, PutWithin}
use Rattle.write_numbers.proofs.Appends.{word_within, within_both}
use Rattle.write_numbers.specs.Decimals.{spaced_natural}
use Rattle.write_leaves.specs.Leaves.{line_end}
use Rattle.write_lines.specs.Answers.{done_word, two_numbers, three_numbers, done_line, refused_word, refused_line, on_word, on_line}

-- ---- numbers and the end of the line
module _ (d : List ℕ) (i a b : ℕ) (o u : List ℕ) (j k : ℕ) (p : PutWithin d i 21 (spaced_natural a) o j) (q : PutWithin o j 21 (spaced_natural b) u k) where
  pub two_put : (v : List ℕ) (l : ℕ) → Appended u k line_end v l → PutWithin d i 44 (two_numbers a b) v l
  two_put v l r = within_both (within_both p q) (word_within r)

  pub three_put : (c : ℕ) (v w : List ℕ) (l n : ℕ) → PutWithin u k 21 (spaced_natural c) v l → Appended v l line_end w n
      → PutWithin d i 65 (three_numbers a b c) w n
  three_put c v w l n r s = within_both (within_both (within_both p q) r) (word_within s)

-- ---- a word before them
module _ (d : List ℕ) (i : ℕ) (o u : List ℕ) (j k : ℕ) where
  pub done_put : (a b c : ℕ) → Appended d i done_word o j → PutWithin o j 65 (three_numbers a b c) u k → PutWithin d i 70 (done_line a b c) u k
  unfolding done_line
  done_put a b c p q = within_both (word_within p) q

  pub refused_put : (r : Refusal) (n spot : ℕ) → n ≡ number_of r → spot ≡ spot_of r → Appended d i refused_word o j
      → PutWithin o j 44 (two_numbers n spot) u k
      → PutWithin d i 52 (refused_line r) u k
  unfolding refused_line
  refused_put r n spot e f p q = within_both (word_within p) (rw (e, f) at q)

  pub on_put : (leaf cover : ℕ) → Appended d i on_word o j → PutWithin o j 44 (two_numbers leaf cover) u k → PutWithin d i 47 (on_line leaf cover) u k
  unfolding on_line
  on_put leaf cover p q = within_both (word_within p) q
