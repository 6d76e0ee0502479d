-- De Casteljau's triangle as the machine has it, each number kept in 64 bits: every sum and product of the code fits, and is the triangle's. One law
-- for every row and place, by induction, so that a sum of row 5 costs what one of row 1 does; a search would go through its 32 control values.
use mathlib.Core.Path.{◌≡◌, sym, ◌∙◌, ap, ap₂, subst}
use mathlib.Core.List.{List}
use Prim.Native.Nat.{ℕ, zero, suc, ◌+◌, ◌-◌, ◌*◌, ◌^◌, ◌≤◌, ◌<◌}
use native.Mathlib.Nat.{le_trans, le_of_eq, lt_of_le_of_lt, mul-le-mul, mul-le-mul_right, one-le-pow, two-pow-succ, add-mul, mul_assoc, one-mul, le_refl}
use native.Mathlib.Omega.{arith}
use lib.Dec.{T, ltb, ltb→lt, lt→ltb}
use lib.Pow.{pow-add}
use lib.IntN.{ℤ, pos, ◌+ℤ◌, ◌*ℤ◌, pow, one}
use mir.Syntax.{w64}
use mir.Val.{SFits}
use mir.Facts.{to_z-of_z}
use Rattle.integers.specs.Entry.{entry}
use Rattle.integers.proofs.RingLaws.{pow_natural, one-*ℤ}
use Rattle.integers.proofs.Ranges.{stored}
use Rattle.integers.proofs.Size.{fits_size, abs_mul}
use Rattle.curve_halves.specs.Halves.{listed, triangle, left, padded}
use Rattle.curve_halves.specs.Sizes.{Each}
use Rattle.curve_halves.proofs.Values.{listed_ext}
use Rattle.curve_halves.proofs.Sizes.{triangle_under}

-- row j at place i
abbrev pub kept : List ℤ → ℕ → ℕ → ℤ
kept cs zero i = stored w64 (entry cs i)
kept cs (suc j) i = stored w64 (kept cs j i +ℤ kept cs j (suc i))

halved : (j B N : ℕ) → 2 ^ suc j * B < N → 2 ^ j * B < N
halved j B N l = let m = rw (two-pow-succ, add-mul) at l in lt_of_le_of_lt (twice (2 ^ j * B)) m
  where
    twice : (n : ℕ) → n ≤ n + n
    twice n = omega arith

module _ {B : ℕ} {cs : List ℤ} (h : Each B cs) where
  row_fits : (j i : ℕ) → 2 ^ j * B < 2 ^ 63 → SFits w64 (triangle cs j i)
  row_fits j i l = fits_size (record { bound = 2 ^ j * B; under = triangle_under h j i }) (lt→ltb (2 ^ j * B) (2 ^ 63) l)

  row_is : (j i : ℕ) → 2 ^ j * B < 2 ^ 63 → kept cs j i ≡ triangle cs j i
  unfolding triangle
  row_is zero i l = to_z-of_z (row_fits zero i l)
  row_is (suc j) i l =
      let m = halved j B (2 ^ 63) l in
      ap₂ (λ x y. stored w64 (x +ℤ y)) (row_is j i m) (row_is j (suc i) m) ∙ to_z-of_z (row_fits (suc j) i l)

  pub kept_is : (j i : ℕ) → T (ltb (2 ^ j * B) (2 ^ 63)) → kept cs j i ≡ triangle cs j i
  kept_is j i t = row_is j i (ltb→lt (2 ^ j * B) (2 ^ 63) t)

  -- a number of the next row fits
  pub sum_fits : (j i : ℕ) → T (ltb (2 ^ suc j * B) (2 ^ 63)) → SFits w64 (kept cs j i +ℤ kept cs j (suc i))
  unfolding triangle
  sum_fits j i t =
      let l = ltb→lt (2 ^ suc j * B) (2 ^ 63) t in
      let m = halved j B (2 ^ 63) l in
      subst (SFits w64) (sym (ap₂ ◌+ℤ◌ (row_is j i m) (row_is j (suc i) m))) (row_fits (suc j) i l)

  -- the first number of a row, n times
  product_fits : (n j : ℕ) → T (ltb (n * (2 ^ j * B)) (2 ^ 63)) → SFits w64 (pos n *ℤ triangle cs j 0)
  product_fits n j t = fits_size (record {
    bound = n * (2 ^ j * B);
    under = le_trans (le_of_eq (abs_mul (pos n) (triangle cs j 0))) (mul-le-mul (le_refl n) (triangle_under h j 0));
  }) t

  pub times_fits : (n j : ℕ) → T (ltb (2 ^ j * B) (2 ^ 63)) → T (ltb (n * (2 ^ j * B)) (2 ^ 63)) → SFits w64 (pos n *ℤ kept cs j 0)
  times_fits n j t u = subst (λ z. SFits w64 (pos n *ℤ z)) (sym (kept_is j 0 t)) (product_fits n j u)

-- ---- the left half of degree d as code returns it: 2^m times a number, which is no product where it is once
abbrev pub kept_times : ℕ → ℤ → ℤ
kept_times zero z = z
kept_times (suc m) z = stored w64 (pos (2 ^ suc m) *ℤ z)

module _ {B : ℕ} {cs : List ℤ} (h : Each B cs) (d : ℕ) (t : T (ltb (2 ^ d * B) (2 ^ 63))) where
  parted : (m k : ℕ) → m + k ≡ d → 2 ^ m * (2 ^ k * B) < 2 ^ 63
  parted m k e = subst (λ n. n < 2 ^ 63) (ap (λ n. 2 ^ n * B) (sym e) ∙ ap (λ n. n * B) (pow-add 2 m k) ∙ mul_assoc (2 ^ m) (2 ^ k) B)
      (ltb→lt (2 ^ d * B) (2 ^ 63) t)

  times_is : (m k : ℕ) → m + k ≡ d → kept_times m (kept cs k 0) ≡ pow (pos 2) m *ℤ triangle cs k 0
  unfolding pow one
  times_is zero k e = row_is h k 0 (rw one-mul at (parted 0 k e)) ∙ sym (one-*ℤ (triangle cs k 0))
  times_is (suc m) k e =
      let n = 2 ^ suc m in
      let l = parted (suc m) k e in
      let one_of_lem = lt_of_le_of_lt (rw one-mul at (mul-le-mul_right (2 ^ k * B) (one-le-pow (suc m) 2 (omega arith)))) l in
      ap (λ z. stored w64 (pos n *ℤ z)) (row_is h k 0 one_of_lem)
      ∙ to_z-of_z (product_fits h n k (lt→ltb (n * (2 ^ k * B)) (2 ^ 63) l))
      ∙ ap (λ z. z *ℤ triangle cs k 0) (sym (pow_natural 2 (suc m)))

  pub left_are : padded (listed (suc d) (λ k. kept_times (d - k) (kept cs k 0))) ≡ padded (left d cs)
  unfolding left
  left_are = ap padded (listed_ext (suc d) (λ k. kept_times (d - k) (kept cs k 0)) (λ k. pow (pos 2) (d - k) *ℤ triangle cs k 0)
      (λ k l. times_is (d - k) k (omega arith)))
