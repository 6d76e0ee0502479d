-- The halves of specs/Halves.antt, which are read off de Casteljau's triangle, are stretches of the Bernstein sum: from 0 to 1/2, and from 1/2 to 1.
-- So a half's value is the whole's at weights twice as large in sum. What holds of the right half follows from the left one by the mirror law.
use mathlib.Core.Path.{◌≡◌, refl, sym, ◌∙◌, ap, ap₂}
use mathlib.Core.List.{List, [], ◌∷◌}
use Prim.Native.Nat.{ℕ, zero, suc, ◌+◌, ◌*◌, ◌-◌, ◌^◌, ◌≤◌, ◌<◌, suc-le-suc}
use native.Mathlib.Nat.{le_of_suc-le-suc, not-suc-le-zero, sub-zero, suc-sub-suc, zero-mul, suc-mul, pow-zero, pow-suc}
use native.Mathlib.Omega.{arith}
use lib.Pow.{pow-add}
use lib.ListN.{length}
use lib.IntN.{ℤ, pos, nat_abs, ◌+ℤ◌, ◌*ℤ◌, pow, one}
use Rattle.setting.specs.Setting.{most_degree, control_values}
use Rattle.integers.specs.Entry.{entry}
use Rattle.integers.proofs.RingLaws.{pow_natural}
use Rattle.integers.proofs.Ring.{ring, sides}
use Rattle.curve_bernstein.specs.Value.{value}
use Rattle.curve_bernstein.proofs.Recursion.{casteljau, casteljau_ext, casteljau_size, value_is}
use Rattle.curve_bernstein.proofs.Stretch.{mix, part, part_reversed, half_part, half_part_value}
use Rattle.curve_halves.specs.Halves.{listed, triangle, left, right, reversed, padded}
use Rattle.curve_halves.specs.Sizes.{Each}
pub use Rattle.curve_halves.proofs.Lists.{listed_entry, listed_ext}
use Rattle.curve_halves.proofs.Lists.{reversed_entry}
use Rattle.curve_halves.proofs.Mirror.{mirror}

reversed_twice : (d : ℕ) (f : ℕ → ℤ) → reversed d (reversed d (listed (suc d) f)) ≡ listed (suc d) f
reversed_twice d f = let fs = listed (suc d) f in
    listed_ext (suc d) (λ k. entry (reversed d fs) (d - k)) f (λ k l. reversed_entry d fs (d - k) k (omega arith) ∙ listed_entry (suc d) f k l)

-- so the right half is the left one, mirrored before and after
pub right_mirrored : (d : ℕ) (cs : List ℤ) → right d cs ≡ reversed d (left d (reversed d cs))
unfolding right
right_mirrored d cs = sym (reversed_twice d (λ k. pow (pos 2) k *ℤ triangle cs (d - k) k)) ∙ ap (reversed d) (mirror d cs)

-- padding changes nothing
-- a whole list of control values is not padded
pub padded_whole : (cs : List ℤ) → length cs ≡ control_values → padded cs ≡ cs
padded_whole [] e = absurd (omega arith)
padded_whole (a ∷ []) e = absurd (omega arith)
padded_whole (a ∷ b ∷ []) e = absurd (omega arith)
padded_whole (a ∷ b ∷ c ∷ []) e = absurd (omega arith)
padded_whole (a ∷ b ∷ c ∷ d ∷ []) e = absurd (omega arith)
padded_whole (a ∷ b ∷ c ∷ d ∷ f ∷ []) e = absurd (omega arith)
padded_whole (a ∷ b ∷ c ∷ d ∷ f ∷ g ∷ []) e = refl
padded_whole (a ∷ b ∷ c ∷ d ∷ f ∷ g ∷ h ∷ cs) e = absurd (omega arith)

pub padded_entry : (cs : List ℤ) (k : ℕ) → k < control_values → entry (padded cs) k ≡ entry cs k
padded_entry cs = listed_entry control_values (entry cs)

reversed_padded : (d : ℕ) → d ≤ most_degree → (cs : List ℤ) → reversed d (padded cs) ≡ reversed d cs
reversed_padded d h cs =
    listed_ext (suc d) (λ k. entry (padded cs) (d - k)) (λ k. entry cs (d - k)) (λ k l. padded_entry cs (d - k) (omega arith))

triangle_padded : (cs : List ℤ) (j i : ℕ) → i + j ≤ most_degree → triangle (padded cs) j i ≡ triangle cs j i
unfolding triangle
triangle_padded cs zero i h = padded_entry cs i (omega arith)
triangle_padded cs (suc j) i h = ap₂ ◌+ℤ◌ (triangle_padded cs j i (omega arith)) (triangle_padded cs j (suc i) (omega arith))

left_padded : (d : ℕ) → d ≤ most_degree → (cs : List ℤ) → left d (padded cs) ≡ left d cs
unfolding left
left_padded d h cs = listed_ext (suc d) (λ k. pow (pos 2) (d - k) *ℤ triangle (padded cs) k 0) (λ k. pow (pos 2) (d - k) *ℤ triangle cs k 0)
    (λ k l. ap (λ x. pow (pos 2) (d - k) *ℤ x) (triangle_padded cs k 0 (omega arith)))

pub mirror_padded : (d : ℕ) → d ≤ most_degree → (cs : List ℤ) → padded (reversed d (padded (right d cs))) ≡ padded (left d (padded (reversed d cs)))
mirror_padded d h cs = ap padded (reversed_padded d h (right d cs) ∙ mirror d cs ∙ sym (left_padded d h (reversed d cs)))

pub right_padded : (d : ℕ) → d ≤ most_degree → (cs : List ℤ) → padded (reversed d (padded (left d (padded (reversed d cs))))) ≡ padded (right d cs)
right_padded d h cs =
    ap padded (reversed_padded d h (left d (padded (reversed d cs))) ∙ ap (reversed d) (left_padded d h (reversed d cs)) ∙ sym (right_mirrored d cs))

-- ---- de Casteljau's triangle over a sequence: row j at place i
rows : (ℕ → ℤ) → ℕ → ℕ → ℤ
rows f zero i = f i
rows f (suc j) i = rows f j i +ℤ rows f j (suc i)

triangle_rows : (cs : List ℤ) (j i : ℕ) → triangle cs j i ≡ rows (entry cs) j i
unfolding triangle rows
triangle_rows cs zero i = refl
triangle_rows cs (suc j) i = ap₂ ◌+ℤ◌ (triangle_rows cs j i) (triangle_rows cs j (suc i))

-- the sums of neighbours have the same triangle without its first row
rows_sums : (f : ℕ → ℤ) (j i : ℕ) → rows (mix (pos 1) (pos 1) f) j i ≡ rows f (suc j) i
unfolding rows
rows_sums f zero i = ring (f i ∷ f (suc i) ∷ []) (search sides depth 20) refl
rows_sums f (suc j) i = ap₂ ◌+ℤ◌ (rows_sums f j i) (rows_sums f j (suc i))

first : (r : ℤ) (d : ℕ) (f : ℕ → ℤ) → casteljau (pos 0) r d f ≡ pow r d *ℤ f 0
unfolding casteljau pow one
first r zero f = ring (f 0 ∷ []) (search sides depth 20) refl
first r (suc d) f =
    ap (λ x. r *ℤ x +ℤ pos 0 *ℤ casteljau (pos 0) r d (λ k. f (suc k))) (first r d f)
    ∙ ring (r ∷ pow r d ∷ f 0 ∷ casteljau (pos 0) r d (λ k. f (suc k)) ∷ []) (search sides depth 20) refl

-- ---- the coefficients of the two stretches are the halves
left_rows : (d : ℕ) (f : ℕ → ℤ) (k : ℕ) → k ≤ d → half_part 0 d f k ≡ pow (pos 2) (d - k) *ℤ rows f k 0
unfolding part rows pow one
left_rows zero f zero h = ring (f 0 ∷ []) (search sides depth 20) refl
left_rows zero f (suc k) h = absurd (not-suc-le-zero h)
left_rows (suc d) f zero h = rw sub-zero (first (pos 2) (suc d) f)
left_rows (suc d) f (suc k) h =
    rw (suc-sub-suc d k) (left_rows d (mix (pos 1) (pos 1) f) k (le_of_suc-le-suc h) ∙ ap (λ x. pow (pos 2) (d - k) *ℤ x) (rows_sums f k 0))

pub left_part_law : (d : ℕ) (cs : List ℤ) (k : ℕ) → k ≤ d → entry (left d cs) k ≡ half_part 0 d (entry cs) k
unfolding left
left_part_law d cs k h =
    listed_entry (suc d) (λ j. pow (pos 2) (d - j) *ℤ triangle cs j 0) k (suc-le-suc h)
    ∙ ap (λ x. pow (pos 2) (d - k) *ℤ x) (triangle_rows cs k 0)
    ∙ sym (left_rows d (entry cs) k h)

pub right_part : (d : ℕ) (cs : List ℤ) (k : ℕ) → k ≤ d → entry (right d cs) k ≡ half_part 1 d (entry cs) k
right_part d cs k h =
    ap (λ hs. entry hs k) (right_mirrored d cs)
    ∙ reversed_entry d (left d (reversed d cs)) k (d - k) (omega arith)
    ∙ left_part_law d (reversed d cs) (d - k) (omega arith)
    ∙ part_reversed (pos 0) (pos 2) (pos 1) (pos 1) d (entry cs) (entry (reversed d cs)) (reversed_entry d cs) k (d - k) (omega arith)

-- ---- values of the halves
-- the half by a bit: 0 for the left one and 1 for the right one
abbrev pub half : ℕ → ℕ → List ℤ → List ℤ
half zero d cs = left d cs
half (suc b) d cs = right d cs

pub half_entry : (b : ℕ) → b < 2 → (d : ℕ) (cs : List ℤ) (k : ℕ) → k ≤ d → entry (half b d cs) k ≡ half_part b d (entry cs) k
half_entry zero h = left_part_law
half_entry (suc zero) h = right_part
half_entry (suc (suc b)) h = absurd (not-suc-le-zero (le_of_suc-le-suc (le_of_suc-le-suc h)))

module _ (p r : ℤ) (d : ℕ) (cs : List ℤ) where
  pub half_value : (b : ℕ) → b < 2 → value p r d (half b d cs) ≡ value (pos b *ℤ (p +ℤ r) +ℤ p) (pos (1 - b) *ℤ (p +ℤ r) +ℤ r) d cs
  half_value b h = half_part_value b p r d cs (half b d cs) (half_entry b h d cs)

  pub left_value : value p r d (left d cs) ≡ value p (p +ℤ pos 2 *ℤ r) d cs
  left_value = half_value 0 (omega arith)
      ∙ ap₂ (λ x y. value x y d cs) (ring (p ∷ r ∷ []) (search sides depth 20) refl) (ring (p ∷ r ∷ []) (search sides depth 20) refl)

  pub right_value : value p r d (right d cs) ≡ value (pos 2 *ℤ p +ℤ r) r d cs
  right_value = half_value 1 (omega arith)
      ∙ ap₂ (λ x y. value x y d cs) (ring (p ∷ r ∷ []) (search sides depth 20) refl) (ring (p ∷ r ∷ []) (search sides depth 20) refl)

  -- padding changes none
  pub value_padded : d ≤ most_degree → value p r d (padded cs) ≡ value p r d cs
  value_padded h = value_is p r d (padded cs)
      ∙ casteljau_ext p r d (entry (padded cs)) (entry cs) (λ k l. padded_entry cs k (omega arith))
      ∙ sym (value_is p r d cs)

-- ---- a value lies within the largest control value
module _ (p r B d : ℕ) (cs : List ℤ) (e : Each B cs) where
  pub value_within : nat_abs (value (pos p) (pos r) d cs) ≤ (p + r) ^ d * B
  value_within = rw value_is (casteljau_size p r B d (entry cs) (λ k l. e.under k))

-- ---- what control values are over at depth k
pub denominator : (d k : ℕ) → pow (pos (2 ^ k)) d ≡ pos (2 ^ (d * k))
denominator d k = pow_natural (2 ^ k) d ∙ ap pos (power d)
  where
    power : (d : ℕ) → (2 ^ k) ^ d ≡ 2 ^ (d * k)
    power zero = rw (zero-mul, pow-zero (2 ^ k), pow-zero 2)
    power (suc d) = rw (pow-suc, suc-mul, pow-add) (ap (λ x. x * 2 ^ k) (power d))
