-- A coordinate carried on as the machine has it, each number kept in 64 bits: every difference and sum of the code fits, and is the definition's.
-- One law for every degree, row of forward differences and place, by induction, so that a sum of degree 3 costs what one of degree 1 does; a search would go
-- through the 27 control values that it is made of.
use mathlib.Core.Path.{◌≡◌, refl, sym, ◌∙◌, ap, ap₂, subst}
use mathlib.Core.List.{List}
use Prim.Native.Nat.{ℕ, zero, suc, ◌*◌, ◌^◌, ◌≤◌, ◌<◌, suc-le-suc}
use native.Mathlib.Nat.{lt_of_le_of_lt, le_of_suc-le-suc, mul-le-mul_right, one-mul, pow-suc, one-le-pow, pow-le-pow_right}
use native.Mathlib.Omega.{arith}
use lib.Dec.{T, leb, ltb, leb→le, ltb→lt, lt→ltb}
use lib.IntN.{ℤ, nat_abs, ◌+ℤ◌, ◌-ℤ◌}
use lib.Signed.{shr_z}
use mir.Syntax.{w64}
use mir.Val.{SFits}
use mir.Facts.{to_z-of_z}
use Rattle.setting.specs.Setting.{most_degree}
use Rattle.integers.specs.Entry.{entry}
use Rattle.integers.proofs.Ranges.{stored}
use Rattle.integers.proofs.Size.{fits_size}
use Rattle.curve_bernstein.proofs.Recursion.{one_on}
use Rattle.curve_halves.specs.Halves.{listed, padded}
use Rattle.curve_halves.specs.Sizes.{Each}
use Rattle.curve_halves.proofs.Values.{listed_ext}
use Rattle.curve_onward.specs.Onward.{forward_difference, forward_differences, accumulated, onward_at, onward}
use Rattle.curve_onward.proofs.ForwardDifferences.{forward_difference_under, onward_under, carried}

under_fits : {B : ℕ} (z : ℤ) → nat_abs z ≤ B → B < 2 ^ 63 → SFits w64 z
under_fits {B} z h l = fits_size (record { bound = B; under = h }) (lt→ltb B (2 ^ 63) l)

-- g, as it is kept, is f, at most B in size
record Kept (B : ℕ) (g f : ℕ → ℤ) : Type 0 where
  is : (i : ℕ) → g i ≡ f i
  under : (i : ℕ) → nat_abs (f i) ≤ B

-- ---- forward differences
abbrev pub kept_difference : (ℕ → ℤ) → ℕ → ℤ
kept_difference g i = stored w64 (g (suc i) -ℤ g i)

module _ {B : ℕ} {g f : ℕ → ℤ} (h : Kept B g f) (l : 2 * B < 2 ^ 63) where
  difference_within : (i : ℕ) → SFits w64 (forward_difference f i)
  difference_within i = under_fits (forward_difference f i) (forward_difference_under f h.under i) l

  difference_fits : (i : ℕ) → SFits w64 (g (suc i) -ℤ g i)
  difference_fits i = subst (SFits w64) (sym (ap₂ ◌-ℤ◌ (h.is (suc i)) (h.is i))) (difference_within i)

  forward_difference_kept : Kept (2 * B) (kept_difference g) (forward_difference f)
  forward_difference_kept = record {
    is = λ i. ap₂ (λ x y. stored w64 (x -ℤ y)) (h.is (suc i)) (h.is i) ∙ to_z-of_z (difference_within i);
    under = forward_difference_under f h.under;
  }

-- Row 0 are the control values as they are read, row j + 1 the forward differences of row j.
abbrev pub kept_row : List ℤ → ℕ → ℕ → ℤ
kept_row cs zero i = stored w64 (entry cs i)
kept_row cs (suc j) i = kept_difference (kept_row cs j) i

abbrev pub row : List ℤ → ℕ → ℕ → ℤ
row cs zero i = entry cs i
row cs (suc j) i = forward_difference (row cs j) i

abbrev pub row_bound : ℕ → ℕ → ℕ
row_bound B zero = B
row_bound B (suc j) = 2 * row_bound B j

once : (w B : ℕ) → 1 ≤ w → w * B < 2 ^ 63 → B < 2 ^ 63
once w B h l = lt_of_le_of_lt (rw one-mul at (mul-le-mul_right B h)) l

module _ {B : ℕ} {cs : List ℤ} (h : Each B cs) where
  row_kept : (j : ℕ) → row_bound B j < 2 ^ 63 → Kept (row_bound B j) (kept_row cs j) (row cs j)
  row_kept zero l = record { is = λ i. to_z-of_z (under_fits (entry cs i) (h.under i) l); under = h.under }
  row_kept (suc j) l = forward_difference_kept (row_kept j (once 2 (row_bound B j) (omega arith) l)) l

  -- a number of the next row fits
  pub forward_difference_fits : (j i : ℕ) → T (ltb (row_bound B (suc j)) (2 ^ 63)) → SFits w64 (kept_row cs j (suc i) -ℤ kept_row cs j i)
  forward_difference_fits j i t =
      let l = ltb→lt (row_bound B (suc j)) (2 ^ 63) t in
      difference_fits (row_kept j (once 2 (row_bound B j) (omega arith) l)) l i

  pub forward_differences_are : T (ltb (row_bound B 1) (2 ^ 63)) → padded (listed most_degree (kept_row cs 1)) ≡ padded (forward_differences cs)
  forward_differences_are t = ap padded (listed_ext most_degree (kept_row cs 1) (forward_difference (entry cs)) (λ i m. (row_kept 1 (ltb→lt (row_bound B 1) (2 ^ 63) t)).is i))

-- ---- the next degree: what begins where g ends, with the forward differences rs: those of f carried on by degree n
abbrev pub kept_risen : ℤ → (ℕ → ℤ) → ℕ → ℤ
kept_risen z rs zero = z
kept_risen z rs (suc i) = stored w64 (kept_risen z rs i +ℤ rs i)

-- a shift by 1 * k is one by k in code
abbrev pub shift : ℕ → ℕ → ℕ
shift zero k = k
shift (suc n) k = suc (suc n) * k

shift_is : (n k : ℕ) → shift n k ≡ suc n * k
shift_is zero k = sym (one-mul k)
shift_is (suc n) k = refl

abbrev pub kept_next : ℕ → ℕ → (ℕ → ℤ) → (ℕ → ℤ) → ℕ → ℤ
kept_next n k g rs i = kept_risen (stored w64 (shr_z (g (suc n)) (2 ^ shift n k))) rs i

module _ (n k : ℕ) {B : ℕ} {g f rs : ℕ → ℤ} (h : Kept B g f) (e : (i : ℕ) → i ≤ n → rs i ≡ onward_at n k (forward_difference f) i) (l : 3 ^ suc n * B < 2 ^ 63) where
  value_within : (i : ℕ) → i ≤ suc n → SFits w64 (onward_at (suc n) k f i)
  value_within i m = under_fits (onward_at (suc n) k f i) (onward_under (suc n) k f h.under i)
      (lt_of_le_of_lt (mul-le-mul_right B (pow-le-pow_right (omega arith) m)) l)

  value_is : (i : ℕ) → i ≤ suc n → kept_next n k g rs i ≡ onward_at (suc n) k f i
  unfolding accumulated onward_at
  value_is zero m = ap₂ (λ z p. stored w64 (shr_z z (2 ^ p))) (h.is (suc n)) (shift_is n k) ∙ to_z-of_z (value_within zero m)
  value_is (suc i) m =
      ap₂ (λ x y. stored w64 (x +ℤ y)) (value_is i (one_on (le_of_suc-le-suc m))) (e i (le_of_suc-le-suc m)) ∙ to_z-of_z (value_within (suc i) m)

  value_fits : (i : ℕ) → i ≤ n → SFits w64 (kept_next n k g rs i +ℤ rs i)
  unfolding accumulated onward_at
  value_fits i m = subst (SFits w64) (sym (ap₂ ◌+ℤ◌ (value_is i (one_on m)) (e i m))) (value_within (suc i) (suc-le-suc m))

values_are : (n k : ℕ) {B : ℕ} (cs : List ℤ) {g rs : ℕ → ℤ} → Kept B g (entry cs) → ((i : ℕ) → i ≤ n → rs i ≡ onward_at n k (forward_difference (entry cs)) i)
    → 3 ^ suc n * B < 2 ^ 63 → padded (listed (suc (suc n)) (kept_next n k g rs)) ≡ padded (onward (suc n) k cs)
unfolding onward
values_are n k cs {g} {rs} h e l =
    ap padded (listed_ext (suc (suc n)) (kept_next n k g rs) (onward_at (suc n) k (entry cs)) (λ i m. value_is n k h e l i (le_of_suc-le-suc m)))

below : (n B : ℕ) → 3 ^ suc n * B < 2 ^ 63 → 3 ^ n * (2 * B) < 2 ^ 63
below n B l = lt_of_le_of_lt (less (3 ^ n)) (rw (pow-suc 3 n) at l)
  where
    less : (w : ℕ) → w * (2 * B) ≤ w * 3 * B
    less w = omega arith

alone : (n B : ℕ) → 3 ^ n * B < 2 ^ 63 → B < 2 ^ 63
alone n B = once (3 ^ n) B (one-le-pow n 3 (omega arith))

-- ---- degrees 1 to 3, whose forward differences are carried on in the same function
abbrev pub kept_onward : ℕ → ℕ → (ℕ → ℤ) → ℕ → ℤ
kept_onward zero k g i = g 0
kept_onward (suc n) k g i = kept_next n k g (kept_onward n k (kept_difference g)) i

differences_carried : (n k : ℕ) {B : ℕ} {g f : ℕ → ℤ} → Kept B g f → 3 ^ suc n * B < 2 ^ 63 → (i : ℕ) → i ≤ n
    → kept_onward n k (kept_difference g) i ≡ onward_at n k (forward_difference f) i
unfolding onward_at
differences_carried zero k {B} h l i m = (forward_difference_kept h (alone 0 (2 * B) (below 0 B l))).is 0
differences_carried (suc n) k {B} h l i m =
    let b = below (suc n) B l in
    let r = forward_difference_kept h (alone (suc n) (2 * B) b) in
    value_is n k r (differences_carried n k r b) b i m

module _ {B : ℕ} {cs : List ℤ} (h : Each B cs) (n k : ℕ) where
  -- of row j, carried on by degree n + 1, the number after place i fits
  pub sum_fits : (j i : ℕ) → T (leb i n) → T (ltb (3 ^ suc n * row_bound B j) (2 ^ 63))
      → SFits w64 (kept_onward (suc n) k (kept_row cs j) i +ℤ kept_onward n k (kept_row cs (suc j)) i)
  sum_fits j i t u =
      let l = ltb→lt (3 ^ suc n * row_bound B j) (2 ^ 63) u in
      let r = row_kept h j (alone (suc n) (row_bound B j) l) in
      value_fits n k r (differences_carried n k r l) l i (leb→le i n t)

  pub onward_are : T (ltb (3 ^ suc n * B) (2 ^ 63))
      → padded (listed (suc (suc n)) (kept_onward (suc n) k (kept_row cs 0))) ≡ padded (onward (suc n) k cs)
  onward_are t =
      let l = ltb→lt (3 ^ suc n * B) (2 ^ 63) t in
      let r = row_kept h 0 (alone (suc n) B l) in
      values_are n k cs r (differences_carried n k r l) l

-- ---- degrees 4 and 5: `ss` are the forward differences of `cs`, carried on by the function of degree n
pub record Below (B : ℕ) (cs ss : List ℤ) (n k : ℕ) : Type 0 where
  pub under : Each B cs
  pub carried_on : ss ≡ padded (onward n k (padded (forward_differences cs)))

pub below_by : {B : ℕ} {cs ds ss : List ℤ} {n k : ℕ} → Each B cs → ds ≡ padded (forward_differences cs) → ss ≡ padded (onward n k ds) → Below B cs ss n k
below_by {n} {k} h e f = record { under = h; carried_on = f ∙ ap (λ ds. padded (onward n k ds)) e }

module _ {B : ℕ} {cs ss : List ℤ} {n k : ℕ} (b : Below B cs ss n k) (d : T (ltb n most_degree)) where
  result_carried : 3 ^ suc n * B < 2 ^ 63 → (i : ℕ) → i ≤ n → kept_row ss 0 i ≡ onward_at n k (forward_difference (entry cs)) i
  result_carried l i m =
      ap (stored w64) (carried n k cs b.carried_on (ltb→lt n most_degree d) i m)
      ∙ to_z-of_z (under_fits (onward_at n k (forward_difference (entry cs)) i)
      (onward_under n k (forward_difference (entry cs)) (forward_difference_under (entry cs) b.under.under) i)
      (lt_of_le_of_lt (mul-le-mul_right (2 * B) (pow-le-pow_right (omega arith) m)) (below n B l)))

  pub next_fits : (i : ℕ) → T (leb i n) → T (ltb (3 ^ suc n * B) (2 ^ 63))
      → SFits w64 (kept_next n k (kept_row cs 0) (kept_row ss 0) i +ℤ kept_row ss 0 i)
  next_fits i t u =
      let l = ltb→lt (3 ^ suc n * B) (2 ^ 63) u in
      value_fits n k (row_kept b.under 0 (alone (suc n) B l)) (result_carried l) l i (leb→le i n t)

  pub next_are : T (ltb (3 ^ suc n * B) (2 ^ 63))
      → padded (listed (suc (suc n)) (kept_next n k (kept_row cs 0) (kept_row ss 0))) ≡ padded (onward (suc n) k cs)
  next_are t =
      let l = ltb→lt (3 ^ suc n * B) (2 ^ 63) t in
      values_are n k cs (row_kept b.under 0 (alone (suc n) B l)) (result_carried l) l
