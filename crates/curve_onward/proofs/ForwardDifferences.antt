-- A coordinate carried on by its forward differences, as code has them: how large the numbers get, and that only the first of the forward differences count.
use mathlib.Core.Path.{◌≡◌, refl, ◌∙◌, ap, ap₂}
use mathlib.Core.List.{List}
use Prim.Native.Nat.{ℕ, zero, suc, ◌+◌, ◌*◌, ◌^◌, ◌≤◌, ◌<◌, zero-le, suc-le-suc}
use native.Mathlib.Nat.{le_refl, le_trans, le_of_eq, add-le-add, mul-le-mul_right, le_of_suc-le-suc, one-mul, pow-suc, one-le-pow}
use native.Mathlib.Omega.{arith}
use lib.IntN.{ℤ, nat_abs, neg_ℤ, ◌+ℤ◌, ◌-ℤ◌}
use lib.Signed.{shr_z}
use Rattle.setting.specs.Setting.{most_degree}
use Rattle.integers.specs.Entry.{entry}
use Rattle.integers.proofs.Size.{abs_add, abs_neg}
use Rattle.integers.proofs.Machine.{abs_shift}
use Rattle.curve_bernstein.proofs.Recursion.{one_on}
use Rattle.curve_halves.specs.Halves.{padded}
use Rattle.curve_halves.specs.Sizes.{Each}
use Rattle.curve_halves.proofs.Values.{listed_entry, padded_entry}
use Rattle.curve_halves.proofs.Sizes.{listed_under, each_padded}
use Rattle.curve_onward.specs.Onward.{forward_difference, forward_differences, accumulated, onward_at, onward}

-- ---- sizes: a difference is at most twice as large, and control value i carried on 3^i times
pub forward_difference_under : {B : ℕ} (f : ℕ → ℤ) → ((j : ℕ) → nat_abs (f j) ≤ B) → (j : ℕ) → nat_abs (forward_difference f j) ≤ 2 * B
forward_difference_under f h j = omega (arith, h j, h (suc j), abs_add (f (suc j)) (neg_ℤ (f j)), abs_neg (f j))

accumulated_under : {B : ℕ} (z : ℤ) (f : ℕ → ℤ) → nat_abs z ≤ B → ((i : ℕ) → nat_abs (f i) ≤ 3 ^ i * (2 * B)) → (i : ℕ) → nat_abs (accumulated z f i) ≤ 3 ^ i * B
unfolding accumulated
accumulated_under z f a h zero = omega (arith, a)
accumulated_under {B} z f a h (suc i) = le_trans (abs_add (accumulated z f i) (f i))
    (le_trans (add-le-add (accumulated_under z f a h i) (h i)) (rw (pow-suc 3 i) (le_of_eq (three (3 ^ i)))))
  where
    three : (w : ℕ) → w * B + w * (2 * B) ≡ w * 3 * B
    three w = omega arith

pub onward_under : {B : ℕ} (d k : ℕ) (f : ℕ → ℤ) → ((j : ℕ) → nat_abs (f j) ≤ B) → (i : ℕ) → nat_abs (onward_at d k f i) ≤ 3 ^ i * B
unfolding onward_at
onward_under {B} zero k f h i = le_trans (h 0) (rw one-mul at (mul-le-mul_right B (one-le-pow i 3 (omega arith))))
onward_under {B = B} (suc n) k f h i = accumulated_under (shr_z (f (suc n)) (2 ^ (suc n * k))) (onward_at n k (forward_difference f))
    (le_trans (abs_shift (f (suc n)) (2 ^ (suc n * k))) (h (suc n))) (onward_under {B = 2 * B} n k (forward_difference f) (forward_difference_under f h)) i

pub each_forward_difference : {B : ℕ} {cs : List ℤ} → Each B cs → Each (2 * B) (padded (forward_differences cs))
each_forward_difference {B} {cs} h = each_padded {cs = forward_differences cs}
    (record { under = listed_under (2 * B) most_degree (forward_difference (entry cs)) (λ k l. forward_difference_under (entry cs) h.under k) })

-- ---- only the first d + 1 numbers count
accumulated_ext : (z : ℤ) (f g : ℕ → ℤ) (n : ℕ) → ((i : ℕ) → i ≤ n → f i ≡ g i) → (i : ℕ) → i ≤ suc n → accumulated z f i ≡ accumulated z g i
unfolding accumulated
accumulated_ext z f g n h zero l = refl
accumulated_ext z f g n h (suc i) l = let m = le_of_suc-le-suc l in ap₂ ◌+ℤ◌ (accumulated_ext z f g n h i (one_on m)) (h i m)

onward_ext : (d k : ℕ) (f g : ℕ → ℤ) → ((j : ℕ) → j ≤ d → f j ≡ g j) → (i : ℕ) → i ≤ d → onward_at d k f i ≡ onward_at d k g i
unfolding onward_at
onward_ext zero k f g h i l = h 0 zero-le
onward_ext (suc n) k f g h i l =
    ap (λ z. accumulated (shr_z z (2 ^ (suc n * k))) (onward_at n k (forward_difference f)) i) (h (suc n) (le_refl (suc n)))
    ∙ accumulated_ext (shr_z (g (suc n)) (2 ^ (suc n * k))) (onward_at n k (forward_difference f)) (onward_at n k (forward_difference g)) n
    (onward_ext n k (forward_difference f) (forward_difference g) (λ j m. ap₂ ◌-ℤ◌ (h (suc j) (suc-le-suc m)) (h j (one_on m)))) i l

-- the forward differences of `cs`, carried on by the degree below, are in `ss`
pub carried : (n k : ℕ) (cs : List ℤ) {ss : List ℤ} → ss ≡ padded (onward n k (padded (forward_differences cs))) → n < most_degree
    → (i : ℕ) → i ≤ n → entry ss i ≡ onward_at n k (forward_difference (entry cs)) i
unfolding onward
carried n k cs e h i l =
    let ds = padded (forward_differences cs) in
    ap (λ rs. entry rs i) e
    ∙ padded_entry (onward n k ds) i (omega arith)
    ∙ listed_entry (suc n) (onward_at n k (entry ds)) i (suc-le-suc l)
    ∙ onward_ext n k (entry ds) (forward_difference (entry cs))
    (λ j m. padded_entry (forward_differences cs) j (omega arith) ∙ listed_entry most_degree (forward_difference (entry cs)) j (omega arith)) i l
