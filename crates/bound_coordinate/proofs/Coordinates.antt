-- The code of one coordinate: what each function holds is its formula, within its bound.
--     mul-result c = fits! (search bounded depth 40) tt
--     returns c = computed! (search bounded depth 40) tt refl
use mathlib.Core.Path.{◌≡◌, refl, sym, ◌∙◌, ap, ap₂, subst}
use mathlib.Core.Bool.{true, ◌&&◌}
use mathlib.Core.List.{List}
use Prim.Native.Nat.{ℕ, ◌+◌, ◌*◌, ◌%◌, ◌^◌, ◌≤◌, ◌<◌}
use native.Mathlib.Nat.{le_trans, le_of_eq, lt_trans, lt_of_le_of_lt, mul-le-mul, mod-eq_of_lt}
use native.Mathlib.Omega.{arith}
use native.Mathlib.Numerals.{add-one, add-two}
use lib.Dec.{T, leb, ltb, leb→le, ltb→lt, lit<}
use lib.Pow.{pow_mono}
use lib.IntN.{ℤ, pos, negsuc, nat_abs, ◌+ℤ◌, ◌-ℤ◌, ◌*ℤ◌}
use lib.Signed.{◌<ℤ◌}
use mir.Syntax.{w64}
use mir.Val.{to_z, of_z}
use mir.Facts.{to_z-of_z, to_z_pos}
use Rattle.setting.specs.Setting.{Setting}
use Rattle.setting.proofs.Scales.{over_some}
use Rattle.integers.specs.Entry.{entry}
use Rattle.integers.proofs.Table.{and_left, and_right}
use Rattle.integers.proofs.Ranges.{stored}
use Rattle.integers.proofs.Size.{fits_size, abs_mul}
use Rattle.integers.proofs.Order.{NonNeg, pos_lt}
use Rattle.integers.proofs.Machine.{Held, Count, tests}
use Rattle.curve_halves.proofs.Halving.{held_entry}
use Rattle.curve_nodes.specs.Differences.{difference}
use Rattle.bound_enclosure.specs.AtDepth.{over}
use Rattle.bound_coordinate.specs.Inside.{Small, Computed}

pub computed! : {B : ℕ} {z r : ℤ} (s : Held r) → T (s.test && leb s.bound B) → s.value ≡ z → Computed B z r
computed! {B} {z} {r} s t e =
    let u = and_left s.test (leb s.bound B) t in
    record {
      is = s.is u ∙ e;
      size = subst (λ x. nat_abs x ≤ B) (sym (s.is u)) (le_trans (s.under u) (leb→le s.bound B (and_right s.test (leb s.bound B) t)));
    }

pub small! : {B : ℕ} {z : ℤ} (s : Held z) → T (s.test && leb s.bound B) → Small B z
small! s t = record { size = (computed! s t refl).size }

pub computed_as : {B : ℕ} {y z r : ℤ} → z ≡ y → Computed B z r → Computed B y r
computed_as e h = record { is = h.is ∙ e; size = h.size }

-- ---- what the code starts from
abbrev pub held_computed : {B : ℕ} {z r : ℤ} → Computed B z r → Held r
held_computed {B} {z} {r} h = record { value = z; bound = B; test = true; is = λ t. h.is; under = λ t. subst (λ x. nat_abs x ≤ B) h.is h.size }

abbrev pub held_small : {B : ℕ} {z : ℤ} → Small B z → Held z
held_small {B} {z} h = record { value = z; bound = B; test = true; is = λ t. refl; under = λ t. h.size }

-- pieces and break points
abbrev pub pieces : {m : ℕ} → m ≤ 8 → Count m
pieces h = record { bound = 9; under = omega arith }

-- m times the scale
abbrev pub divisors : {q : ℕ} → q ≤ 48 → Count q
divisors h = record { bound = 49; under = omega arith }

-- a number that is not negative, shifted to the left by at most k places
pub left_under : {B s k : ℕ} (z : ℤ) → nat_abs z ≤ B → s ≤ k → nat_abs (z *ℤ pos (2 ^ s)) ≤ B * 2 ^ k
left_under {s} z h l = le_trans (le_of_eq (abs_mul z (pos (2 ^ s)))) (mul-le-mul h (pow_mono l))

pub left_is : {B : ℕ} (s : ℕ) (z : ℤ) → NonNeg z → nat_abs (z *ℤ pos (2 ^ s)) ≤ B → T (ltb B (2 ^ 63)) → to_z w64 (of_z w64 z * 2 ^ s % 2 ^ 64) ≡ z *ℤ pos (2 ^ s)
left_is {B} s (pos a) n h t =
    let l : a * 2 ^ s < 2 ^ 63 = lt_of_le_of_lt h (ltb→lt B (2 ^ 63) t) in
    ap (to_z w64) (mod-eq_of_lt (lt_trans l (lit< tt))) ∙ to_z_pos w64 l
left_is s (negsuc a) n h t = absurd n.holds

abbrev pub held_left : {s k : ℕ} → s ≤ k → {x : ℤ} (h : Held x) → NonNeg h.value → Held (to_z w64 (of_z w64 x * 2 ^ s % 2 ^ 64))
held_left {s} {k} l {x} h n = record {
  value = h.value *ℤ pos (2 ^ s);
  bound = h.bound * 2 ^ k;
  test = h.test && ltb (h.bound * 2 ^ k) (2 ^ 63);
  is = λ t.
      let u = and_left h.test (ltb (h.bound * 2 ^ k) (2 ^ 63)) t in
      ap (λ z. to_z w64 (of_z w64 z * 2 ^ s % 2 ^ 64)) (h.is u)
      ∙ left_is s h.value n (left_under h.value (h.under u) l) (and_right h.test (ltb (h.bound * 2 ^ k) (2 ^ 63)) t);
  under = λ t. left_under h.value (h.under (and_left h.test (ltb (h.bound * 2 ^ k) (2 ^ 63)) t)) l;
}

pub ruleset bounded = (held_entry, held_computed, held_small, tests)

-- ---- what a caller holds of a result
pub stored_is : {B : ℕ} {z r : ℤ} → Computed B z r → T (ltb B (2 ^ 63)) → stored w64 r ≡ z
stored_is {B} {z} {r} h t = to_z-of_z (fits_size {w = w64} {z = r} (record { bound = B; under = h.size }) t) ∙ h.is

pub restored : {B : ℕ} {z r : ℤ} → Computed B z r → T (ltb B (2 ^ 63)) → Computed B z (stored w64 r)
restored {B} {z} {r} h t = record { is = stored_is h t; size = subst (λ x. nat_abs x ≤ B) (h.is ∙ sym (stored_is h t)) h.size }

-- ---- formulas as the definitions have them
pub difference_is : (cs : List ℤ) (k : ℕ) → entry cs k -ℤ pos 2 *ℤ entry cs (k + 1) +ℤ entry cs (k + 2) ≡ difference cs k
difference_is cs k = ap₂ (λ (a b : ℕ). entry cs k -ℤ pos 2 *ℤ entry cs a +ℤ entry cs b) (add-one k) (add-two k)

-- ---- the shift by which the code divides
pub shift_small : {d k : ℕ} → d ≤ 3 → k ≤ 8 → d * k ≤ 24
shift_small h l = mul-le-mul h l

-- the denominator of the control values is positive
pub over_positive : (σ : Setting) (d k : ℕ) → pos 0 <ℤ over σ d k
over_positive σ d k = pos_lt (over_some σ (d * k))
