-- The whole numbers read from a list of f64, one by one: where they stand, which are coordinates, and that two f64 compare as their numbers.
use mathlib.Core.Path.{◌≡◌, refl, sym, ap, ◌∙◌, subst}
use mathlib.Core.Bool.{Bool, true, false, ◌&&◌, true≢false, false≢true}
use mathlib.Core.List.{List, [], ◌∷◌}
use mathlib.Core.Option.{Option, none, some}
use Prim.Native.Nat.{ℕ, zero, suc, ◌+◌, ◌-◌, ◌*◌, ◌^◌, ◌≤◌, ◌<◌, zero-le}
use native.Mathlib.Nat.{not-suc-le-zero, le_of_suc-le-suc, add-zero}
use native.Mathlib.Omega.{arith}
use lib.Dec.{T, leb}
use Rattle.integers.proofs.Ranges.{T_true}
use borrow.Author.Tests.{leb-true, leb-false, le-leb, lt-leb}
use Rattle.integers.proofs.Both.{both_true}
use lib.ListN.{length, get_or, length-map}
use lib.IntN.{ℤ, pos, negsuc, nat_abs}
use lib.Signed.{mag}
use mir.Syntax.{w64}
use mir.Val.{SFits, to_z, of_z}
use mir.ValLaws.{to_z-of_z}
use lib.Ieee.{Float, nan, eq}
use Rattle.integers.specs.Entry.{entry}
use Rattle.integers.specs.Equal.{equal}
use Rattle.integers.proofs.Equal.{equal-≡, ≡-equal}
use Rattle.outline.specs.Curves.{degree_fine, degree_at}
use Rattle.outline.specs.Faults.{coordinate_fine}
use Rattle.binary64.specs.Exact.{Number}
use Rattle.binary64.specs.Read.{read_of, Means}
use Rattle.binary64.specs.Inside.{near_in, near_of, number_in, near_number}
use Rattle.binary64.proofs.Meaning.{means, read_number}
use Rattle.binary64.proofs.Compare.{equal_number, number_equal}
use Rattle.outline_binary64.specs.Lists.{number_for, wholes}
use Rattle.outline_binary64.specs.Inside.{AllRead, Stands}

pub wholes_length : (xs : List Float) → length (wholes xs) ≡ length xs
wholes_length xs = length-map xs (λ x. number_for (read_of x))

pub whole_at : (xs : List Float) (k : ℕ) → k < length xs → entry (wholes xs) k ≡ number_for (read_of (get_or xs k nan))
whole_at [] k h = absurd (not-suc-le-zero h)
whole_at (x ∷ xs) zero h = refl
whole_at (x ∷ xs) (suc k) h = whole_at xs k (le_of_suc-le-suc h)

-- ---- a coordinate is a number that is near
near_option : (o : Option ℤ) → near_in o ≡ coordinate_fine (number_for o)
near_option none = refl
near_option (some (pos n)) = refl
near_option (some (negsuc n)) = go (leb (suc n) 1048576) refl
  where
    go : (b : Bool) → leb (suc n) 1048576 ≡ b → b ≡ (leb n 1048575 && true)
    go true e = rw (le-leb n 1048575 (omega (arith, leb-true (suc n) 1048576 e)))
    go false e = rw (lt-leb n 1048575 (omega (arith, leb-false (suc n) 1048576 e)))

pub near_is_fine : (x : Float) → near_of x ≡ coordinate_fine (number_for (read_of x))
near_is_fine x = near_option (read_of x)

number_option : (o : Option ℤ) → near_in o ≡ true → number_in o ≡ number_for o
number_option none e = absurd (false≢true e)
number_option (some z) e = refl

pub near_number_is : (x : Float) → near_of x ≡ true → near_number x ≡ number_for (read_of x)
near_number_is x e = number_option (read_of x) e

pub near_at : (xs : List Float) (k : ℕ) → k < length xs → near_of (get_or xs k nan) ≡ coordinate_fine (entry (wholes xs) k)
near_at xs k h = near_is_fine (get_or xs k nan) ∙ ap coordinate_fine (sym (whole_at xs k h))

-- a degree is a coordinate
pub degree_fine_law : (z : ℤ) → degree_fine z ≡ true → coordinate_fine z ≡ true
degree_fine_law (pos n) e = (le-leb n 1048576 (omega (arith, leb-true n 5 (both_true (leb 1 n) (leb n 5) e).1)))
degree_fine_law (negsuc n) e = absurd (false≢true e)

pub no_degree : (z : ℤ) → coordinate_fine z ≡ false → false ≡ degree_fine z
no_degree z e = go (degree_fine z) refl
  where
    go : (b : Bool) → degree_fine z ≡ b → false ≡ b
    go false f = refl
    go true f = absurd (true≢false (sym (degree_fine_law z f) ∙ e))

-- ---- f64 compare as their numbers, where one of them is near
pub compares : (x y : Float) → near_of y ≡ true → eq x y ≡ equal (number_for (read_of x)) (number_for (read_of y))
compares x y near = go (eq x y) refl (read_of y) refl
  where
    number_y : (z : ℤ) → read_of y ≡ some z → Number y z
    number_y z e = subst (Means y) e (means y)

    go : (b : Bool) → eq x y ≡ b → (o : Option ℤ) → read_of y ≡ o → b ≡ equal (number_for (read_of x)) (number_for (read_of y))
    go b e none f = absurd (false≢true (sym (ap near_in f) ∙ near))
    go true e (some z) f =
        let n = read_number x z (equal_number x y z (subst T (sym e) tt) (number_y z f)) in sym (≡-equal (ap number_for (n ∙ sym f)))
    go false e (some z) f = sym (differs (equal (number_for (read_of x)) (number_for (read_of y))) refl)
      where
        other : (o : Option ℤ) → read_of x ≡ o → number_for o ≡ z → ⊥
        other none g h = false≢true (sym (ap near_in f ∙ ap (λ k. leb (nat_abs k) 1048576) (sym h)) ∙ near)
        other (some k) g h =
            true≢false (sym (T_true (eq x y) (number_equal x y z (subst (Number x) h (subst (Means x) g (means x))) (number_y z f))) ∙ e)

        differs : (t : Bool) → equal (number_for (read_of x)) (number_for (read_of y)) ≡ t → t ≡ false
        differs false h = refl
        differs true h = absurd (other (read_of x) refl (equal-≡ h ∙ ap number_for f))

-- ---- a coordinate as the machine keeps it
small : (z : ℤ) → coordinate_fine z ≡ true → SFits w64 z
small z e = record { sfits = go z e }
  where
    go : (z : ℤ) → coordinate_fine z ≡ true → mag z < 2 ^ 63
    go (pos n) e = omega (arith, leb-true n 1048576 e)
    go (negsuc n) e = omega (arith, leb-true n 1048575 (both_true (leb n 1048575) true e).0)

pub near_fits : (x : Float) → near_of x ≡ true → SFits w64 (number_for (read_of x))
near_fits x e = small (number_for (read_of x)) (sym (near_is_fine x) ∙ e)

pub kept : (z r : ℤ) → r ≡ z → coordinate_fine z ≡ true → to_z w64 (of_z w64 r) ≡ z
kept z r e fine = ap (λ y. to_z w64 (of_z w64 y)) e ∙ to_z-of_z w64 z (small z fine)

-- ---- the coordinates of a curve that can be read
pub at_hand : (xs : List Float) {d i : ℕ} → AllRead (wholes xs) d i → (k : ℕ) → k ≤ d
    → (i + 2 * k < length xs) × (coordinate_fine (entry (wholes xs) (i + 2 * k)) ≡ true)
at_hand xs r k h = (omega (arith, r.inside, wholes_length xs), r.fine k h)

pub first_at_hand : (xs : List Float) {d i : ℕ} → AllRead (wholes xs) d i → (i < length xs) × (coordinate_fine (entry (wholes xs) i) ≡ true)
first_at_hand xs {d} {i} r =
    subst (λ j. (j < length xs) × (coordinate_fine (entry (wholes xs) j) ≡ true)) (add-zero i) (at_hand xs r 0 zero-le)

-- i is 1 for x and 2 for y
pub stands_read : {ns : List ℤ} {at d : ℕ} → Stands ns at → d ≡ degree_at ns at → (i : ℕ) → 1 ≤ i → i ≤ 2 → AllRead ns d (at + i)
stands_read {ns} {at} {d} s e i l h = record {
  inside = omega (arith, s.ends, e);
  fine = λ k j.
      let place : at + 1 + (2 * k + (i - 1)) ≡ at + i + 2 * k = omega arith in
      subst (λ n. coordinate_fine (entry ns n) ≡ true) place (s.fine (2 * k + (i - 1)) (omega (arith, e)));
}
