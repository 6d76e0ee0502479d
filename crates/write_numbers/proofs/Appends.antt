-- Parts put one after the other: nothing, one element, two parts, and what stands in front of the place after them.
use mathlib.Core.Path.{◌≡◌, refl, sym, ◌∙◌, ap, ap₂}
use mathlib.Core.List.{List, [], ◌∷◌, ◌++◌}
use Prim.Native.Nat.{ℕ, ◌+◌, ◌≤◌}
use native.Mathlib.Nat.{add-zero, zero-add}
use native.Mathlib.Omega.{arith}
use lib.ListN.{length, take, drop, set, length-append}
use lib.Seq.{sets, sets-eq, length-sets, take-append_seam}
use Rattle.integers.proofs.Stores.{sets_append}
use Rattle.write_numbers.specs.Appends.{Appended, PutWithin}

pub append_none : {A : Type 0} (d : List A) (i : ℕ) → Appended d i [] d i
append_none d i = record { list = refl; next = sym (add-zero i) }

pub append_one : {A : Type 0} (d : List A) (i : ℕ) (v z : A) → v ≡ z → Appended d i (z ∷ []) (set d i v) (i + 1)
append_one d i v z e = record { list = ap (set d i) e; next = refl }

pub append_both : {A : Type 0} (d o u : List A) (xs ys : List A) (i j k : ℕ) → Appended d i xs o j → Appended o j ys u k → Appended d i (xs ++ ys) u k
append_both d o u xs ys i j k p q = record {
  list = q.list ∙ ap₂ (λ l m. sets l m ys) p.list p.next ∙ sym (sets_append d i xs ys);
  next = omega (arith, length-append xs ys, p.next, q.next);
}

pub within : {A : Type 0} {d : List A} {i n : ℕ} {xs : List A} {o : List A} {j : ℕ} → Appended d i xs o j → j ≤ i + n → PutWithin d i n xs o j
within a h = record { put = a; small = h }

-- a word, within its length; and two parts, within what both ask for
pub word_within : {A : Type 0} {d o : List A} {i j : ℕ} {w : List A} → Appended d i w o j → PutWithin d i (length w) w o j
word_within a = within a (omega (arith, a.next))

pub within_both : {A : Type 0} {d o u : List A} {i j k m n : ℕ} {xs ys : List A} → PutWithin d i m xs o j → PutWithin o j n ys u k
    → PutWithin d i (m + n) (xs ++ ys) u k
within_both p q = within (append_both _ _ _ _ _ _ _ _ p.put q.put) (omega (arith, p.small, q.small))

-- what was put at the front of a list is what stands there
pub appended_front : {A : Type 0} (d xs o : List A) (j : ℕ) → Appended d 0 xs o j → j ≤ length d → take j o ≡ xs
appended_front d xs o j a h =
    let n : j ≡ length xs = a.next ∙ zero-add (length xs) in
    ap₂ take n (a.list ∙ sets-eq xs d 0 (omega arith)) ∙ take-append_seam xs (drop (0 + length xs) d)

-- a part changes no length
pub appended_length : {A : Type 0} (d : List A) (i : ℕ) (xs o : List A) (j : ℕ) → Appended d i xs o j → length o ≡ length d
appended_length d i xs o j a = ap length a.list ∙ length-sets d i xs

-- what was put within the list's length stands inside of it
pub within_fits : {A : Type 0} (d xs o : List A) (n j : ℕ) → PutWithin d 0 n xs o j → length d ≡ n → j ≤ length o
within_fits d xs o n j a e = omega (arith, a.small, appended_length d 0 xs o j a.put)
