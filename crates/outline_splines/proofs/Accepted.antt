-- What holds of a list of points that passes checks 24 and 25: how many curves it gives, and that 64 bits have room to halve each.
use mathlib.Core.Path.{◌≡◌, refl, ap, ◌∙◌}
use mathlib.Core.Bool.{Bool, true, false, ◌&&◌}
use mathlib.Core.List.Memᴰ
use mathlib.Core.List.{List, [], ◌∷◌, Memᴰ}
use mathlib.Core.Logic.{⊎_elim}
use mathlib.Core.Option.{Option, none, some}
use Prim.Native.Nat.{ℕ, zero, suc, ◌+◌, ◌%◌, ◌≤◌, ◌<◌, zero-le}
use native.Mathlib.Nat.{le_trans, le_refl, zero-add}
use native.Mathlib.Omega.{arith}
use lib.Dec.{eqb, leb, eqb→eq, lit≤}
use lib.ListN.{length}
use lib.IntN.{ℤ, pos, neg_ℤ, nat_abs, ◌*ℤ◌}
use borrow.Author.Tests.{leb-true, le-leb}
use Rattle.integers.specs.Entry.{entry}
use Rattle.integers.proofs.Clash.{clash}
use Rattle.integers.proofs.Order.{lt_or_ge}
use Rattle.integers.proofs.Between.{between_low, between_high}
use Rattle.integers.proofs.First.{none_bad}
use Rattle.integers.proofs.Size.{Size, size_add, size_mul, abs_within}
use Rattle.curve_halves.specs.Sizes.{Each}
use Rattle.curve_nodes.specs.declared.Curve.{Curve}
use Rattle.curve_nodes.specs.Bounds.{Sized}
use Rattle.outline.specs.Checks.{curves, faulty}
use Rattle.outline_splines.specs.Splines.{spline_values, spline_at, splines_from, spline_count, spline_length_fine, spline_fine, first_far, splined}

-- ---- 24 in words
pub record LengthFine (n : ℕ) : Type 0 where
  pub even : n % 2 ≡ 0
  pub least : 8 ≤ n
  pub most : n ≤ 8198

both : (a b : Bool) → (a && b) ≡ true → (a ≡ true) × (b ≡ true)
both true b e = (refl, e)
both false b e = clash (cc)

is_true : (b : Bool) → b ≡ true → lib.Dec.T b
is_true true e = tt
is_true false e = clash (cc)

pub fine_length : (n : ℕ) → spline_length_fine n ≡ true → LengthFine n
fine_length n e =
    let h = both (eqb (n % 2) 0) (leb 8 n && leb n 8198) e in
    let k = both (leb 8 n) (leb n 8198) h.1 in
    record { even = eqb→eq (n % 2) 0 (is_true (eqb (n % 2) 0) h.0); least = leb-true 8 n k.0; most = leb-true n 8198 k.1 }

pub length_fine_law : (n : ℕ) → n % 2 ≡ 0 → 8 ≤ n → n ≤ 8198 → spline_length_fine n ≡ true
length_fine_law n e l m = rw (e, le-leb 8 n l, le-leb n 8198 m)

-- ---- how many
pub splines_length : (n : ℕ) (ns : List ℤ) (at : ℕ) → length (splines_from n ns at) ≡ n
unfolding splines_from
splines_length zero ns at = refl
splines_length (suc n) ns at = ap suc (splines_length n ns (at + 2))

-- ---- every control value is within 6 · 131,072, which is below 2^20
module _ (ns : List ℤ) (small : (k : ℕ) → nat_abs (entry ns k) ≤ 131072) where
  abbrev number : (k : ℕ) → Size (entry ns k)
  number k = record { bound = 131072; under = small k }

  abbrev times : (n : ℕ) {z : ℤ} → Size z → Size (pos n *ℤ z)
  times n {z} s = size_mul {x = pos n} {y = z} (record { bound = n; under = le_refl n }) s

  values_small : (i : ℕ) → Each 1048576 (spline_values ns i)
  values_small i = record { under = go }
    where
      go : (k : ℕ) → nat_abs (entry (spline_values ns i) k) ≤ 1048576
      go zero = le_trans (size_add (size_add (number i) (times 4 (number (i + 2)))) (number (i + 4))).under (lit≤ tt)
      go (suc zero) = le_trans (times 2 (size_add (times 2 (number (i + 2))) (number (i + 4)))).under (lit≤ tt)
      go (suc (suc zero)) = le_trans (times 2 (size_add (number (i + 2)) (times 2 (number (i + 4))))).under (lit≤ tt)
      go (suc (suc (suc zero))) = le_trans (size_add (size_add (number (i + 2)) (times 4 (number (i + 4)))) (number (i + 6))).under (lit≤ tt)
      go (suc (suc (suc (suc zero)))) = zero-le
      go (suc (suc (suc (suc (suc zero))))) = zero-le
      go (suc (suc (suc (suc (suc (suc k)))))) = zero-le

  pub spline_sized : (at : ℕ) → Sized 0 (spline_at ns at)
  unfolding spline_at
  spline_sized at = record { least = lit≤ tt; most = lit≤ tt; x = values_small at; y = values_small (at + 1) }

pub spline_degree : (ns : List ℤ) (at : ℕ) → (spline_at ns at).degree ≡ 3
unfolding spline_at
spline_degree ns at = refl

-- numbers past the end are 0
past : (ns : List ℤ) (k : ℕ) → length ns ≤ k → entry ns k ≡ pos 0
past [] k h = refl
past (z ∷ ns) zero h = absurd (omega arith)
past (z ∷ ns) (suc k) h = past ns k (omega arith)

pub far_small : (ns : List ℤ) → first_far ns (length ns) 0 ≡ none → (k : ℕ) → nat_abs (entry ns k) ≤ 131072
far_small ns e k = ⊎_elim
    (λ l.
    let fine : spline_fine (entry ns k) ≡ true = rw zero-add at (none_bad (λ j. spline_fine (entry ns j)) (length ns) 0 e k l) in
    abs_within 131072 (entry ns k) (between_low (neg_ℤ (pos 131072)) (pos 131072) (entry ns k) fine)
    (between_high (neg_ℤ (pos 131072)) (pos 131072) (entry ns k) fine))
    (λ l. rw (past ns k l) zero-le)
    (lt_or_ge k (length ns))

-- ---- a list of points that is accepted
pub record Splines (ns : List ℤ) (cs : List Curve) : Type 0 where
  pub fine : LengthFine (length ns)
  pub small : (k : ℕ) → nat_abs (entry ns k) ≤ 131072
  pub is : cs ≡ splines_from (spline_count (length ns)) ns 0

pub accepted : (ns : List ℤ) (cs : List Curve) → splined ns ≡ curves cs → Splines ns cs
unfolding splined
accepted ns cs = go (spline_length_fine (length ns)) refl (first_far ns (length ns) 0) refl
  where
    go : (b : Bool) → spline_length_fine (length ns) ≡ b → (o : Option ℕ) → first_far ns (length ns) 0 ≡ o
        → elim b [
          | false ↦ faulty (Rattle.refusals.specs.declared.Refusal.TheVariants.SplineLength (length ns))
          | true ↦ elim o [
            | some i ↦ faulty (Rattle.refusals.specs.declared.Refusal.TheVariants.SplineCoordinate i)
            | none ↦ curves (splines_from (spline_count (length ns)) ns 0)
          ]
        ] ≡ curves cs → Splines ns cs
    go false e o f h = clash (cc)
    go true e (some i) f h = clash (cc)
    go true e none f h = record { fine = fine_length (length ns) e; small = far_small ns f; is = cc }

module _ {ns : List ℤ} {cs : List Curve} (s : Splines ns cs) where
  pub splines_count : length cs ≡ spline_count (length ns)
  splines_count = ap length s.is ∙ splines_length (spline_count (length ns)) ns 0

  pub splines_some : 0 < length cs
  splines_some = omega (arith, splines_count, s.fine.even, s.fine.least)

  pub splines_most : length cs ≤ 4096
  splines_most = omega (arith, splines_count, s.fine.most)

  -- what holds of every curve of four points holds of each
  pub splines_each : (P : Curve → Type 0) → ((at : ℕ) → P (spline_at ns at)) → (c : Curve) → Memᴰ c cs → P c
  unfolding splines_from
  splines_each P rule c i = from (spline_count (length ns)) 0 c (rw s.is at i)
    where
      from : (n at : ℕ) (c : Curve) → Memᴰ c (splines_from n ns at) → P c
      from zero at c i = absurd (Memᴰ.not-nil i)
      from (suc n) at c i = ⊎_elim (λ e. rw e (rule at)) (λ j. from n (at + 2) c j) (Memᴰ.cases_cons i)

  pub splines_sized : (c : Curve) → Memᴰ c cs → Sized 0 c
  splines_sized = splines_each (Sized 0) (spline_sized ns s.small)

  pub splines_cubic : (c : Curve) → Memᴰ c cs → c.degree ≡ 3
  splines_cubic = splines_each (λ c. c.degree ≡ 3) (spline_degree ns)
