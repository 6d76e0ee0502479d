-- The first index at which two lists differ: one number on, where it lies, and lists that do not differ.
use mathlib.Core.Path.{◌≡◌, refl, ap₂}
use mathlib.Core.Bool.{Bool, true, false}
use mathlib.Core.Logic.{◌⊎◌, inl, inr, ⊎_elim}
use mathlib.Core.List.{List, [], ◌∷◌}
use mathlib.Core.Option.{Option, none, some}
use Prim.Native.Nat.{ℕ, suc, ◌+◌, ◌<◌}
use native.Mathlib.Omega.{arith}
use lib.ListN.{length, drop}
use lib.Seq.{drop-cons}
use lib.IntN.{ℤ, pos}
use Rattle.integers.specs.Entry.{entry}
use Rattle.integers.specs.Equal.{equal}
use Rattle.integers.proofs.Equal.{equal-≡}
use Rattle.integers.proofs.Clash.{clash}
use Rattle.band_exchanged.specs.Exchange.{first_different}

-- ---- one of the two lists is over
pub over_right : (xs : List ℤ) (i : ℕ) → first_different xs [] i ≡ none
unfolding first_different
over_right [] i = refl
over_right (x ∷ xs) i = refl

pub over_left : (ys : List ℤ) (i : ℕ) → first_different [] ys i ≡ none
unfolding first_different
over_left ys i = refl

-- ---- one number on
module _ (xs : List ℤ) (y : ℤ) (ys : List ℤ) (i k : ℕ) (h : i < length xs) where
  pub differ_here : equal (entry xs i) y ≡ false → first_different (drop i xs) (y ∷ ys) k ≡ some k
  unfolding first_different
  differ_here e = rw (drop-cons xs i (pos 0) h, first_different, e)

  pub same_here : equal (entry xs i) y ≡ true → first_different (drop i xs) (y ∷ ys) k ≡ first_different (drop (suc i) xs) ys (suc k)
  unfolding first_different
  same_here e = rw (drop-cons xs i (pos 0) h, first_different, e)

-- ---- where it lies
tested : (b : Bool) (i j : ℕ) (o : Option ℕ) → ◌≡◌ {A = Option ℕ} (elim b [ true ↦ o | false ↦ some i ]) (some j) → (o ≡ some j) ⊎ (i ≡ j)
tested true i j o e = inl e
tested false i j o e = inr (cc)

pub differ_inside : (xs ys : List ℤ) (i j : ℕ) → first_different xs ys i ≡ some j → (j < i + length xs) × (j < i + length ys)
unfolding first_different
differ_inside [] ys i j e = clash (cc)
differ_inside (x ∷ xs) [] i j e = clash (cc)
differ_inside (x ∷ xs) (y ∷ ys) i j e = ⊎_elim
    (λ p. let h = differ_inside xs ys (suc i) j p in (omega (arith, h.0), omega (arith, h.1)))
    (λ p. (omega (arith, p), omega (arith, p)))
    (tested (equal x y) i j (first_different xs ys (suc i)) e)

-- ---- lists of one length that do not differ
passed : (b : Bool) (i : ℕ) (o : Option ℕ) → ◌≡◌ {A = Option ℕ} (elim b [ true ↦ o | false ↦ some i ]) none → (b ≡ true) × (o ≡ none)
passed true i o e = (refl, e)
passed false i o e = clash (cc)

pub none_different : (xs ys : List ℤ) (i : ℕ) → length xs ≡ length ys → first_different xs ys i ≡ none → xs ≡ ys
unfolding first_different
none_different [] [] i h e = refl
none_different [] (y ∷ ys) i h e = absurd (omega arith)
none_different (x ∷ xs) [] i h e = absurd (omega arith)
none_different (x ∷ xs) (y ∷ ys) i h e =
    let p = passed (equal x y) i (first_different xs ys (suc i)) e in
    ap₂ (λ a l. a ∷ l) (equal-≡ {a = x} {b = y} p.0) (none_different xs ys (suc i) (omega arith) p.1)
