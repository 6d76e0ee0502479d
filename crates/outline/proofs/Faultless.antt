-- The faults of one curve, check by check, and what a curve without a fault has: a degree from 1 to 5 that takes so many pieces, all of its coordinates, each of these within
-- 2^20, and the last point of the curve before as its first.
use mathlib.Core.Path.{◌≡◌, refl}
use mathlib.Core.Bool.{Bool, true, false, cond}
use mathlib.Core.List.{List}
use mathlib.Core.Option.{Option, none, some}
use Prim.Native.Nat.{ℕ, zero, suc, ◌+◌, ◌-◌, ◌*◌, ◌^◌, ◌≤◌, ◌<◌, zero-le}
use native.Mathlib.Nat.{mul-zero}
use native.Mathlib.Omega.{arith}
use borrow.Author.Tests.{lt-ltb, le-ltb, ltb-false, leb-true, lt-leb}
use lib.Dec.{leb, ltb, lit≤}
use lib.ListN.{length}
use lib.IntN.{ℤ, pos, neg_ℤ, nat_abs}
use Rattle.std.specs.Prelude.{Some, None, Result, Ok, Err}
use Rattle.setting.specs.Setting.{control_values, degree_pieces}
use Rattle.integers.specs.Entry.{entry}
use Rattle.integers.proofs.Size.{abs_within}
use Rattle.refusals.specs.declared.Refusal.{Refusal}
use Rattle.refusals.specs.declared.Refusal.TheVariants.{Degree, CutShort, Coordinate, Gap, DegreePieces}
use Rattle.curve_nodes.specs.declared.Curve.{Curve}
use Rattle.curve_halves.specs.Halves.{listed}
use Rattle.curve_halves.specs.Sizes.{Each}
use Rattle.curve_nodes.specs.Bounds.{Sized}
use Rattle.curve_halves.proofs.Sizes.{listed_under}
use Rattle.outline.specs.Curves.{degree_fine, coordinates, degree_at, next_at, values, curve_at}
use Rattle.outline.specs.Faults.{coordinate_fine, first_beyond, meets_before, fault_at}
use Rattle.outline.specs.Inside.{found_of, fault_of}
use Rattle.integers.proofs.Between.{between_low, between_high}
use Rattle.integers.proofs.First.{none_bad, bad_below}
use Rattle.outline.proofs.Degrees.{degree_least, degree_most}

-- ---- the checks one after the other; the last two as the code has their answers
abbrev pub last_fault : ℕ → Bool → Rattle.std.specs.Prelude.Option ℕ → Result (Unit {0}) Refusal
last_fault at meet (Some i) = Err (Coordinate i)
last_fault at true None = Ok tt
last_fault at false None = Err (Gap at)

module _ (m : ℕ) (ns : List ℤ) (at : ℕ) where
  pub fault_degree : degree_fine (entry ns at) ≡ false → fault_at m ns at ≡ some (Degree at)
  unfolding fault_at
  fault_degree e = rw (fault_at, e)

  module _ (fine : degree_fine (entry ns at) ≡ true) where
    pub fault_pieces : degree_pieces (degree_at ns at) m ≡ false → fault_at m ns at ≡ some (DegreePieces at)
    unfolding fault_at
    fault_pieces e = rw (fault_at, fine, e)

    module _ (enough : degree_pieces (degree_at ns at) m ≡ true) where
      pub fault_cut_short : length ns < next_at ns at → fault_at m ns at ≡ some (CutShort (length ns))
      unfolding fault_at
      fault_cut_short h = rw (fault_at, fine, enough, lt-ltb (length ns) (next_at ns at) h)

      pub fault_last : next_at ns at ≤ length ns
          → fault_of (fault_at m ns at) ≡ last_fault at (meets_before ns at) (found_of (first_beyond ns (next_at ns at - (at + 1)) (at + 1)))
      unfolding fault_at
      fault_last h =
          let n : next_at ns at - (at + 1) ≡ coordinates (degree_at ns at) = omega arith in
          rw (n, fault_at, fine, enough, le-ltb (length ns) (next_at ns at) h)
          (answered (first_beyond ns (coordinates (degree_at ns at)) (at + 1)) (meets_before ns at))
        where
          answered : (o : Option ℕ) (t : Bool)
              → fault_of (elim o [ some i ↦ some (Coordinate i) | none ↦ elim t [ true ↦ none | false ↦ some (Gap at) ] ]) ≡ last_fault at t (found_of o)
          answered none true = refl
          answered none false = refl
          answered (some i) t = refl

-- ---- no fault: the five checks passed
pub record Faultless (m : ℕ) (ns : List ℤ) (at : ℕ) : Type 0 where
  pub degree : degree_fine (entry ns at) ≡ true
  pub enough : degree_pieces (degree_at ns at) m ≡ true
  pub ends : next_at ns at ≤ length ns
  pub fine : (k : ℕ) → k < coordinates (degree_at ns at) → coordinate_fine (entry ns (at + 1 + k)) ≡ true
  pub meets : meets_before ns at ≡ true

-- ---- what the checks find, case by case
pub data Finding (m : ℕ) (ns : List ℤ) (at : ℕ) : Option Refusal → Type 0 where
  no_degree : Finding m ns at (some (Degree at))
  few_pieces : Finding m ns at (some (DegreePieces at))
  cut_short : Finding m ns at (some (CutShort (length ns)))
  beyond : (i : ℕ) → i < length ns → Finding m ns at (some (Coordinate i))
  gap : meets_before ns at ≡ false → Finding m ns at (some (Gap at))
  none_found : Faultless m ns at → Finding m ns at none

pub finding : (m : ℕ) (ns : List ℤ) (at : ℕ) → Finding m ns at (fault_at m ns at)
unfolding fault_at
finding m ns at =
    go (degree_fine (entry ns at)) refl (degree_pieces (degree_at ns at) m) refl (ltb (length ns) (next_at ns at)) refl
    (first_beyond ns (coordinates (degree_at ns at)) (at + 1)) refl (meets_before ns at) refl
  where
    go : (b : Bool) → degree_fine (entry ns at) ≡ b → (p : Bool) → degree_pieces (degree_at ns at) m ≡ p
        → (l : Bool) → ltb (length ns) (next_at ns at) ≡ l
        → (o : Option ℕ) → first_beyond ns (coordinates (degree_at ns at)) (at + 1) ≡ o → (t : Bool) → meets_before ns at ≡ t
        → Finding m ns at (elim b [
          | false ↦ some (Degree at)
          | true ↦
              elim p [
                | false ↦ some (DegreePieces at)
                | true ↦
                    elim l [
                      | true ↦ some (CutShort (length ns))
                      | false ↦ elim o [ some i ↦ some (Coordinate i) | none ↦ elim t [ true ↦ none | false ↦ some (Gap at) ] ]
                    ]
              ]
        ])
    go false b p e l f o g t h = no_degree
    go true b false e l f o g t h = few_pieces
    go true b true e true f o g t h = cut_short
    go true b true e false f (some i) g t h = beyond i
        (omega (arith, ltb-false (length ns) (next_at ns at) f, bad_below (λ k. coordinate_fine (entry ns k)) (coordinates (degree_at ns at)) (at + 1) i g))
    go true b true e false f none g false h = gap h
    go true b true e false f none g true h = none_found (record {
      degree = b;
      enough = e;
      ends = ltb-false (length ns) (next_at ns at) f;
      fine = none_bad (λ k. coordinate_fine (entry ns k)) (coordinates (degree_at ns at)) (at + 1) g;
      meets = h;
    })

pub faultless : (m : ℕ) (ns : List ℤ) (at : ℕ) → fault_at m ns at ≡ none → Faultless m ns at
faultless m ns at e = go (rw e at (finding m ns at))
  where
    go : Finding m ns at none → Faultless m ns at
    go (none_found f) = f

-- 17 is said of this curve alone, and only where it does not meet the one before
pub gap_found : (m : ℕ) (ns : List ℤ) (at i : ℕ) → fault_at m ns at ≡ some (Gap i) → (at ≡ i) × (meets_before ns at ≡ false)
gap_found m ns at i e = go i (rw e at (finding m ns at))
  where
    go : (j : ℕ) → Finding m ns at (some (Gap j)) → (at ≡ j) × (meets_before ns at ≡ false)
    go _ (gap h) = (refl, h)

-- ---- its control values
-- number k of a coordinate, as `values` lists it
abbrev pub value_at : List ℤ → ℕ → ℕ → ℕ → ℤ
value_at ns d i k = cond (leb k d) (entry ns (i + 2 * k)) (pos 0)

small_coordinate : (z : ℤ) → coordinate_fine z ≡ true → nat_abs z ≤ 2 ^ 20
small_coordinate z e =
    abs_within (2 ^ 20) z (between_low (neg_ℤ (pos 1048576)) (pos 1048576) z e) (between_high (neg_ℤ (pos 1048576)) (pos 1048576) z e)

module _ {m : ℕ} {ns : List ℤ} {at : ℕ} (f : Faultless m ns at) where
  -- i is 1 for x and 2 for y
  value_small : (i k : ℕ) → 1 ≤ i → i ≤ 2 → nat_abs (value_at ns (degree_at ns at) (at + i) k) ≤ 2 ^ 20
  value_small i k l h = go (leb k (degree_at ns at)) refl
    where
      go : (b : Bool) → leb k (degree_at ns at) ≡ b → nat_abs (cond b (entry ns (at + i + 2 * k)) (pos 0)) ≤ 2 ^ 20
      go true e =
          let place : at + 1 + (2 * k + (i - 1)) ≡ at + i + 2 * k = omega arith in
          let z = entry ns (at + 1 + (2 * k + (i - 1))) in
          let fine = f.fine (2 * k + (i - 1)) (omega (arith, leb-true k (degree_at ns at) e)) in
          rw (← place) (small_coordinate z fine)
      go false e = zero-le

  values_small : (i : ℕ) → 1 ≤ i → i ≤ 2 → Each (2 ^ 20 * 2 ^ (degree_at ns at * 0)) (values ns (degree_at ns at) (at + i))
  values_small i l h = rw (mul-zero (degree_at ns at))
      (record { under = listed_under (2 ^ 20) control_values (value_at ns (degree_at ns at) (at + i)) (λ k o. value_small i k l h) })

  pub curve_sized : Sized 0 (curve_at ns at)
  unfolding curve_at
  curve_sized = record {
    least = degree_least ns at f.degree;
    most = degree_most ns at f.degree;
    x = values_small 1 (lit≤ tt) (lit≤ tt);
    y = values_small 2 (lit≤ tt) (lit≤ tt);
  }

  pub curve_takes : degree_pieces (curve_at ns at).degree m ≡ true
  unfolding curve_at
  curve_takes = f.enough

-- ---- past the degree stand zeros, fault or not
pub record Padded (c : Curve) : Type 0 where
  pub x : (k : ℕ) → c.degree < k → entry c.x k ≡ pos 0
  pub y : (k : ℕ) → c.degree < k → entry c.y k ≡ pos 0

listed_zero : (n : ℕ) (f : ℕ → ℤ) (k : ℕ) → f k ≡ pos 0 → entry (listed n f) k ≡ pos 0
listed_zero zero f k e = refl
listed_zero (suc n) f zero e = e
listed_zero (suc n) f (suc k) e = listed_zero n (λ j. f (suc j)) k e

past_degree : (ns : List ℤ) (d i k : ℕ) → d < k → entry (values ns d i) k ≡ pos 0
past_degree ns d i k h = listed_zero control_values (value_at ns d i) k (rw (lt-leb k d h))

pub curve_padded : (ns : List ℤ) (at : ℕ) → Padded (curve_at ns at)
unfolding curve_at
curve_padded ns at = record { x = past_degree ns (degree_at ns at) (at + 1); y = past_degree ns (degree_at ns at) (at + 2) }
