-- A curve that stands in two outlines, at any place of each: it is read the same, and where the one has no fault, the other has none but 17.
use mathlib.Core.Path.{◌≡◌, refl, ap, ap₂}
use mathlib.Core.Bool.{Bool, true, false, cond}
use mathlib.Core.List.{List}
use mathlib.Core.Option.{none, some}
use Prim.Native.Nat.{ℕ, ◌+◌, ◌*◌, ◌≤◌, ◌<◌}
use native.Mathlib.Nat.{add-zero}
use native.Mathlib.Omega.{arith}
use borrow.Author.Tests.{le-ltb, leb-true}
use lib.Dec.{leb}
use lib.ListN.{length}
use lib.IntN.{ℤ, pos, nat_abs}
use Rattle.setting.specs.Setting.{control_values, degree_pieces}
use Rattle.integers.specs.Entry.{entry}
use Rattle.integers.proofs.First.{bad_none}
use Rattle.refusals.specs.declared.Refusal.TheVariants.{Coordinate, Gap}
use Rattle.curve_halves.proofs.Values.{listed_ext}
use Rattle.outline.specs.Curves.{degree_fine, coordinates, degree_at, next_at, values, curve_at}
use Rattle.outline.specs.Faults.{coordinate_fine, first_beyond, meets_before, fault_at}
use Rattle.outline.proofs.Faultless.{faultless, value_at}

-- ---- 4, where it is the first fault
pub fault_beyond : (m : ℕ) (ns : List ℤ) (at i : ℕ) → degree_fine (entry ns at) ≡ true → degree_pieces (degree_at ns at) m ≡ true
    → next_at ns at ≤ length ns → first_beyond ns (coordinates (degree_at ns at)) (at + 1) ≡ some i → fault_at m ns at ≡ some (Coordinate i)
unfolding fault_at
fault_beyond m ns at i d e h b = rw (fault_at, d, e, le-ltb (length ns) (next_at ns at) h, b)

-- ---- the four checks before 17 passed; then 17 decides
pub record Sound (m : ℕ) (ns : List ℤ) (at : ℕ) : Type 0 where
  pub degree : degree_fine (entry ns at) ≡ true
  pub enough : degree_pieces (degree_at ns at) m ≡ true
  pub ends : next_at ns at ≤ length ns
  pub fine : (k : ℕ) → k < coordinates (degree_at ns at) → coordinate_fine (entry ns (at + 1 + k)) ≡ true

module _ (m : ℕ) (ns : List ℤ) (at : ℕ) where
  pub sound : fault_at m ns at ≡ none → Sound m ns at
  sound e = let f = faultless m ns at e in record { degree = f.degree; enough = f.enough; ends = f.ends; fine = f.fine }

  module _ (s : Sound m ns at) where
    pub sound_none : meets_before ns at ≡ true → fault_at m ns at ≡ none
    unfolding fault_at
    sound_none e =
        let n = bad_none (λ k. coordinate_fine (entry ns k)) (coordinates (degree_at ns at)) (at + 1) s.fine in
        rw (fault_at, s.degree, s.enough, le-ltb (length ns) (next_at ns at) s.ends, n, e)

    pub sound_gap : meets_before ns at ≡ false → fault_at m ns at ≡ some (Gap at)
    unfolding fault_at
    sound_gap e =
        let n = bad_none (λ k. coordinate_fine (entry ns k)) (coordinates (degree_at ns at)) (at + 1) s.fine in
        rw (fault_at, s.degree, s.enough, le-ltb (length ns) (next_at ns at) s.ends, n, e)

-- ---- equal numbers at two places
module _ (ns ns' : List ℤ) (at at' : ℕ)
    (same : (i : ℕ) → i < 1 + coordinates (degree_at ns at) → entry ns' (at' + i) ≡ entry ns (at + i)) where
  same_first : entry ns' at' ≡ entry ns at
  same_first = let e = same 0 (omega arith) in rw (add-zero, add-zero) at e

  pub same_degree : degree_at ns' at' ≡ degree_at ns at
  same_degree = ap nat_abs same_first

  pub same_next : next_at ns' at' ≡ at' + (1 + coordinates (degree_at ns at))
  same_next = omega (arith, same_degree)

  -- i is 1 for x and 2 for y
  same_values : (i : ℕ) → 1 ≤ i → i ≤ 2 → values ns' (degree_at ns at) (at' + i) ≡ values ns (degree_at ns at) (at + i)
  same_values i l h =
      listed_ext control_values (value_at ns' (degree_at ns at) (at' + i)) (value_at ns (degree_at ns at) (at + i))
      (λ k o. go k (leb k (degree_at ns at)) refl)
    where
      go : (k : ℕ) (b : Bool) → leb k (degree_at ns at) ≡ b
          → cond b (entry ns' (at' + i + 2 * k)) (pos 0) ≡ cond b (entry ns (at + i + 2 * k)) (pos 0)
      go k false e = refl
      go k true e =
          let a : at' + i + 2 * k ≡ at' + (i + 2 * k) = omega arith in
          let b : at + i + 2 * k ≡ at + (i + 2 * k) = omega arith in
          rw (a, b) (same (i + 2 * k) (omega (arith, leb-true k (degree_at ns at) e)))

  pub same_curve : curve_at ns' at' ≡ curve_at ns at
  unfolding curve_at
  same_curve =
      rw same_degree
      (ap₂ (λ x y. record { degree = degree_at ns at; x = x; y = y }) (same_values 1 (omega arith) (omega arith))
      (same_values 2 (omega arith) (omega arith)))

  module _ (m : ℕ) where
    pub same_sound : Sound m ns at → at' + (1 + coordinates (degree_at ns at)) ≤ length ns' → Sound m ns' at'
    same_sound s h = record {
      degree = rw same_first s.degree;
      enough = rw same_degree s.enough;
      ends = rw same_next h;
      fine = λ k l.
          let a : at' + 1 + k ≡ at' + (1 + k) = omega arith in
          let b : at + 1 + k ≡ at + (1 + k) = omega arith in
          let o : k < coordinates (degree_at ns at) = omega (arith, same_degree, l) in
          rw (a, same (1 + k) (omega arith), ← b) (s.fine k o);
    }
