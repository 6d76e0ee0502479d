-- The faults of a curve given by itself, check by check, and of an outline in which it stands for another.
use mathlib.Core.Path.{◌≡◌, refl, sym}
use mathlib.Core.Bool.{Bool, true, false}
use mathlib.Core.List.{List}
use mathlib.Core.Option.{Option, none, some}
use Prim.Native.Nat.{ℕ, ◌+◌, ◌-◌, ◌<◌}
use native.Mathlib.Omega.{arith}
use lib.IntN.{ℤ}
use Rattle.std.specs.Prelude.{Some, None, Result, Ok, Err}
use Rattle.setting.specs.Setting.{degree_pieces}
use Rattle.integers.specs.Entry.{entry}
use Rattle.integers.proofs.Clash.{clash}
use Rattle.integers.proofs.First.{bad_below}
use Rattle.refusals.specs.declared.Refusal.{Refusal}
use Rattle.refusals.specs.declared.Refusal.TheVariants.{Degree, Coordinate, Gap, DegreePieces}
use Rattle.outline.specs.Curves.{degree_fine, coordinates, degree_at, next_at}
use Rattle.outline.specs.Faults.{coordinate_fine, first_beyond}
use Rattle.outline.specs.Inside.{found_of, fault_of}
use Rattle.outline.proofs.Searching.{found_own}
use Rattle.outline_changed.specs.Inside.{own_fault, meets_old, meets_next, changed_fault}

-- the last of its checks as the code has its answer
abbrev pub last_own : ℕ → Rattle.std.specs.Prelude.Option ℕ → Result (Unit {0}) Refusal
last_own at (Some i) = Err (Coordinate (at + i))
last_own at None = Ok tt

module _ (m : ℕ) (new : List ℤ) (at : ℕ) where
  pub own_degree : degree_fine (entry new 0) ≡ false → own_fault m new at ≡ some (Degree at)
  unfolding own_fault
  own_degree e = rw (own_fault, e)

  module _ (fine : degree_fine (entry new 0) ≡ true) where
    pub own_pieces : degree_pieces (degree_at new 0) m ≡ false → own_fault m new at ≡ some (DegreePieces at)
    unfolding own_fault
    own_pieces e = rw (own_fault, fine, e)

    pub own_last : degree_pieces (degree_at new 0) m ≡ true
        → fault_of (own_fault m new at) ≡ last_own at (found_of (first_beyond new (next_at new 0 - 1) 1))
    unfolding own_fault
    own_last e =
        let n : next_at new 0 - 1 ≡ coordinates (degree_at new 0) = omega arith in
        rw (n, own_fault, fine, e) (answered (first_beyond new (coordinates (degree_at new 0)) 1))
      where
        answered : (o : Option ℕ) → fault_of (elim o [ some i ↦ some (Coordinate (at + i)) | none ↦ none ]) ≡ last_own at (found_of o)
        answered none = refl
        answered (some i) = refl

  -- no fault of its own: the degree is one
  pub own_fine : own_fault m new at ≡ none → degree_fine (entry new 0) ≡ true
  own_fine e = go (degree_fine (entry new 0)) refl
    where
      go : (b : Bool) → degree_fine (entry new 0) ≡ b → b ≡ true
      go true f = refl
      go false f = let z = own_degree f in clash (cc)

pub found_place : (new : List ℤ) (i : ℕ) → Some i ≡ found_of (first_beyond new (next_at new 0 - 1) 1) → i < next_at new 0
found_place new i e =
    let o = first_beyond new (next_at new 0 - 1) 1 in
    let l = bad_below (λ k. coordinate_fine (entry new k)) (next_at new 0 - 1) 1 i (found_own o (some i) (sym e)) in
    omega arith

pub fault_none : (o : Option Refusal) → Ok tt ≡ fault_of o → o ≡ none
fault_none none e = refl
fault_none (some r) e = clash (cc)

pub fault_some : (o : Option Refusal) (r : Refusal) → Err r ≡ fault_of o → o ≡ some r
fault_some none r e = clash (cc)
fault_some (some q) r e = cc

module _ (m : ℕ) (ns : List ℤ) (at next : ℕ) (new : List ℤ) where
  pub changed_own : (r : Refusal) → own_fault m new at ≡ some r → changed_fault m ns at next new ≡ some r
  unfolding changed_fault
  changed_own r e = rw (changed_fault, e)

  module _ (own : own_fault m new at ≡ none) where
    pub changed_gap : meets_old ns at new ≡ false → changed_fault m ns at next new ≡ some (Gap at)
    unfolding changed_fault
    changed_gap e = rw (changed_fault, own, e)

    pub changed_next : meets_old ns at new ≡ true → meets_next ns next new ≡ false
        → changed_fault m ns at next new ≡ some (Gap (at + next_at new 0))
    unfolding changed_fault
    changed_next e f = rw (changed_fault, own, e, f)

    pub changed_fine : meets_old ns at new ≡ true → meets_next ns next new ≡ true → changed_fault m ns at next new ≡ none
    unfolding changed_fault
    changed_fine e f = rw (changed_fault, own, e, f)

-- no fault of the outline: the new curve has none of its own
pub own_none : (m : ℕ) (ns : List ℤ) (at next : ℕ) (new : List ℤ) → changed_fault m ns at next new ≡ none → own_fault m new at ≡ none
own_none m ns at next new e = go (own_fault m new at) refl
  where
    go : (o : Option Refusal) → own_fault m new at ≡ o → o ≡ none
    go none f = refl
    go (some r) f = let z = changed_own m ns at next new r f in clash (cc)
