-- The search of a list for a number that is no coordinate: what `position` says of its answer makes it that one; and what its answer tells.
use mathlib.Core.Path.{◌≡◌, refl, sym, ap}
use mathlib.Core.Bool.{Bool, true, false}
use mathlib.Core.List.{List}
use mathlib.Core.Option.{Option, none, some}
use Prim.Native.Nat.{ℕ, ◌<◌, zero-le}
use native.Mathlib.Nat.{zero-add}
use lib.ListN.{length}
use lib.IntN.{ℤ, pos}
use Rattle.std.specs.Prelude.{Some, None, MatchOption}
use Rattle.std.specs.List.{AllWithin, HoldsAt}
use Rattle.integers.specs.Entry.{entry}
use Rattle.integers.specs.First.{first_bad}
use Rattle.integers.proofs.Clash.{clash}
use Rattle.integers.proofs.First.{bad_none, bad_at}
use Rattle.outline.specs.Inside.{found_of}

-- ---- the first number of a list that is not fine
module _ (fine : ℤ → Bool) (ns : List ℤ) where
  abbrev fine_at : ℕ → Bool
  fine_at k = fine (entry ns k)

  pub first_place : (r : Rattle.std.specs.Prelude.Option ℕ)
      → MatchOption r (AllWithin (λ z. fine z ≡ true) ns 0 (length ns))
      (λ i. (i < length ns) × HoldsAt (λ z. fine z ≡ false) ns i × AllWithin (λ z. fine z ≡ true) ns 0 i)
      → r ≡ found_of (first_bad fine_at (length ns) 0)
  first_place None h = sym (ap found_of (bad_none fine_at (length ns) 0 (λ k l. rw zero-add (h k (pos 0) zero-le l))))
  first_place (Some i) h =
      sym (ap found_of (bad_at fine_at (length ns) 0 i zero-le (rw zero-add h.0) (h.1 (pos 0)) (λ k l m. h.2 k (pos 0) l m)))

-- ---- the answer tells which place it is
pub found_own : (o q : Option ℕ) → found_of o ≡ found_of q → o ≡ q
found_own none none e = refl
found_own none (some i) e = clash (cc)
found_own (some i) none e = clash (cc)
found_own (some i) (some j) e = cc
