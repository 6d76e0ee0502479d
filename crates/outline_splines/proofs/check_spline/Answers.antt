-- Checks 24 and 25, in their order.
use mathlib.Core.Path.{◌≡◌, sym, ap}
use mathlib.Core.Bool.{true, false}
use mathlib.Core.List.{List}
use mathlib.Core.Option.{none, some}
use Prim.Native.Nat.{ℕ}
use lib.ListN.{length}
use lib.IntN.{ℤ}
use Rattle.std.proofs.Common.{rules, Some, None, Ok, Err}
use Rattle.refusals.specs.declared.Refusal.TheVariants.{SplineLength, SplineCoordinate}
use Rattle.outline.specs.Inside.{found_of, checked_of}
use Rattle.outline.proofs.Searching.{found_own}
use Rattle.outline_splines.specs.Splines.{spline_length_fine, first_far, spline_count, splined}
use Rattle.outline_splines.proofs.Accepted.{splines_length}
use Rattle.outline_splines.proofs.check_spline.Goals as goal
use Rattle.outline_splines.proofs.check_spline.Goals.{then-n-ne0-via-then-n-ne0, then-n-ne0-via-else-n-ne0+then-not-contains}

module _ (ns : List ℤ) where
  refused_length : spline_length_fine (length ns) ≡ false → Err (SplineLength (length ns)) ≡ checked_of (splined ns)
  unfolding splined
  refused_length e = rw (splined, e)

  module _ (e : spline_length_fine (length ns) ≡ true) where
    far : (i : ℕ) → Some i ≡ found_of (first_far ns (length ns) 0) → Err (SplineCoordinate i) ≡ checked_of (splined ns)
    unfolding splined
    far i f = let g : first_far ns (length ns) 0 ≡ some i = found_own _ (some i) (sym f) in rw (splined, e, g)

    fine : None ≡ found_of (first_far ns (length ns) 0) → Ok (spline_count (length ns)) ≡ checked_of (splined ns)
    unfolding splined
    fine f =
        let g : first_far ns (length ns) 0 ≡ none = found_own _ none (sym f) in
        rw (splined, e, g) (ap Ok (sym (splines_length (spline_count (length ns)) ns 0)))

pub returns-then-n-ne0 : goal.returns-then-n-ne0
returns-then-n-ne0 c =
    let ns = c.args.ns.now in
    refused_length ns
    (elim c.then-n-ne0.branch [
      | then-n-ne0-via-then-n-ne0 w ↦ search rules
      | then-n-ne0-via-else-n-ne0+then-not-contains w ↦ search rules
    ])

pub returns-in-Some : goal.returns-in-Some
returns-in-Some c = far c.args.ns.now (search rules) c.in-Some.index c.in-Some.ensures

pub returns-in-None : goal.returns-in-None
returns-in-None c = fine c.args.ns.now (search rules) c.in-None.ensures
