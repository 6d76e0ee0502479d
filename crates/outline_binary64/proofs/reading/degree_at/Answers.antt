-- `outline_binary64::reading::degree_at` meets its contract: a degree from 1 to 5 stands inside the list, and is near.
use mathlib.Core.Path.{◌≡◌, sym, ◌∙◌, ap, subst}
use mathlib.Core.Bool.{true}
use mathlib.Core.List.{List}
use Prim.Native.Nat.{ℕ, ◌<◌}
use native.Mathlib.Omega.{arith}
use lib.ListN.{length, get_or}
use lib.Ieee.{Float, nan}
use mir.Syntax.{w32, w64}
use mir.Val.{Fits, to_z, of_z}
use lib.Dec.{T}
use lib.IntN.{nat_abs}
use lib.Signed.{non_neg}
use Rattle.integers.specs.Entry.{entry}
use Rattle.outline.specs.Curves.{degree_fine}
use Rattle.outline.proofs.Degrees.{degree_most, degree_nonneg, degree_inside}
use Rattle.binary64.specs.Inside.{near_of}
use Rattle.outline_binary64.specs.Lists.{wholes}
use Rattle.outline_binary64.proofs.Numbers.{wholes_length, whole_at, near_at, near_number_is, degree_fine_law, kept}
use Rattle.outline_binary64.proofs.reading.degree_at.Goals as goal
use Rattle.outline_binary64.proofs.reading.degree_at.Goals.{After-near_number}

inside : (xs : List Float) (at : ℕ) → degree_fine (entry (wholes xs) at) ≡ true → at < length xs
inside xs at e = omega (arith, degree_inside (wholes xs) at e, wholes_length xs)

near : (xs : List Float) (at : ℕ) → degree_fine (entry (wholes xs) at) ≡ true → near_of (get_or xs at nan) ≡ true
near xs at e = near_at xs at (inside xs at e) ∙ degree_fine_law (entry (wholes xs) at) e

pub near_number-requires : goal.near_number-requires
near_number-requires c = near c.args.xs.now c.args.at c.requires

number : (c : After-near_number) → c.near_number.result ≡ entry (wholes c.args.xs.now) c.args.at
number c =
    let xs = c.args.xs.now in
    c.near_number.ensures ∙ near_number_is (get_or xs c.args.at nan) (near xs c.args.at c.requires) ∙ sym (whole_at xs c.args.at (inside xs c.args.at c.requires))

-- as the machine keeps it
entry_kept : (c : After-near_number)
    → to_z w64 (of_z w64 c.near_number.result) ≡ entry (wholes c.args.xs.now) c.args.at
entry_kept c =
    let z = entry (wholes c.args.xs.now) c.args.at in
    kept z c.near_number.result (number c) (degree_fine_law z c.requires)

pub overflow_cast-result : goal.overflow_cast-result
overflow_cast-result c =
    let ns = wholes c.args.xs.now in
    let e = entry_kept c in
    subst (λ z. T (non_neg z) × Fits w32 (nat_abs z)) (sym e)
    ((degree_nonneg ns c.args.at c.requires).holds, record { fits = omega (arith, degree_most ns c.args.at c.requires) })

pub returns : goal.returns
returns c = ap nat_abs (entry_kept c)

pub offset_bounds-xs-at : goal.offset_bounds-xs-at
offset_bounds-xs-at c = omega (arith, inside c.args.xs.now c.args.at c.requires)

pub bounds-xs-at : goal.bounds-xs-at
bounds-xs-at c = inside c.args.xs.now c.args.at c.requires
