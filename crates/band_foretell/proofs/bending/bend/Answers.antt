-- The largest of the second differences passed, one at a time.
use mathlib.Core.Path.{◌≡◌, refl, ◌∙◌, ap, ap₂}
use Prim.Native.Nat.{ℕ, ◌-◌, max}
use native.Mathlib.Numerals.{add-one}
use native.Mathlib.Omega.{arith}
use lib.IntN.{nat_abs}
use Rattle.std.proofs.Common.{rules}
use Rattle.curve_nodes.specs.Differences.{difference, largest_of, bend}
use Rattle.band_foretell.proofs.bending.bend.Goals as goal

pub loop-k-init : goal.loop-k-init
unfolding largest_of
loop-k-init c = (omega arith, refl)

pub size_at-requires : goal.size_at-requires
size_at-requires c = (c.requires.0, omega arith)

pub loop-k-preserved : goal.loop-k-preserved
unfolding largest_of
loop-k-preserved c =
    let e : c.max-most.result ≡ max c.loop-k.most c.size_at.result = search rules in
    (omega arith, rw add-one (e ∙ ap₂ max c.loop-k.invariant.1 c.size_at.ensures))

pub returns : goal.returns
unfolding bend
returns c =
    let l = c.loop-k in
    let e : l.k ≡ c.args.degree - 1 = omega arith in
    l.invariant.1 ∙ ap (λ (n : ℕ). largest_of n (λ i. nat_abs (difference c.args.c i))) e
