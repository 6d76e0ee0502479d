-- `integers_uses::distance` meets its contract: a branch gives the order by which the other difference is the smaller.
use mathlib.Core.Path.{refl}
use mathlib.Core.List.{[], ◌∷◌}
use lib.IntN.{ℤ, ◌-ℤ◌}
use lib.Signed.{◌≤ℤ◌, ≤ℤ_refl}
use Rattle.integers.proofs.Ring.{sides}
use Rattle.integers.proofs.Order.{le_by, gap, lt_le, ◌+₀◌}
use Rattle.integers.proofs.Ranges.{lt_yes, lt_no}
use Rattle.integers.proofs.Size.{Size, size_of}
use Rattle.integers.proofs.Machine.{tests, fits!, by!, flag! }
use Rattle.integers_uses.specs.Uses.{Distance}
use Rattle.integers_uses.proofs.distance.Reads as reads
use Rattle.integers_uses.proofs.distance.Lts as lts
use Rattle.integers_uses.proofs.distance.Goals as goal

module _ (c : lts.Start reads.Pre reads.Post) where
  abbrev size-a : Size c.args.a
  size-a = size_of c.args.a c.requires.0

  abbrev size-b : Size c.args.b
  size-b = size_of c.args.b c.requires.1

ruleset known = (tests, size-a, size-b)

pub overflow_sub-result : goal.overflow_sub-result
overflow_sub-result c = fits! (search known depth 40) tt

pub overflow_sub-result-else-a-b : goal.overflow_sub-result-else-a-b
overflow_sub-result-else-a-b c = fits! (search known depth 40) tt

turned : (a b : ℤ) → a ≤ℤ b → (a -ℤ b) ≤ℤ (b -ℤ a)
turned a b h = le_by (a ∷ b ∷ []) (gap h +₀ gap h) (search sides depth 40) refl

pub returns-then-a-b : goal.returns-then-a-b
returns-then-a-b c =
    let a = c.args.a in
    let b = c.args.b in
    by! (Distance a b) (search known depth 40) tt
    (record { from_a = turned a b (lt_le (lt_yes (flag! c.if-a-b.true (search known depth 40) tt))); from_b = ≤ℤ_refl _ })

pub returns-else-a-b : goal.returns-else-a-b
returns-else-a-b c =
    let a = c.args.a in
    let b = c.args.b in
    by! (Distance a b) (search known depth 40) tt
    (record { from_a = ≤ℤ_refl _; from_b = turned b a (lt_no (flag! c.if-a-b.false (search known depth 40) tt)) })
