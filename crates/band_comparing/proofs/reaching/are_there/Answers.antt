-- Four numbers looked up.
use mathlib.Core.Path.{◌≡◌, sym, ◌∙◌}
use mathlib.Core.Bool.{true}
use Prim.Native.Nat.{◌+◌}
use Rattle.integers.specs.Entry.{entry}
use Rattle.integers.specs.Equal.{equal}
use Rattle.integers.proofs.Between.{element_fits}
use Rattle.integers.proofs.Equal.{bits_equal, bits_differ, bits_test}
use Rattle.band_comparing.proofs.ReachLaws.{there_not, there_not_second, there_not_third, there_last}
use Rattle.band_comparing.proofs.reaching.are_there.Goals as goal
use Rattle.band_comparing.proofs.reaching.are_there.Goals.{Else-p-a, Else-q-b, Else-r-c}
use Rattle.band_comparing.proofs.reaching.are_there.Goals.{then-p-a-via-then-p-a, then-p-a-via-else-p-a+then-q-b}
use Rattle.band_comparing.proofs.reaching.are_there.Goals.{then-p-a-via-else-p-a+else-q-b+then-r-c}

-- the first is there, and so is the second, and the third
first : (c : Else-p-a) → let a = c.args in equal (entry a.given.now a.at) a.a ≡ true
first c =
    bits_equal (element_fits c.args.given.now c.args.at c.p-1.given) c.ranges.a c.if-p-a.false

second : (c : Else-q-b) → let a = c.args in equal (entry a.given.now (a.at + 1)) a.b ≡ true
second c =
    bits_equal (element_fits c.args.given.now (c.args.at + 1) c.q-1.given) c.ranges.b c.if-q-b.false

third : (c : Else-r-c) → let a = c.args in
    equal (entry a.given.now (a.at + 2)) a.c ≡ true
third c =
    bits_equal (element_fits c.args.given.now (c.args.at + 2) c.r-1.given) c.ranges.c c.if-r-c.false

-- one of the first three is not
pub returns-then-p-a : goal.returns-then-p-a
returns-then-p-a c =
    let a = c.args in
    let fits-p = element_fits a.given.now a.at c.p-1.given in
    let fits-q = element_fits a.given.now (a.at + 1) c.q-1.given in
    let fits-r = element_fits a.given.now (a.at + 2) c.r-1.given in
    elim c.then-p-a.branch [
      | then-p-a-via-then-p-a w ↦ sym (there_not a.given.now a.at a.a a.b a.c a.d (bits_differ fits-p c.ranges.a w.if-p-a.true))
      | then-p-a-via-else-p-a+then-q-b w ↦
          sym (there_not_second a.given.now a.at a.a a.b a.c a.d (bits_equal fits-p c.ranges.a w.if-p-a.false)
          (bits_differ fits-q c.ranges.b w.if-q-b.true))
      | then-p-a-via-else-p-a+else-q-b+then-r-c w ↦
          sym (there_not_third a.given.now a.at a.a a.b a.c a.d (bits_equal fits-p c.ranges.a w.if-p-a.false)
          (bits_equal fits-q c.ranges.b w.if-q-b.false) (bits_differ fits-r c.ranges.c w.if-r-c.true))
    ]

pub returns : goal.returns
returns c =
    let a = c.args in
    bits_test (element_fits a.given.now (a.at + 3) c.s-1.given) c.ranges.d
    ∙ sym (there_last a.given.now a.at a.a a.b a.c a.d (first (goal.at.returns c).Else-p-a) (second (goal.at.returns c).Else-q-b) (third c))
