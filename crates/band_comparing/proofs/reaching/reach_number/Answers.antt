-- One number compared.
use mathlib.Core.Path.{sym}
use Rattle.integers.proofs.Between.{element_fits}
use Rattle.integers.proofs.Equal.{bits_equal, bits_differ}
use Rattle.band_comparing.proofs.ReachLaws.{number_past, number_same, number_other}
use Rattle.band_comparing.proofs.reaching.reach_number.Goals as goal

pub returns-then-reach-i : goal.returns-then-reach-i
returns-then-reach-i c = let a = c.args in sym (number_past a.given.now a.reach a.i a.n c.if-reach-i.true)

pub returns-then-there-n : goal.returns-then-there-n
returns-then-there-n c =
    let a = c.args in
    sym (number_same a.given.now a.reach a.i a.n
    (bits_equal (element_fits a.given.now a.i c.there-1.given) c.ranges.n c.if-there-n.true))

pub returns-else-there-n : goal.returns-else-there-n
returns-else-there-n c =
    let a = c.args in
    sym (number_other a.given.now a.reach a.i a.n c.if-reach-i.false
    (bits_differ (element_fits a.given.now a.i c.there-1.given) c.ranges.n c.if-there-n.false))
