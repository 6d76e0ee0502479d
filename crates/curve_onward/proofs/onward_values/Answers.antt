-- One coordinate carried on, by the degree.
use native.Mathlib.Omega.{arith}
use lib.Dec.{lit≤}
use Rattle.curve_halves.proofs.Sizes.{each_wider}
use Rattle.curve_onward.proofs.onward_values.Goals as goal

pub onward_quartic-requires : goal.onward_quartic-requires
onward_quartic-requires c = let p = c.requires in (p.2, each_wider (lit≤ tt) p.3)

pub onward_low-requires : goal.onward_low-requires
onward_low-requires c = let p = c.requires in (p.0, omega arith, p.2, p.3)

pub returns-in-4 : goal.returns-in-4
returns-in-4 c = rw c.in-4.is c.onward_quartic.ensures

pub returns-in-5 : goal.returns-in-5
returns-in-5 c = rw c.in-5.is c.onward_quintic.ensures
