-- The least tolerance that fits. The loop's invariant: all up to `low` are too tight, and `high` is not. The measure is how far apart they are.
use Prim.Native.Nat.{◌-◌}
use Rattle.setting.specs.Setting.{lists}
use Rattle.band_passes.specs.Forms.{Outline}
use Rattle.band_passes.specs.Inside.{curves_in}
use Rattle.band_tightest.proofs.Span.{Around}
use Rattle.band_tighten.proofs.outline_tightest.tightest_curves.Given as goal

abbrev pub invariant-loop-low : goal.invariant-loop-low
invariant-loop-low l = Around (lists l.m) (curves_in Outline l.ns l.curves) l.most l.low l.high

abbrev pub decreases-loop-low : goal.decreases-loop-low
decreases-loop-low l = l.high - l.low
