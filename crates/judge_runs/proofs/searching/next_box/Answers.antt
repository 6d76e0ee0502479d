-- `judge_runs::searching::next_box` meets its contract. The loop's invariant: the point is outside the boxes before k.
use mathlib.Core.Path.{sym, ◌∙◌}
use Rattle.judge_runs.proofs.Passed.{outside_more}
use Rattle.judge_runs.proofs.searching.next_box.Goals as goal

pub loop-k-preserved : goal.loop-k-preserved
loop-k-preserved c = outside_more c.loop-k.invariant c.loop-k-test.true (sym c.is_outside.ensures ∙ c.if-not-is_outside.false)
