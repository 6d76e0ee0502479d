-- `judge_runs::boxing::round_both` meets its contract, number by number.
use Rattle.std.specs.Int.{int_min, int_max}
use Rattle.integers.proofs.Between.{number_fits}
use Rattle.judge_runs.specs.Inside.{round_both}
use Rattle.judge_runs.proofs.Boxes.{kept_by, same_box}
use Rattle.judge_runs.proofs.boxing.round_both.Goals as goal

pub returns : goal.returns
unfolding round_both
returns c =
    let p = c.struct_told-1.given in
    let q = c.struct_told-2-1.given in
    let a = c.args in
    same_box
    (kept_by int_min (number_fits a.a.x_low p.0.1) (number_fits a.b.x_low q.0.1)
    (number_fits c.min-x_low.result c.min-x_low.type_inv) c.min-x_low.ensures.value)
    (kept_by int_max (number_fits a.a.x_high p.1.0.1) (number_fits a.b.x_high q.1.0.1)
    (number_fits c.max-x_high.result c.max-x_high.type_inv) c.max-x_high.ensures.value)
    (kept_by int_min (number_fits a.a.y_low p.1.1.0.1) (number_fits a.b.y_low q.1.1.0.1)
    (number_fits c.min-y_low.result c.min-y_low.type_inv) c.min-y_low.ensures.value)
    (kept_by int_max (number_fits a.a.y_high p.1.1.1.0.1) (number_fits a.b.y_high q.1.1.1.0.1)
    (number_fits c.max-y_high.result c.max-y_high.type_inv) c.max-y_high.ensures.value)
