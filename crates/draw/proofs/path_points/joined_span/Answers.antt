-- `draw::path_points::joined_span` meets its contract.
use mathlib.Core.Path.{◌∙◌}
use mir.Syntax.{w32}
use Rattle.integers.proofs.Ranges.{stored}
use Rattle.integers.proofs.Between.{number_fits}
use Rattle.draw.proofs.Spans.{min_is, max_is, joined_is}
use Rattle.draw.proofs.path_points.joined_span.Goals as goal

pub returns : goal.returns
returns c =
    let a = c.args in
    let p = c.struct_told-1.given in
    let q = c.struct_told-2-1.given in
    let low = c.min-low.ensures.value ∙ min_is (stored w32 a.first.low) (stored w32 a.second.low) in
    let high = c.max-high.ensures.value ∙ max_is (stored w32 a.first.high) (stored w32 a.second.high) in
    joined_is {s = a.first} {t = a.second} (number_fits a.first.low p.0.1) (number_fits a.first.high p.1.0.1)
    (number_fits a.second.low q.0.1) (number_fits a.second.high q.1.0.1)
    (number_fits c.min-low.result c.min-low.type_inv) (number_fits c.max-high.result c.max-high.type_inv) low high
