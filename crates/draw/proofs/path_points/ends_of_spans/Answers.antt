-- `draw::path_points::ends_of_spans` meets its contract.
use Rattle.integers.proofs.Between.{number_fits}
use Rattle.draw.proofs.Spans.{ends_are}
use Rattle.draw.proofs.path_points.ends_of_spans.Goals as goal

pub returns : goal.returns
returns c =
    let p = c.struct_told-1.given in
    let q = c.struct_told-2-1.given in
    ends_are _ _ _ _ (number_fits _ p.0.1) (number_fits _ p.1.0.1) (number_fits _ q.0.1) (number_fits _ q.1.0.1)
    c.joined_span-levels.ensures c.reached-lowest.ensures c.reached-highest.ensures
