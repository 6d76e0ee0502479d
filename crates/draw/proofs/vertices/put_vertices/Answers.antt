-- `draw::vertices::put_vertices` meets its contract.
use mathlib.Core.Path.{◌∙◌, ap}
use lib.ListN.{length}
use lib.Seq.{sets}
use Rattle.draw_polygon.specs.Polygon.{numbers}
use Rattle.draw.proofs.Spans.{vertices_are}
use Rattle.draw.proofs.vertices.put_vertices.Goals as goal

pub returns : goal.returns
returns c =
    let e = vertices_are c.args.first c.args.second c.across-x.ensures c.across-u.ensures
    c.upright-y.ensures c.upright-v.ensures
    c.ends_of_spans.ensures c.ends_of_spans-2.ensures in
    record { value = c.put_path.ensures.value ∙ ap length e; list_after = c.put_path.ensures.list_after ∙ ap (λ ps. sets c.args.list.now 0 (numbers ps)) e }
