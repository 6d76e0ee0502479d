-- `draw::path_points::reached` meets its contract: each arm is one outcome of the comparison.
use Rattle.std.proofs.Common.{rules, arith}
use Rattle.std.proofs.lemmas.Grind.{common_steps}
use mir.Facts.{to_z-of_z}
use Rattle.draw_polygon.specs.Polygon.{reached}
use Rattle.draw.proofs.path_points.reached.Goals as goal

pub returns-in-Less : goal.returns-in-Less
unfolding reached
returns-in-Less c = search (rules, to_z-of_z)

pub returns-in-Greater : goal.returns-in-Greater
unfolding reached
returns-in-Greater c = search (rules, to_z-of_z)

pub returns-in-Equal : goal.returns-in-Equal
unfolding reached
returns-in-Equal c = grind (arith, common_steps, to_z-of_z)
