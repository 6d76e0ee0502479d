-- `write_lines::render::put_two` meets its contract.
use Rattle.write_lines.proofs.Answers.{two_put}
use Rattle.write_lines.proofs.render.put_two.Goals as goal

pub returns : goal.returns
returns c = search two_put
