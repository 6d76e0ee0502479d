-- `write_lines::render::put_three` meets its contract.
use Rattle.write_lines.proofs.Answers.{three_put}
use Rattle.write_lines.proofs.render.put_three.Goals as goal

pub returns : goal.returns
returns c = search three_put
