-- `write_lines::render::put_on` meets its contract.
use Rattle.write_lines.proofs.Answers.{on_put}
use Rattle.write_lines.proofs.render.put_on.Goals as goal

pub returns : goal.returns
returns c = search on_put
