-- `write_lines::render::put_done` meets its contract.
use Rattle.write_lines.proofs.Answers.{done_put}
use Rattle.write_lines.proofs.render.put_done.Goals as goal

pub returns : goal.returns
returns c = search done_put
