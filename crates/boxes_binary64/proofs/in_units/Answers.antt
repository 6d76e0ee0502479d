-- `boxes_binary64::in_units` meets its contract: each number is what `sixteenth` ensures of it.
use borrow.Author.Rules.{rules}
use Rattle.boxes_binary64.proofs.Handed.{read_back}
use Rattle.boxes_binary64.proofs.in_units.Goals as goal

pub returns : goal.returns
returns c =
    let b = c.args.b in
    record {
      x_low = read_back c.sixteenth.result b.x_low 16 (search rules) c.sixteenth.ensures;
      x_high = read_back c.sixteenth-2.result b.x_high 16 (search rules) c.sixteenth-2.ensures;
      y_low = read_back c.sixteenth-3.result b.y_low 16 (search rules) c.sixteenth-3.ensures;
      y_high = read_back c.sixteenth-4.result b.y_high 16 (search rules) c.sixteenth-4.ensures;
    }
