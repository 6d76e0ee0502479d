-- `boxes_binary64::hand_out` meets its contract: check 12, then the four numbers.
use Rattle.boxes_binary64.proofs.Checked.{faulty, fine}
use Rattle.boxes_binary64.proofs.hand_out.Goals as goal

pub returns-in-Some : goal.returns-in-Some
returns-in-Some c = faulty c.args.b c.in-Some.ensures

pub returns-in-None : goal.returns-in-None
returns-in-None c = (fine c.args.b c.in-None.ensures, c.in_units.ensures)
