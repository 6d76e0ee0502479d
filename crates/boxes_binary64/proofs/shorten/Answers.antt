-- `boxes_binary64::shorten` meets its contract: check 12, then the short form.
use Rattle.boxes_binary64.proofs.Checked.{faulty, fine}
use Rattle.boxes_binary64.proofs.shorten.Goals as goal

pub returns-in-Some : goal.returns-in-Some
returns-in-Some c = faulty c.args.b c.in-Some.ensures

pub returns-in-None : goal.returns-in-None
returns-in-None c = (fine c.args.b c.in-None.ensures, c.short_of.ensures)

pub short_of-requires : goal.short_of-requires
short_of-requires c = fine c.args.b c.in-None.ensures
