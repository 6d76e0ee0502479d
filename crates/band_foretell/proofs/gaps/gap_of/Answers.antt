-- G, read from the table.
use Rattle.band_foretell.proofs.GapsLaws.{gap_read}
use Rattle.band_foretell.proofs.gaps.gap_of.Goals as goal

pub returns : goal.returns
returns c = gap_read c.args.m c.args.degree c.requires.0 c.requires.1 c.requires.2
