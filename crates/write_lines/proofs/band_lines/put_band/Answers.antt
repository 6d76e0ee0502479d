-- `write_lines::band_lines::put_band` meets its contract: the leaves, and then the report.
use native.Mathlib.Omega.{arith}
use Rattle.write_lines.proofs.BandLines.{room_done, done_lines}
use Rattle.write_lines.proofs.band_lines.put_band.Goals as goal

pub put_leaves-i-requires : goal.put_leaves-i-requires
put_leaves-i-requires c = (c.requires.stand, omega (arith, c.requires.room))

pub put_done-requires : goal.put_done-requires
put_done-requires c = search room_done

pub returns : goal.returns
returns c = search done_lines
