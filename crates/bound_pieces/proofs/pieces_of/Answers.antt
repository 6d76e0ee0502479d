-- What goes with the number of pieces, from its rows.
use mathlib.Core.Path.{◌≡◌, ◌∙◌}
use mathlib.Core.Bool.{Bool, true, false, cond}
use lib.Dec.{ltb}
use borrow.Author.Tests.{lt-ltb, le-ltb}
use Rattle.bound_pieces.specs.Inside.{pieces_by, pieces_of}
use Rattle.bound_pieces.proofs.PiecesLaws.{pieces_read}
use Rattle.bound_pieces.proofs.pieces_of.Goals as goal
use Rattle.bound_pieces.proofs.pieces_of.Goals.{After-max-both}

-- the gaps that were read, with the corner at break point 1 or 0
read : (c : After-max-both) (b : Bool) → ltb c.gap_at-a0.result c.gap_at-a1.result ≡ b
    → pieces_by c.args.m c.args.sixths c.gap_at-single.result
    (cond b c.gap_at-a1.result c.gap_at-a0.result) (cond b c.gap_at-b1.result c.gap_at-b0.result)
    c.max-both.result c.gaps_of-quartic.result c.gaps_of-quintic.result
    ≡ pieces_of c.args.m c.args.sixths
read c = pieces_read c.requires.0 c.gap_at-single.ensures.0 c.gap_at-a0.ensures.0 c.gap_at-a1.ensures.0
    c.gap_at-b0.ensures.0 c.gap_at-b1.ensures.0 c.max-both.ensures c.gaps_of-quartic.ensures
    c.gaps_of-quintic.ensures c.args.sixths

pub returns-then-a0-a1 : goal.returns-then-a0-a1
returns-then-a0-a1 c = c.pieces_by.ensures ∙ read (goal.at.returns-then-a0-a1 c).After-max-both true (lt-ltb _ _ c.if-a0-a1.true)

pub returns-else-a0-a1 : goal.returns-else-a0-a1
returns-else-a0-a1 c =
    c.pieces_by-else-a0-a1.ensures ∙ read (goal.at.returns-else-a0-a1 c).After-max-both false (le-ltb _ _ c.if-a0-a1.false)
