-- Numbers moved: nowhere, towards the front, or towards the end.
use mathlib.Core.Path.{sym, ◌∙◌, ap}
use Rattle.band_exchange.specs.Inside.{moved_to}
use Rattle.band_exchange.proofs.Moves.{moved_nowhere}
use Rattle.band_exchange.proofs.moving.move_numbers.Goals as goal

pub returns-then-to-from : goal.returns-then-to-from
returns-then-to-from c =
    let a = c.args in
    sym (ap (λ to. moved_to a.list.now a.from to a.n) c.if-to-from.true ∙ moved_nowhere a.list.now a.from a.n c.requires.0)
