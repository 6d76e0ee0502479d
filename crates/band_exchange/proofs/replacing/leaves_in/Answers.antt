-- The leaves of a curve, as banding of it alone says them.
use mathlib.Core.Path.{◌≡◌, sym, ◌∙◌}
use mir.Facts.{to_z-of_z}
use Rattle.std.specs.Prelude.{Err}
use Rattle.outline.specs.Curves.{curve_at}
use Rattle.band_exchange.proofs.Alone.{alone, alone_done, alone_wide, alone_leaves}
use Rattle.band_exchange.proofs.replacing.leaves_in.Goals as goal
use Rattle.band_exchange.proofs.replacing.leaves_in.Goals.{In-Err}

-- the refusal of the curve alone
refused : (k : In-Err) → let a = k.args in
    Err k.in-Err.refusal ≡ alone a.m a.t (curve_at a.curve.now 0) 1
refused k =
    rw (to_z-of_z k.ranges.t) at (sym k.in-Err.is ∙ k.band_curves.ensures.value)

pub returns-in-Ok : goal.returns-in-Ok
returns-in-Ok c =
    let a = c.args in
    alone_done a.m a.t (curve_at a.curve.now 0) 1 _ _ _
    (rw (to_z-of_z c.ranges.t) at (sym c.in-Ok.is ∙ c.band_curves.ensures.value))

pub returns-in-TooWide : goal.returns-in-TooWide
returns-in-TooWide c =
    let a = c.args in
    alone_wide a.m a.t (curve_at a.curve.now 0) 1 _ _ (rw c.in-TooWide.is at (refused (goal.at.returns-in-TooWide c).In-Err))

pub returns-in_default : goal.returns-in_default
returns-in_default c =
    let a = c.args in
    let d = c.in_default in
    rw c.spot.ensures
    (alone_leaves a.m a.t (curve_at a.curve.now 0) 1 c.in-Err.refusal (refused (goal.at.returns-in_default c).In-Err) d.not-TooWide)
