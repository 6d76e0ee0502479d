-- Whether a tolerance does not fit, from what banding with so many leaves answers.
use mathlib.Core.Path.{◌≡◌}
use native.Mathlib.Omega.{arith}
use mir.Syntax.{w64}
use mir.Val.{to_z}
use mir.Facts.{to_z_pos}
use lib.IntN.{pos}
use Rattle.setting.specs.Setting.{lists}
use Rattle.band_passes.specs.Forms.{Outline}
use Rattle.band_passes.specs.Inside.{curves_in}
use Rattle.band_tightest.proofs.Span.{tight_few, tight_other, tight_done}
use Rattle.band_tighten.proofs.outline_tightest.too_tight.Goals as goal
use Rattle.band_tighten.proofs.outline_tightest.too_tight.Goals.{in-TooFewRecords, in_default}

pub returns-in-Ok : goal.returns-in-Ok
returns-in-Ok c =
    let a = c.args in
    let e : to_z w64 a.t ≡ pos a.t = to_z_pos w64 (omega (arith, c.ranges.t)) in
    tight_done (lists a.m) (curves_in Outline a.ns.now a.curves) a.most a.t a.curves 1 _ _ _
    (rw e at c.in-Ok.ensures.value)

pub returns-after-matches : goal.returns-after-matches
returns-after-matches c =
    let a = c.args in
    let e : to_z w64 a.t ≡ pos a.t = to_z_pos w64 (omega (arith, c.ranges.t)) in
    elim c.match-matches.branch [
      | in-TooFewRecords w ↦
          let few = tight_few (lists a.m) (curves_in Outline a.ns.now a.curves) a.most a.t a.curves 1 _
          (rw (e, w.in-TooFewRecords.is) at c.in-Err.ensures.value) in
          rw w.matches-is few
      | in_default w ↦
          let other = tight_other (lists a.m) (curves_in Outline a.ns.now a.curves) a.most a.t a.curves 1 c.in-Err.refusal
          w.in_default.not-TooFewRecords (rw e at c.in-Err.ensures.value) in
          rw w.matches-is other
    ]
