-- For contracts inside the engine alone, no part of a public promise: banding of a list, by its form.
use Rattle.std.specs.Prelude.{ℕ}
use Rattle.setting.specs.Setting.{Setting}
use Rattle.outline.specs.Checks.{Outlined, outlined}
use Rattle.outline_binary64.specs.Lists.{outlined_binary64}
use Rattle.outline_splines.specs.Splines.{splined}
use Rattle.band_passes.specs.declared.forms.CurveList.{CurveList}
use Rattle.band_passes.specs.declared.forms.CurveList.TheVariants.{Outline, Binary64, Spline}
use Rattle.band_passes.specs.Forms.{Form}
use Rattle.band_passes.specs.Inside.{sixths_of}

-- what the list that is read gives
abbrev pub given_of : CurveList → (most m : ℕ) → Outlined
given_of (Outline ns) most m = outlined most m ns.now
given_of (Binary64 xs) most m = outlined_binary64 most m xs.now
given_of (Spline ns) most m = splined ns.now

-- at most so many curves and leaves, m pieces, and the control values of the form
abbrev pub setting_for : Form → (most leaves m : ℕ) → Setting
setting_for f most leaves m = record { most = most; leaves = leaves; pieces = m; sixths = sixths_of f }
