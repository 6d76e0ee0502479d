-- What every list that banding takes gives where its checks find no fault: some curves, not too many, of the size of an outline's, and of degrees that
-- take so many pieces. One law for each form of a list; all theorems of banding rest on these alone.
use mathlib.Core.Path.{◌≡◌}
use mathlib.Core.Bool.{true}
use mathlib.Core.List.{List, Memᴰ}
use Prim.Native.Nat.{ℕ, ◌≤◌, ◌<◌}
use native.Mathlib.Omega.{arith}
use lib.ListN.{length}
use lib.IntN.{ℤ}
use lib.Ieee.{Float}
use Rattle.setting.specs.Setting.{Setting, lists, splines, degree_pieces}
use Rattle.setting.proofs.Pieces.{degree_takes}
use Rattle.refusals.specs.declared.Refusal.{Refusal}
use Rattle.curve_nodes.specs.declared.Curve.{Curve}
use Rattle.curve_nodes.specs.Bounds.{Sized}
use Rattle.outline.specs.Checks.{Outlined, curves, faulty, outlined}
use Rattle.outline.proofs.Accepted.{outlined_from, accepted_most, accepted_some, accepted_all, accepted_pieces}
use Rattle.outline_binary64.specs.Lists.{wholes, outlined_binary64}
use Rattle.outline_binary64.proofs.Named.{whole_curves}
use Rattle.outline_splines.specs.Splines.{splined}
use Rattle.outline_splines.proofs.Accepted.{accepted, splines_some, splines_most, splines_sized, splines_cubic}
use Rattle.band_banded.proofs.Faults.{Early, outlined_early, binary64_early, splined_early}

-- curves that banding takes in a setting
pub record Taken (σ : Setting) (cs : List Curve) : Type 0 where
  pub some : 0 < length cs
  pub most : length cs ≤ σ.most
  pub sized : (c : Curve) → Memᴰ c cs → Sized 0 c
  pub takes : (c : Curve) → Memᴰ c cs → degree_pieces c.degree σ.pieces ≡ true

-- what is given: such curves, or a refusal of the checks before the walk
pub record Given (σ : Setting) (o : Outlined) : Type 0 where
  pub early : (r : Refusal) → o ≡ faulty r → Early r
  pub taken : (cs : List Curve) → o ≡ curves cs → Taken σ cs

pub outline_given : (σ : Setting) (ns : List ℤ) → Given σ (outlined σ.most σ.pieces ns)
outline_given σ ns = record {
  early = outlined_early σ.most σ.pieces ns;
  taken = λ cs e.
      let from = outlined_from σ.most σ.pieces ns cs e in
      record {
        some = accepted_some σ.most σ.pieces ns cs e;
        most = accepted_most σ.most σ.pieces ns cs e;
        sized = accepted_all σ.most σ.pieces ns 0 cs from;
        takes = accepted_pieces σ.most σ.pieces ns 0 cs from;
      };
}

-- an outline in binary64 gives the curves of the whole numbers read
pub binary64_given : (m : ℕ) (xs : List Float) → Given (lists m) (outlined_binary64 4096 m xs)
binary64_given m xs = record {
  early = binary64_early 4096 m xs;
  taken = λ cs e. (outline_given (lists m) (wholes xs)).taken cs (whole_curves 4096 m xs cs e);
}

pub spline_given : (m : ℕ) (ns : List ℤ) → Given (splines m) (splined ns)
spline_given m ns = record {
  early = splined_early ns;
  taken = λ cs e.
      let s = accepted ns cs e in
      record {
        some = splines_some s;
        most = splines_most s;
        sized = splines_sized s;
        takes = λ c i. (degree_takes c.degree m).1 (λ h. absurd (omega (arith, h, splines_cubic s c i)));
      };
}
