-- What is answered, from what the checks find and from the tightest band of the curves.
use mathlib.Core.Path.{◌≡◌, sym}
use mathlib.Core.Bool.{true, false}
use mathlib.Core.List.{List}
use Prim.Native.Nat.{ℕ}
use lib.IntN.{ℤ}
use Rattle.std.specs.Prelude.{Err}
use Rattle.setting.specs.Setting.{Setting, pieces_fine}
use Rattle.refusals.specs.declared.Refusal.{Refusal}
use Rattle.refusals.specs.declared.Refusal.TheVariants.{Pieces}
use Rattle.curve_nodes.specs.declared.Curve.{Curve}
use Rattle.outline.specs.Checks.{outlined}
use Rattle.outline.specs.Inside.{checked_of}
use Rattle.outline.proofs.Accepted.{checked_refused}
use Rattle.band_tightest.specs.Tightest.{tightest_of, tightest}
use Rattle.band_tightest.specs.Fitting.{Fine}

module _ (σ : Setting) (ns : List ℤ) (R : ℕ) where
  pub answer_pieces : pieces_fine σ.pieces ≡ false → Err Pieces ≡ tightest σ ns R
  unfolding tightest
  answer_pieces f = rw (tightest, f)

  pub answer_faulty : {r : Refusal} → pieces_fine σ.pieces ≡ true → Err r ≡ checked_of (outlined σ.most σ.pieces ns)
      → Err r ≡ tightest σ ns R
  unfolding tightest
  answer_faulty {r} f e = rw (tightest, f, checked_refused (outlined σ.most σ.pieces ns) r (sym e))

  pub answer_curves : {cs : List Curve} → Fine σ ns cs → tightest_of σ cs R ≡ tightest σ ns R
  unfolding tightest
  answer_curves f = rw (tightest, f.pieces, f.outline)
