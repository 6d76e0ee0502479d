-- What foretelling answers and leaves in the list, by what the checks find; one number a curve.
use mathlib.Core.Path.{◌≡◌, refl, sym, ◌∙◌, ap, ap₂}
use mathlib.Core.Bool.{true, false}
use mathlib.Core.List.{List, [], ◌∷◌}
use mathlib.Core.Option.{Option}
use Prim.Native.Nat.{ℕ, suc, ◌<◌}
use native.Mathlib.Omega.{arith}
use borrow.Author.Tests.{lt-ltb}
use lib.ListN.{length}
use lib.IntN.{ℤ}
use Rattle.std.specs.Prelude.{Result, Err}
use Rattle.setting.specs.Setting.{Setting, pieces_fine}
use Rattle.refusals.specs.declared.Refusal.{Refusal}
use Rattle.refusals.specs.declared.Refusal.TheVariants.{Tolerance, TooFewRecords, Pieces}
use Rattle.curve_nodes.specs.declared.Curve.{Curve}
use Rattle.outline.specs.Checks.{tolerance_fine, curves, outlined}
use Rattle.outline.specs.Inside.{checked_of}
use Rattle.outline.proofs.Accepted.{checked_refused}
use Rattle.band_passes.specs.Leaves.{curves_of}
use Rattle.band_foretold.specs.declared.foretelling.Foretold.{Foretold}
use Rattle.band_foretold.specs.Foretelling.{depths_of, depth_numbers, foretell_depths, foretold, numbers_written, depths_written}

-- ---- the depths of some curves
pub depths_length : (σ : Setting) (T : ℤ) (cs : List Curve) → length (depths_of σ T cs) ≡ length cs
unfolding depths_of
depths_length σ T [] = refl
depths_length σ T (c ∷ cs) = ap suc (depths_length σ T cs)

pub numbers_length : (os : List (Option ℕ)) → length (depth_numbers os) ≡ length os
unfolding depth_numbers
numbers_length [] = refl
numbers_length (o ∷ os) = ap suc (numbers_length os)

module _ (σ : Setting) (ns : List ℤ) (T : ℤ) where
  pub foretold_pieces : (room : ℕ) → pieces_fine σ.pieces ≡ false → Err Pieces ≡ foretold σ T ns room
  unfolding foretold
  foretold_pieces room f = rw (foretold, f)

  -- a refusal alters nothing
  pub unaltered : {r : Refusal} (l : List ℤ) → Err r ≡ foretold σ T ns (length l) → l ≡ depths_written σ T ns l
  unfolding depths_written
  unaltered l e = rw (sym e)

  module _ (rows : pieces_fine σ.pieces ≡ true) where
    pub foretold_tolerance : (room : ℕ) → tolerance_fine T ≡ false → Err Tolerance ≡ foretold σ T ns room
    unfolding foretold
    foretold_tolerance room f = rw (foretold, rows, f)

    module _ (fine : tolerance_fine T ≡ true) where
      pub foretold_faulty : {r : Refusal} (room : ℕ) → Err r ≡ checked_of (outlined σ.most σ.pieces ns) → Err r ≡ foretold σ T ns room
      unfolding foretold
      foretold_faulty {r} room e = rw (foretold, rows, fine, checked_refused (outlined σ.most σ.pieces ns) r (sym e))

      -- an outline whose curves are cs
      module _ (cs : List Curve) (is : outlined σ.most σ.pieces ns ≡ curves cs) where
        pub foretold_curves : (room : ℕ) → foretell_depths room (depths_of σ T cs) ≡ foretold σ T ns room
        unfolding foretold
        foretold_curves room = rw (foretold, rows, fine, is)

        pub foretold_few : {n : ℕ} → length cs ≡ n → (room : ℕ) → room < n → Err (TooFewRecords n) ≡ foretold σ T ns room
        unfolding foretell_depths
        foretold_few {n} count room h =
            let many : length (depths_of σ T cs) ≡ n = depths_length σ T cs ∙ count in
            sym (sym (foretold_curves room)
            ∙ rw (foretell_depths, lt-ltb room (length (depths_of σ T cs)) (omega (arith, many))) (ap (λ k. Err (TooFewRecords k)) many))

        pub written_curves : (l : List ℤ) {l' : List ℤ} (r : Result Foretold Refusal) → r ≡ foretold σ T ns (length l)
            → l' ≡ numbers_written r (depth_numbers (depths_of σ T cs)) l → l' ≡ depths_written σ T ns l
        unfolding depths_written
        written_curves l r f g = g ∙ ap₂ (λ q o. numbers_written q (depth_numbers (depths_of σ T (curves_of o))) l) f (sym is)
