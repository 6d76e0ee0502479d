-- The records and the leaves of curves: how many numbers they are, and of curves among which one stands.
use mathlib.Core.Path.{◌≡◌, sym, ◌∙◌, ap}
use mathlib.Core.List.{List, [], ◌∷◌, ◌++◌, append_assoc}
use Prim.Native.Nat.{ℕ, suc, ◌+◌, ◌*◌}
use native.Mathlib.Omega.{arith}
use lib.ListN.{length, length-append}
use lib.IntN.{ℤ}
use Rattle.setting.specs.Setting.{Setting, record_length}
use Rattle.curve_nodes.specs.declared.Curve.{Curve}
use Rattle.walk_curve.specs.Walked.{ends_of}
use Rattle.band_records.specs.Records.{records_of, all_records}
use Rattle.band_records.proofs.Lengths.{records_length}
use Rattle.band_passes.specs.Leaves.{leaves_of}

pub all_records_length : (σ : Setting) (T : ℤ) (k : ℕ) (cs : List Curve) → length (all_records σ T k cs) ≡ record_length σ * leaves_of σ T cs
unfolding all_records leaves_of
all_records_length σ T k [] = omega arith
all_records_length σ T k (c ∷ cs) =
    omega (
      arith,
      length-append (records_of σ k c (ends_of σ T c)) (all_records σ T (suc k) cs),
      records_length σ k c (ends_of σ T c),
      all_records_length σ T (suc k) cs,
    )

module _ (σ : Setting) (T : ℤ) (c : Curve) (ds : List Curve) where
  pub records_among : (k : ℕ) (bs : List Curve) → all_records σ T k (bs ++ c ∷ ds)
      ≡ all_records σ T k bs ++ (records_of σ (k + length bs) c (ends_of σ T c) ++ all_records σ T (suc (k + length bs)) ds)
  unfolding all_records
  records_among k [] = ap (λ n. records_of σ n c (ends_of σ T c) ++ all_records σ T (suc n) ds) {x = k} {y = k + 0} (omega arith)
  records_among k (b ∷ bs) =
      ap (λ l. records_of σ k b (ends_of σ T b) ++ l) (records_among (suc k) bs)
      ∙ ap (λ n. records_of σ k b (ends_of σ T b)
      ++ (all_records σ T (suc k) bs ++ (records_of σ n c (ends_of σ T c) ++ all_records σ T (suc n) ds)))
      {x = suc k + length bs} {y = k + suc (length bs)} (omega arith)
      ∙ sym (append_assoc (records_of σ k b (ends_of σ T b)) (all_records σ T (suc k) bs)
      (records_of σ (k + suc (length bs)) c (ends_of σ T c) ++ all_records σ T (suc (k + suc (length bs))) ds))

  pub leaves_among : (bs : List Curve) → leaves_of σ T (bs ++ c ∷ ds) ≡ leaves_of σ T bs + (length (ends_of σ T c) + leaves_of σ T ds)
  unfolding leaves_of
  leaves_among [] = omega arith
  leaves_among (b ∷ bs) = omega (arith, leaves_among bs)
