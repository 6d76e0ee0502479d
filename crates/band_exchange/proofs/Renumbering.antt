-- The records of a curve given by itself, which is curve 0, renumbered: they are those of curve k.
use mathlib.Core.Path.{◌≡◌, refl, sym, ◌∙◌, ap}
use mathlib.Core.List.{List, [], ◌∷◌, ◌++◌}
use Prim.Native.Nat.{ℕ, suc, ◌+◌}
use native.Mathlib.Omega.{arith}
use lib.ListN.{length, set}
use lib.Seq.{sets, set-set}
use lib.IntN.{ℤ, pos}
use Rattle.setting.specs.Setting.{Setting, break_points, record_length}
use Rattle.integers.proofs.Stores.{sets_append}
use Rattle.curve_nodes.specs.declared.Curve.{Curve}
use Rattle.curve_nodes.specs.Nodes.{depth, node_curve}
use Rattle.band_records.specs.Records.{boxes_to, record_of, records_of}
use Rattle.band_records.proofs.Lengths.{record_length_law}
use Rattle.band_exchange.specs.Inside.{renumbered}
use Rattle.band_exchange.proofs.Moves.{store_before}

-- ---- one record on
module _ (l : List ℤ) (at long k : ℕ) where
  pub renumbered_none : renumbered l at long 0 k ≡ l
  unfolding renumbered
  renumbered_none = refl

  pub renumbered_next : (n : ℕ) → renumbered l at long (suc n) k ≡ renumbered (set l at (pos k)) (at + long) long n k
  unfolding renumbered
  renumbered_next n = refl

module _ (σ : Setting) (c : Curve) (k : ℕ) where
  -- what stands behind the number of a curve
  abbrev rest : ℕ → List ℤ
  rest n = pos n ∷ boxes_to σ (break_points σ) (depth n) (node_curve c n)

  record_is : (j n : ℕ) → record_of σ j c n ≡ pos j ∷ rest n
  unfolding record_of
  record_is j n = refl

  rest_long : (n : ℕ) → suc (length (rest n)) ≡ record_length σ
  rest_long n = ap length (sym (record_is 0 n)) ∙ record_length_law σ 0 c n

  pub renumbered_records : (ns : List ℕ) (l : List ℤ) (at : ℕ)
      → renumbered (sets l at (records_of σ 0 c ns)) at (record_length σ) (length ns) k ≡ sets l at (records_of σ k c ns)
  unfolding records_of
  renumbered_records [] l at = renumbered_none l at (record_length σ) k
  renumbered_records (n ∷ ns) l at =
      let l' = sets (set l at (pos k)) (suc at) (rest n) in
      let on : suc at + length (rest n) ≡ at + record_length σ = omega (arith, rest_long n) in
      ap (λ r. renumbered (sets l at (r ++ records_of σ 0 c ns)) at (record_length σ) (suc (length ns)) k) (record_is 0 n)
      ∙ renumbered_next (sets (set l at (pos 0)) (suc at) (rest n ++ records_of σ 0 c ns)) at (record_length σ) k (length ns)
      ∙ ap (λ q. renumbered q (at + record_length σ) (record_length σ) (length ns) k)
      (store_before (rest n ++ records_of σ 0 c ns) (set l at (pos 0)) (suc at) at (pos k) (omega arith)
      ∙ ap (λ q. sets q (suc at) (rest n ++ records_of σ 0 c ns)) (set-set l at (pos 0) (pos k))
      ∙ sets_append (set l at (pos k)) (suc at) (rest n) (records_of σ 0 c ns)
      ∙ ap (λ i. sets l' i (records_of σ 0 c ns)) on)
      ∙ renumbered_records ns l' (at + record_length σ)
      ∙ ap (λ i. sets l' i (records_of σ k c ns)) (sym on)
      ∙ sym (sets_append (set l at (pos k)) (suc at) (rest n) (records_of σ k c ns))
      ∙ ap (λ r. sets l at (r ++ records_of σ k c ns)) (sym (record_is k n))
