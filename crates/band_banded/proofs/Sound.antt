-- The records of curves that banding takes are sound: they pass checks 9 and 10.
use mathlib.Core.Path.{◌≡◌, refl}
use mathlib.Core.Bool.{true}
use mathlib.Core.List.{List, [], ◌∷◌, Memᴰ}
use Prim.Native.Nat.{ℕ, suc, ◌+◌, ◌≤◌, ◌<◌}
use native.Mathlib.Omega.{arith}
use lib.ListN.{length}
use lib.IntN.{ℤ}
use Rattle.setting.specs.Setting.{Setting, HasRows, degree_pieces, deepest}
use Rattle.curve_nodes.specs.declared.Curve.{Curve}
use Rattle.curve_nodes.specs.Bounds.{Sized}
use Rattle.walk_curve.specs.Walked.{node_meets, ends_of}
use Rattle.walk_tree.proofs.Counting.{some_end}
use Rattle.band_records.specs.Records.{all_records}
use Rattle.band_records.specs.Ranges.{SoundList}
use Rattle.band_records.proofs.Sound.{leaf_sound, list_nil, list_append, list_records}
use Rattle.band_passes.specs.Leaves.{leaves_of}

-- ---- all curves
module _ (σ : Setting) (rows : HasRows σ.pieces) where
  pub curves_sound : (T : ℤ) (k : ℕ) (cs : List Curve) → k + length cs ≤ σ.most → ((c : Curve) → Memᴰ c cs → Sized 0 c)
      → ((c : Curve) → Memᴰ c cs → degree_pieces c.degree σ.pieces ≡ true) → SoundList σ (leaves_of σ T cs) (all_records σ T k cs)
  unfolding leaves_of all_records
  curves_sound T k [] few sized takes = list_nil
  curves_sound T k (c ∷ cs) few sized takes = list_append
      (list_records k c (ends_of σ T c)
      (λ n i. leaf_sound σ rows T k c n (omega arith) (sized c (Memᴰ.head refl)) (takes c (Memᴰ.head refl)) i))
      (curves_sound T (suc k) cs (omega arith) (λ d i. sized d (Memᴰ.tail i)) (λ d i. takes d (Memᴰ.tail i)))

-- ---- some leaves
pub curves_leaves : (σ : Setting) (T : ℤ) (cs : List Curve) → 0 < length cs → 0 < leaves_of σ T cs
unfolding leaves_of
curves_leaves σ T [] h = absurd (omega arith)
curves_leaves σ T (c ∷ cs) h = omega (arith, some_end (node_meets σ T c) (deepest c.degree) 1)
