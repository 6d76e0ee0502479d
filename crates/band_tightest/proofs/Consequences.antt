-- What a caller may conclude from the tightest band and from banding at a larger tolerance. Each law uses a conclusion of the theorems, so that a
-- weaker one is seen here.
use mathlib.Core.Path.{◌≡◌, sym, ◌∙◌, ap, subst}
use mathlib.Core.Bool.{true}
use mathlib.Core.Logic.{⊎_elim}
use mathlib.Core.List.{List, Memᴰ}
use Prim.Native.Nat.{ℕ, ◌*◌, ◌/◌, ◌^◌, ◌≤◌, ◌<◌}
use native.Mathlib.Nat.{le_refl, div-le_self, div-eq_of_lt}
use native.Mathlib.Omega.{arith}
use lib.Pow.{pow_mono}
use lib.IntN.{ℤ, pos}
use Rattle.std.specs.Prelude.{Some, None, Ok}
use lib.Signed.{◌≤ℤ◌}
use Rattle.setting.specs.Setting.{Setting, lists, record_length}
use Rattle.curve_nodes.specs.declared.Curve.{Curve}
use Rattle.outline.specs.Checks.{Outlined, tolerance_fine, curves, outlined}
use Rattle.walk_tree.specs.Leaves.{Leaf, Ancestor}
use Rattle.walk_curve.specs.Walked.{node_meets}
use Rattle.band_banded.specs.declared.banding.Banded.{Banded}
use Rattle.band_banded.specs.Banding.{done, banded}
use Rattle.band_tightest.specs.Tightest.{tightest}
use Rattle.band_tightest.specs.Looser.{Merged, StillAccepted}
use Rattle.band_tightest.proofs.Looser.{still_accepted}
use Rattle.band_tightest.proofs.Theorems.{least_exactly, nothing_exactly, fits_exactly}

-- ---- with room for R records
module _ (m : ℕ) (ns : List ℤ) (R : ℕ) where
  -- banding accepts at T
  abbrev pub AcceptedAt : ℕ → Type 0
  AcceptedAt T = (a : ℕ) × (b : ℕ) × (c : ℕ) × (banded (lists m) (pos T) ns (record_length (lists m) * R) ≡ done a b c)

  module _ {T : ℕ} (said : tightest (lists m) ns R ≡ Ok (Some T)) where
    pub tightest_accepted : (2 ≤ T) × (T ≤ 1048576) × AcceptedAt T
    tightest_accepted =
        let h = (least_exactly (lists m) ns R T).0 said in
        let f = h.2.fits in
        (f.low, f.high, (fits_exactly m ns R T f.low f.high h.0 h.1).0 f)

    pub none_tighter : (S : ℕ) → 2 ≤ S → S < T → AcceptedAt S → ⊥
    none_tighter S low less e =
        let h = (least_exactly (lists m) ns R T).0 said in
        let high = h.2.fits.high in
        omega (arith, less, h.2.least S ((fits_exactly m ns R S low (omega arith) h.0 h.1).1 e))

  pub none_accepted : tightest (lists m) ns R ≡ Ok None → (S : ℕ) → 2 ≤ S → S ≤ 1048576 → AcceptedAt S → ⊥
  none_accepted said S low high e =
      let h = (nothing_exactly (lists m) ns R).0 said in
      h.2 S ((fits_exactly m ns R S low high h.0 h.1).1 e)

-- ---- at a larger tolerance
-- an ancestor has no larger number, and node 1 has none
no_larger : {n e : ℕ} → Ancestor n e → n ≤ e
no_larger {n} {e} a = subst (λ i. i ≤ e) (sym a.is) (div-le_self e (2 ^ a.halvings))

none_above : {n : ℕ} → Ancestor n 1 → ⊥
none_above a =
    let two : 2 ^ 1 ≤ 2 ^ a.halvings = pow_mono a.some in
    let zero : 1 / 2 ^ a.halvings ≡ 0 = div-eq_of_lt (omega (arith, two)) in
    omega (arith, a.node, a.is ∙ zero)

module _ (σ : Setting) (T U : ℤ) (ns : List ℤ) (room a b c : ℕ) (larger : T ≤ℤ U) (fine : tolerance_fine U ≡ true)
    (accepted : banded σ T ns room ≡ done a b c) where
  still : StillAccepted σ T U (outlined σ.most σ.pieces ns) room a b
  still = still_accepted σ T U ns room a b c larger fine accepted

  -- what is reported there has as many curves and no more leaves
  pub no_more_leaves : (x l n : ℕ) → banded σ U ns room ≡ done x l n → (x ≡ a) × (l ≤ b)
  no_more_leaves x l n e = go (sym still.accepts ∙ e) still.fewer
    where
      go : {l' n' : ℕ} → done a l' n' ≡ done x l n → l' ≤ b → (x ≡ a) × (l ≤ b)
      go {l'} {n'} e h =
          let r : ◌≡◌ {A = Banded} (record { curves = a; leaves = l'; nodes = n' }) (record { curves = x; leaves = l; nodes = n }) = cc in
          let q : l' ≡ l = ap (λ (d : Banded). d.leaves) r in
          (sym (ap (λ (d : Banded). d.curves) r), omega arith)

  module _ (cs : List Curve) (given : outlined σ.most σ.pieces ns ≡ curves cs) (k : Curve) (i : Memᴰ k cs) where
    merged : Merged σ T U k
    merged = still.merged k (subst (Memᴰ k) (same given still.given) i)
      where
        same : {o : Outlined} {cs ds : List Curve} → o ≡ curves cs → o ≡ curves ds → cs ≡ ds
        same e f = cc

    -- a curve that was one leaf is one leaf
    pub whole_stays : Leaf (node_meets σ T k) 1 → Leaf (node_meets σ U k) 1
    whole_stays l = ⊎_elim (λ h. h) (λ h. absurd (none_above h.2)) (merged.into 1 l)

    -- a leaf at U has a leaf at T of no smaller number: itself, or one below it
    pub leaf_within : (n : ℕ) → Leaf (node_meets σ U k) n → (e : ℕ) × Leaf (node_meets σ T k) e × (n ≤ e)
    leaf_within n l = ⊎_elim (λ h. (n, h, le_refl n)) (λ h. (h.0, h.1, no_larger h.2)) (merged.from n l)
