-- Banding at a larger tolerance of the span. A node that meets T meets every larger one, so curves have no more leaves, nothing is too wide where
-- nothing was, and each leaf is a leaf at T or an ancestor of leaves there. At the largest tolerance nothing is too wide.
use mathlib.Core.Path.{◌≡◌, refl}
use mathlib.Core.Bool.{true}
use mathlib.Core.Logic.{inl, inr, ⊎_elim}
use mathlib.Core.List.{List, [], ◌∷◌, Memᴰ}
use Prim.Native.Nat.{ℕ, ◌≤◌}
use native.Mathlib.Nat.{le_refl, le_trans, mul-le-mul}
use native.Mathlib.Omega.{arith}
use lib.IntN.{ℤ, pos}
use Rattle.std.specs.Prelude.{Err}
use lib.Signed.{◌≤ℤ◌}
use Rattle.setting.specs.Setting.{Setting, splines, pieces_fine, record_length, deepest}
use Rattle.setting.proofs.Pieces.{fine_has_rows}
use Rattle.integers.proofs.Order.{NonNeg, nonneg, pos_le, ≤ℤ_trans}
use Rattle.integers.proofs.Between.{between_low}
use Rattle.refusals.specs.declared.Refusal.TheVariants.{TooWide}
use Rattle.curve_nodes.specs.declared.Curve.{Curve}
use Rattle.curve_nodes.specs.Nodes.{depth, node_curve}
use Rattle.bound_node.proofs.Narrow.{meets_looser}
use Rattle.outline.specs.Checks.{Outlined, tolerance_fine, curves, outlined}
use Rattle.walk_tree.proofs.Tree.{not_both}
use Rattle.walk_tree.proofs.Looser.{fewer_ends, passing_kept, end_or_above, end_or_below}
use Rattle.walk_curve.specs.Walked.{node_meets, ends_of}
use Rattle.walk_depths.proofs.Widest.{widest_passes}
use Rattle.band_passes.specs.Leaves.{leaves_of, nodes_of}
use Rattle.band_passes.specs.FirstWide.{AllMeet}
use Rattle.band_banded.specs.Banding.{done, band_given, banded, banded_spline}
use Rattle.band_banded.proofs.Given.{Given, outline_given, spline_given}
use Rattle.band_banded.proofs.Theorems.{wide_given, done_given, leaves_exactly}
use Rattle.outline_splines.specs.Splines.{splined}
use Rattle.band_tightest.specs.Looser.{Merged, StillAccepted}

-- ---- the curves of a list
module _ (σ : Setting) {T U : ℤ} (some : NonNeg T) (larger : T ≤ℤ U) where
  node_looser : (c : Curve) (n : ℕ) → node_meets σ T c n ≡ true → node_meets σ U c n ≡ true
  node_looser c n = meets_looser σ some larger (depth n) (node_curve c n)

  pub leaves_fewer : (cs : List Curve) → leaves_of σ U cs ≤ leaves_of σ T cs
  unfolding leaves_of
  leaves_fewer [] = omega arith
  leaves_fewer (c ∷ cs) = omega (
    arith,
    fewer_ends (node_meets σ T c) (node_meets σ U c) (node_looser c) (deepest c.degree) 1,
    leaves_fewer cs,
  )

  pub meet_kept : {cs : List Curve} → AllMeet σ T cs → AllMeet σ U cs
  meet_kept m = record {
    each = λ c i. passing_kept (node_meets σ T c) (node_meets σ U c) (node_looser c) (deepest c.degree) 1 (m.each c i);
  }

  merged : (cs : List Curve) → AllMeet σ T cs → (c : Curve) → Memᴰ c cs → Merged σ T U c
  merged cs meet c i =
      let at = leaves_exactly σ T cs meet c i in
      let at' = leaves_exactly σ U cs (meet_kept meet) c i in record {
        from = λ n l. ⊎_elim
            (λ h. inl ((at n).0 h))
            (λ h. inr (h.0, (at h.0).0 h.1, h.2))
            (end_or_above (node_meets σ T c) (node_meets σ U c) (node_looser c) (deepest c.degree) n ((at' n).1 l));
        into = λ e l. ⊎_elim
            (λ h. inl ((at' e).0 h))
            (λ h. inr (h.0, (at' h.0).0 h.1, h.2))
            (end_or_below (node_meets σ T c) (node_meets σ U c) (node_looser c) (deepest c.degree) e ((at e).1 l));
      }

-- ---- what is given to banding
-- a tolerance of the span is not negative
fine_some : {T : ℤ} → tolerance_fine T ≡ true → NonNeg T
fine_some {T} f = nonneg (≤ℤ_trans (pos_le {m = 0} {n = 2} (omega arith)) (between_low (pos 2) (pos 1048576) T f))

module _ (σ : Setting) {o : Outlined} (given : Given σ o) where
  given_accepted : (T U : ℤ) (room a b c : ℕ) → T ≤ℤ U → tolerance_fine U ≡ true → band_given σ T o room ≡ done a b c
      → StillAccepted σ T U o room a b
  given_accepted T U room a b c larger fine e =
      let h = (done_given σ T given room a b c).0 e in
      let cs = h.0 in
      let f = h.1 in
      let r = h.2 in
      let some = fine_some f.tolerance in
      let fewer = leaves_fewer σ some larger cs in
      let less = mul-le-mul (le_refl (record_length σ)) fewer in record {
        leaves = leaves_of σ U cs;
        nodes = nodes_of σ U cs;
        accepts = (done_given σ U given room a (leaves_of σ U cs) (nodes_of σ U cs)).1 (
          cs,
          record { pieces = f.pieces; tolerance = fine; outline = f.outline },
          record {
            meet = meet_kept σ some larger r.meet;
            taken = le_trans fewer r.taken;
            enough = le_trans less r.enough;
            curves = r.curves;
            leaves = refl;
            nodes = refl;
          },
        );
        fewer = omega (arith, fewer, r.leaves);
        all = cs;
        given = f.outline;
        merged = merged σ some larger cs r.meet;
      }

  -- at the largest tolerance nothing is too wide
  pub widest_meets : {cs : List Curve} → pieces_fine σ.pieces ≡ true → o ≡ curves cs → AllMeet σ (pos 1048576) cs
  widest_meets {cs} fine e =
      let t = given.taken cs e in
      record { each = λ c i. widest_passes σ (fine_has_rows σ.pieces fine) c (t.sized c i) (t.takes c i) }

  given_never_wide : (room k n : ℕ) → band_given σ (pos 1048576) o room ≡ Err (TooWide k n) → ⊥
  given_never_wide room k n e =
      let h = (wide_given σ (pos 1048576) given room k n).0 e in
      let w = h.2 in
      let here : Memᴰ w.curve h.0 = rw w.split (mathlib.Core.List.Memᴰ.append_right w.front (mathlib.Core.List.Memᴰ.head refl)) in
      let end : Memᴰ n (ends_of σ (pos 1048576) w.curve) = rw w.first.split (mathlib.Core.List.Memᴰ.append_right w.first.front (mathlib.Core.List.Memᴰ.head refl)) in
      not_both (((widest_meets h.1.pieces h.1.outline).each w.curve here).each n end) w.first.fails

-- ---- an outline, in every setting
pub still_accepted : (σ : Setting) (T U : ℤ) (ns : List ℤ) (room a b c : ℕ) → T ≤ℤ U → tolerance_fine U ≡ true → banded σ T ns room ≡ done a b c
    → StillAccepted σ T U (outlined σ.most σ.pieces ns) room a b
still_accepted σ T U ns = given_accepted σ (outline_given σ ns) T U

pub never_wide : (σ : Setting) (ns : List ℤ) (room k n : ℕ) → banded σ (pos 1048576) ns room ≡ Err (TooWide k n) → ⊥
never_wide σ ns = given_never_wide σ (outline_given σ ns)

-- ---- a B-spline
pub spline_still_accepted : (m : ℕ) (T U : ℤ) (ns : List ℤ) (room a b c : ℕ) → T ≤ℤ U → tolerance_fine U ≡ true → banded_spline m T ns room ≡ done a b c
    → StillAccepted (splines m) T U (splined ns) room a b
spline_still_accepted m T U ns = given_accepted (splines m) (spline_given m ns) T U

pub spline_never_wide : (m : ℕ) (ns : List ℤ) (room k n : ℕ) → banded_spline m (pos 1048576) ns room ≡ Err (TooWide k n) → ⊥
spline_never_wide m ns = given_never_wide (splines m) (spline_given m ns)
