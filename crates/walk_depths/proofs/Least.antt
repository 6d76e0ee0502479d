-- The depth of a curve is what its name says: it is not past the greatest depth, it meets the premise, and no lesser one does; where there is none,
-- no depth up to the greatest meets it. What one depth meets, every deeper one meets.
use mathlib.Core.Path.{◌≡◌, refl, sym, ◌∙◌, ap}
use mathlib.Core.Bool.{Bool, true, false, not}
use mathlib.Core.Logic.{◌↔◌, ⊎_elim}
use mathlib.Core.List.{[], ◌∷◌}
use mathlib.Core.Option.{Option, none, some}
use Prim.Native.Nat.{ℕ, zero, suc, ◌+◌, ◌*◌, ◌^◌, ◌≤◌, zero-le}
use native.Mathlib.Nat.{add-zero, zero-add, le_trans, mul_assoc, pow-suc, eq-or-lt_of_le}
use native.Mathlib.Omega.{arith}
use lib.IntN.{ℤ, pos, ◌+ℤ◌, ◌*ℤ◌}
use lib.Signed.{◌≤ℤ◌}
use Rattle.integers.specs.Squares.{squared}
use Rattle.integers.proofs.First.{bad_is, bad_below, bad_first, none_bad, bad_none}
use Rattle.integers.proofs.Order.{lt_or_ge, natural, gap, ◌+₀◌, ◌×₀◌, le_by}
use Rattle.integers.proofs.Ranges.{yes_le, le_yes}
use Rattle.integers.proofs.Ring.{sides}
use Rattle.setting.specs.Setting.{Setting, scale, deepest}
use Rattle.setting.proofs.Depths.{deepest_most}
use Rattle.curve_nodes.specs.declared.Curve.{Curve}
use Rattle.curve_nodes.specs.Differences.{largest}
use Rattle.bound_rows.specs.Rule.{gap_of}
use Rattle.walk_tree.proofs.Tree.{either, not_both}
use Rattle.walk_depths.specs.Premise.{Flat, is_flat}
use Rattle.walk_depths.specs.Depth.{depth_of, IsDepth, NoDepth}

flipped : {b c : Bool} → not b ≡ c → b ≡ not c
flipped {b = true} e = ap not e
flipped {b = false} e = ap not e

module _ (σ : Setting) (T : ℤ) (c : Curve) where
  abbrev missed : ℕ → Bool
  missed j = not (is_flat σ T c j)

  missing : (j : ℕ) → (Flat σ T c j → ⊥) → missed j ≡ true
  missing j never = ⊎_elim (λ e. absurd (never (le_yes e))) (λ e. ap not e) (either (is_flat σ T c j))

  -- ---- it is the least
  pub depth_least : (j : ℕ) → depth_of σ T c ≡ some j → IsDepth σ T c j
  unfolding depth_of
  depth_least j e = record {
    within = omega (arith, bad_below missed (deepest c.degree + 1) 0 j e);
    flat = le_yes (flipped (bad_is missed (deepest c.degree + 1) 0 j e));
    no_less = λ k h f. not_both (yes_le f) (flipped (bad_first missed (deepest c.degree + 1) 0 j e k zero-le h));
  }

  pub depth_none : depth_of σ T c ≡ none → NoDepth σ T c
  unfolding depth_of
  depth_none e = record {
    none = λ j h f.
        let m = none_bad missed (deepest c.degree + 1) 0 e j (omega arith) in
        not_both (yes_le f) (flipped (rw zero-add at m));
  }

  -- ---- and the least is it
  pub none_exactly : (depth_of σ T c ≡ none) ↔ NoDepth σ T c
  unfolding depth_of
  none_exactly = (depth_none, λ n. bad_none missed (deepest c.degree + 1) 0 (λ k h. rw zero-add (missing k (n.none k (omega arith)))))

  pub depth_exactly : (j : ℕ) → (depth_of σ T c ≡ some j) ↔ IsDepth σ T c j
  depth_exactly j = (depth_least j, λ l. go l (depth_of σ T c) refl)
    where
      go : IsDepth σ T c j → (o : Option ℕ) → depth_of σ T c ≡ o → depth_of σ T c ≡ some j
      go l none e = absurd ((depth_none e).none j l.within l.flat)
      go l (some k) e =
          let d = depth_least k e in
          ⊎_elim (λ h. absurd (l.no_less k h d.flat))
          (λ h. ⊎_elim (λ q. e ∙ ap some (sym q)) (λ m. absurd (d.no_less j m l.flat)) (eq-or-lt_of_le {n = j} {m = k} h)) (lt_or_ge k j)

  pub depth_eight : (j : ℕ) → depth_of σ T c ≡ some j → j ≤ 8
  depth_eight j e = le_trans (depth_least j e).within (deepest_most c.degree)

  -- ---- what one depth meets, the next meets: with X = 16 G M,
  -- (40000 T P)² − 2 (X + 80000 P)² = 16 ((10000 T P)² − 2 (X + 20000 P)²) + 30 X² + 960000 X P
  finer : (P : ℕ) → let G = gap_of σ.pieces c.degree in
      (pos 2 *ℤ squared (pos 16 *ℤ pos G *ℤ pos (largest c) +ℤ pos 20000 *ℤ pos P)) ≤ℤ squared (pos 10000 *ℤ T *ℤ pos P)
      → (pos 2 *ℤ squared (pos 16 *ℤ pos G *ℤ pos (largest c) +ℤ pos 20000 *ℤ pos (P * 4))) ≤ℤ squared (pos 10000 *ℤ T *ℤ pos (P * 4))
  finer P h =
      let x = natural (16 * gap_of σ.pieces c.degree * largest c) in
      le_by (pos (gap_of σ.pieces c.degree) ∷ pos (largest c) ∷ T ∷ pos P ∷ [])
      (natural 16 ×₀ gap h +₀ natural 30 ×₀ (x ×₀ x) +₀ natural 960000 ×₀ (x ×₀ natural P)) (search sides depth 40 fits 9999) refl

  deeper : (j : ℕ) → Flat σ T c j → Flat σ T c (suc j)
  deeper j f =
      let four : scale σ * 4 ^ j * 4 ≡ scale σ * 4 ^ suc j = mul_assoc (scale σ) (4 ^ j) 4 ∙ ap (λ n. scale σ * n) (sym (pow-suc 4 j)) in
      let g = finer (scale σ * 4 ^ j) f in rw four at g

  pub flat_onward : (j n : ℕ) → Flat σ T c j → Flat σ T c (j + n)
  flat_onward j zero f = rw add-zero f
  flat_onward j (suc n) f = let m : j + suc n ≡ suc (j + n) = omega arith in rw m (deeper (j + n) (flat_onward j n f))
