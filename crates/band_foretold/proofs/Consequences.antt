-- What a caller may conclude from foretelling. Each law uses a conclusion of the theorems, so that a weaker one is seen here.
use mathlib.Core.Path.{◌≡◌, refl, sym, subst}
use mathlib.Core.List.Memᴰ
use mathlib.Core.List.{List, [], ◌∷◌, ◌++◌, Memᴰ}
use mathlib.Core.Option.{some}
use Prim.Native.Nat.{ℕ, ◌*◌, ◌≤◌, ◌<◌}
use native.Mathlib.Nat.{le_refl}
use lib.Dec.{lit≤, lit<}
use lib.ListN.{length}
use lib.IntN.{ℤ, pos, negsuc}
use Rattle.integers.specs.Entry.{entry}
use Rattle.setting.specs.Setting.{Setting, lists, record_length, deepest}
use Rattle.refusals.specs.declared.Refusal.TheVariants.{TooWide, TooFewRecords}
use Rattle.curve_nodes.specs.declared.Curve.{Curve}
use Rattle.curve_nodes.specs.Nodes.{depth}
use Rattle.walk_curve.specs.Walked.{ends_of}
use Rattle.walk_depths.specs.Premise.{Flat}
use Rattle.walk_depths.specs.Depth.{depth_of}
use Rattle.std.specs.Prelude.{Err}
use Rattle.band_banded.specs.Banding.{done, banded}
use Rattle.band_banded.specs.Outcomes.{Faultless}
use Rattle.band_banded.proofs.Theorems.{few_exactly, done_exactly, leaf_at_most}
use Rattle.band_banded.proofs.Computing.{reading, computing as banding}
use Rattle.band_foretold.specs.Foretelling.{told, foretold, depths_written}
use Rattle.band_foretold.specs.Outcomes.{Tells, Foretells}
use Rattle.band_foretold.proofs.Theorems.{told_each, leaf_foretold, foretells}
use Rattle.band_foretold.proofs.Computing.{computing}
use Rattle.band_foretold.proofs.Examples.{bow, bow_at_44}

-- ---- where leaves are foretold, and so many records are lent
module _ (m : ℕ) (T : ℤ) (ns : List ℤ) (lent a b : ℕ) (said : foretold (lists m) T ns lent ≡ told a b) (some : 0 < a) where
  claim : Foretells (lists m) T ns a b
  claim = foretells (lists m) T ns lent a b said some

  -- banding accepts, and reports no more of either
  pub band_fits : (x : ℕ) × (y : ℕ) × (z : ℕ) × (banded (lists m) T ns (record_length (lists m) * a) ≡ done x y z) × (y ≤ a) × (z ≤ b)
  band_fits =
      let d = claim.accepts (record_length (lists m) * a) (lit≤ tt) (le_refl (record_length (lists m) * a)) in
      let n = claim.no_more (record_length (lists m) * a) d.0 d.1 d.2 d.3 in
      (d.0, d.1, d.2, d.3, n.0, n.1)

  -- and 8, to whatever shorter list, names no more leaves
  pub spot_at_most : (room l : ℕ) → banded (lists m) T ns room ≡ Err (TooFewRecords l) → l ≤ a
  spot_at_most room l e =
      let w = (few_exactly (lists m) T ns room l).0 e in
      let s = w.2 in
      (claim.no_more (record_length (lists m) * l) (length w.0) l _
      ((done_exactly (lists m) T ns (record_length (lists m) * l) (length w.0) l _).1 (
        w.0,
        w.1,
        record {
          meet = s.meet;
          taken = s.taken;
          enough = rw s.leaves (le_refl (record_length (lists m) * l));
          curves = refl;
          leaves = s.leaves;
          nodes = refl;
        },
      ))).0

-- ---- the number of a curve in the list
module _ (σ : Setting) (T : ℤ) (ns : List ℤ) (cs : List Curve) (f : Faultless σ T ns cs) (old : List ℤ) (room : length cs ≤ length old)
    (before : List Curve) (c : Curve) (after : List Curve) (split : cs ≡ before ++ c ∷ after) where
  -- −1: no depth up to the greatest meets the premise
  pub minus_one : entry (depths_written σ T ns old) (length before) ≡ negsuc 0 → (j : ℕ) → j ≤ deepest c.degree → Flat σ T c j → ⊥
  minus_one e = (subst (Tells σ T c) e (told_each σ T ns cs f old room before c after split)).1.none

  -- j: it meets the premise, and no lesser depth does
  pub least_told : (j : ℕ) → entry (depths_written σ T ns old) (length before) ≡ pos j → Flat σ T c j × ((k : ℕ) → k < j → Flat σ T c k → ⊥)
  least_told j e = let t = subst (Tells σ T c) e (told_each σ T ns cs f old room before c after split) in (t.flat, t.no_less)

  -- and no leaf of the curve is deeper
  pub leaf_told : (j : ℕ) → entry (depths_written σ T ns old) (length before) ≡ pos j → (n : ℕ) → Memᴰ n (ends_of σ T c) → depth n ≤ j
  leaf_told j e =
      let member = subst (Memᴰ c) (sym split) (Memᴰ.append_right before (Memᴰ.head refl)) in
      leaf_at_most σ T ns cs f c member j (least_told j e).0

-- ---- curve A and its chord at T 44: three leaves and four nodes are foretold
abbrev A : Curve
A = record {
  degree = 3;
  x = pos 0 ∷ pos 10 ∷ pos 20 ∷ pos 30 ∷ pos 0 ∷ pos 0 ∷ [];
  y = pos 0 ∷ pos 30 ∷ pos 30 ∷ pos 0 ∷ pos 0 ∷ pos 0 ∷ [];
}

abbrev chord : Curve
chord = record {
  degree = 1;
  x = pos 30 ∷ pos 0 ∷ pos 0 ∷ pos 0 ∷ pos 0 ∷ pos 0 ∷ [];
  y = pos 0 ∷ pos 0 ∷ pos 0 ∷ pos 0 ∷ pos 0 ∷ pos 0 ∷ [];
}

pub bow_never_wide : (room k n : ℕ) → banded (lists 3) (pos 44) bow room ≡ Err (TooWide k n) → ⊥
bow_never_wide = (claim 3 (pos 44) bow 2 3 4 bow_at_44 (lit< tt)).no_wide

pub bow_fits_54 : (l : ℕ) → banded (lists 3) (pos 44) bow 54 ≡ Err (TooFewRecords l) → ⊥
bow_fits_54 l = (claim 3 (pos 44) bow 2 3 4 bow_at_44 (lit< tt)).no_few 54 l (lit≤ tt)

bow_faultless : Faultless (lists 3) (pos 44) bow (A ∷ chord ∷ [])
unfolding reading
bow_faultless = record { pieces = refl; tolerance = refl; outline = refl }

deep_one : depth_of (lists 3) (pos 44) A ≡ some 1
unfolding computing
deep_one = refl

-- no leaf of A is deeper than 1
pub a_at_most_1 : (n : ℕ) → Memᴰ n (ends_of (lists 3) (pos 44) A) → depth n ≤ 1
a_at_most_1 = leaf_foretold (lists 3) (pos 44) bow (A ∷ chord ∷ []) bow_faultless A (Memᴰ.head refl) 1 deep_one

-- ---- a line at T 2 has no depth, although banding accepts it
abbrev line : List ℤ
line = pos 1 ∷ pos 0 ∷ pos 0 ∷ pos 0 ∷ pos 1 ∷ []

pub line_told_none : foretold (lists 3) (pos 2) line 1 ≡ told 0 0
unfolding computing
line_told_none = refl

pub line_accepted : banded (lists 3) (pos 2) line 18 ≡ done 1 1 1
unfolding banding
line_accepted = refl
