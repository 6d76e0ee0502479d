-- What a caller may conclude from the theorems of banding. Each law uses a definition in which one of them ends, so that a weaker one is seen here.
use mathlib.Core.Path.{◌≡◌, refl, sym, ◌∙◌, ap, subst}
use mathlib.Core.Bool.{false}
use mathlib.Core.List.Memᴰ
use mathlib.Core.List.{List, [], ◌∷◌, Memᴰ}
use Prim.Native.Nat.{ℕ, ◌*◌, ◌≤◌, ◌<◌}
use lib.Dec.{lit<}
use lib.ListN.{length}
use lib.IntN.{ℤ}
use Rattle.integers.specs.Entry.{entry}
use Rattle.setting.specs.Setting.{Setting, lists, station, record_length, deepest}
use Rattle.refusals.specs.declared.Refusal.TheVariants.{TooWide, TooManyLeaves}
use Rattle.curve_nodes.specs.declared.Curve.{Curve}
use Rattle.curve_nodes.specs.Nodes.{depth}
use Rattle.outline.specs.Checks.{Outlined, curves, outlined}
use Rattle.walk_tree.specs.Leaves.{Ancestor}
use Rattle.walk_curve.specs.Walked.{node_meets}
use Rattle.std.specs.Prelude.{Err}
use Rattle.band_banded.specs.Banding.{done, banded, written}
use Rattle.band_banded.proofs.Theorems.{wide_exactly}
use Rattle.band_banded.proofs.Station.{station_agrees}

-- ---- the bench station beside a caller who gives lists
module _ (m : ℕ) (T : ℤ) (ns old : List ℤ) (a b c : ℕ) where
  -- lists accept with 64 curves and 128 leaves at most: the station reports the same, and leaves the same at each place of the lent list
  module _ (accepted : banded (lists m) T ns (length old) ≡ done a b c) (few : a ≤ 64) (taken : b ≤ 128) where
    pub station_reports : banded (station m) T ns (length old) ≡ done a b c
    station_reports = ((station_agrees m T ns old).accepts a b c).1 (accepted, few, taken)

    pub station_leaves : (i : ℕ) → entry (written (station m) T ns old) i ≡ entry (written (lists m) T ns old) i
    station_leaves i = ap (λ rs. entry rs i) ((station_agrees m T ns old).writes a b c station_reports)

  -- what the station accepts, lists accept
  pub lists_report : banded (station m) T ns (length old) ≡ done a b c → banded (lists m) T ns (length old) ≡ done a b c
  lists_report accepted = (((station_agrees m T ns old).accepts a b c).0 accepted).0

  -- lists accept with 129 leaves, where they have room for them: the station refuses with 19, whatever is lent
  pub station_refuses : banded (lists m) T ns (record_length (lists m) * 129) ≡ done a 129 c → a ≤ 64
      → banded (station m) T ns (length old) ≡ Err (TooManyLeaves 129)
  station_refuses accepted few = ((station_agrees m T ns old).refuses 129).1 (a, c, accepted, few, lit< tt)

-- the station never refuses 128 leaves with 19
pub station_takes : (m : ℕ) (T : ℤ) (ns old : List ℤ) (l : ℕ) → banded (station m) T ns (length old) ≡ Err (TooManyLeaves l) → 128 < l
station_takes m T ns old l e = (((station_agrees m T ns old).refuses l).0 e).4

-- ---- 7 of an outline that is one curve: the node has the greatest depth of the curve's degree, and no longer stretch met T
pub wide_deepest : (σ : Setting) (T : ℤ) (ns : List ℤ) (room : ℕ) (c : Curve) → outlined σ.most σ.pieces ns ≡ curves (c ∷ [])
    → (k n : ℕ) → banded σ T ns room ≡ Err (TooWide k n)
    → (depth n ≡ deepest c.degree) × ((a : ℕ) → Ancestor a n → node_meets σ T c a ≡ false)
wide_deepest σ T ns room c o k n e =
    let h = (wide_exactly σ T ns room k n).0 e in
    let w = h.2 in
    let member = subst (Memᴰ w.curve) (sym w.split ∙ same h.1.outline o) (Memᴰ.append_right w.front (Memᴰ.head refl)) in
    let is = Memᴰ.eq_of_singleton member in
    (subst (λ d. depth n ≡ deepest d.degree) is w.last, subst (λ d. (a : ℕ) → Ancestor a n → node_meets σ T d a ≡ false) is w.reached)
  where
    same : {p : Outlined} {cs ds : List Curve} → p ≡ curves cs → p ≡ curves ds → cs ≡ ds
    same e f = cc
