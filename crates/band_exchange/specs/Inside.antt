-- For contracts inside the engine alone, no part of a public promise: numbers moved in a list, records renumbered, and
-- where the records of one curve stand among those of an outline.
use Rattle.std.specs.Prelude.{◌≡◌, false, List, ◌∷◌, ◌++◌, ℕ, zero, suc, ◌+◌, ◌*◌, ◌≤◌, ◌<◌, length, take}
use Rattle.std.specs.Prelude.{drop, set, ℤ, pos, Result}
use Rattle.refusals.specs.declared.Refusal.{Refusal}
use Rattle.std.proofs.lemmas.List.Edits.{sets}
use Rattle.setting.specs.Setting.{Setting, record_length}
use Rattle.curve_nodes.specs.declared.Curve.{Curve}
use Rattle.outline.specs.Checks.{curves, outlined}
use Rattle.outline.specs.Places.{place_of}
use Rattle.outline_changed.specs.Changed.{changed}
use Rattle.walk_curve.specs.Walked.{ends_of}
use Rattle.band_records.specs.Records.{all_records}
use Rattle.band_passes.specs.Leaves.{leaves_of}
use Rattle.band_passes.specs.FirstWide.{AllMeet}
use Rattle.band_comparing.specs.declared.Stand.{Stand}
use Rattle.band_banded.specs.declared.banding.Banded.{Banded}
use Rattle.band_banded.specs.Banding.{band_curves, band_outlined, written_by}
use Rattle.band_exchanged.specs.Exchange.{records_for, other_records, exchanged_after}

-- ---- the n numbers from index `from` on, stored from index `to` on
abbrev pub moved_to : List ℤ → (from to n : ℕ) → List ℤ
moved_to l from to n = sets l to (take n (drop from l))

-- ---- n records of so many numbers, the first at index `at`: the first number of each is k
unfoldable pub renumbered : List ℤ → (at long n k : ℕ) → List ℤ
renumbered l at long zero k = l
renumbered l at long (suc n) k = renumbered (set l at (pos k)) (at + long) long n k

-- ---- at the front of a list, up to index `whole`, stand the records of n curves; those of curve k from `place` up to
-- `end`
pub record Front (σ : Setting) (T : ℤ) (l : List ℤ) (n whole k place end : ℕ) : Type 0 where
  pub before : List Curve
  pub curve : Curve
  pub after : List Curve
  pub records : take whole l ≡ all_records σ T 0 (before ++ curve ∷ after)
  pub count : length (before ++ curve ∷ after) ≡ n
  pub few : n ≤ 4096
  pub all : whole ≡ record_length σ * leaves_of σ T (before ++ curve ∷ after)
  pub number : length before ≡ k
  pub here : place ≡ record_length σ * leaves_of σ T before
  pub over : end ≡ place + record_length σ * length (ends_of σ T curve)
  pub room : whole ≤ length l
  pub meet_before : AllMeet σ T before
  pub meet_after : AllMeet σ T after

-- curve k given way to another, whatever the curves are that Front speaks of: the answer, and the list afterwards
pub record Replaced (σ : Setting) (T : ℤ) (l : List ℤ) (n whole k place end : ℕ) (c : Curve) (r : Result Banded Refusal)
    (l' : List ℤ) : Type 0 where
  pub answer : (f : Front σ T l n whole k place end) → r ≡ band_curves σ T (f.before ++ c ∷ f.after) (length l)
  pub list : (f : Front σ T l n whole k place end)
      → l' ≡ written_by r (all_records σ T 0 (f.before ++ c ∷ f.after)) l

-- ---- an outline that passed all of its own checks: it has n curves, and one of number k, which stands at `first`; the
-- curve after it stands at `second`. The outline's records are the first `whole` numbers of the lent list.
pub record Exchangeable (σ : Setting) (T : ℤ) (ns : List ℤ) (n k : ℕ) (first second : Stand) (whole : ℕ)
    (lent : List ℤ) : Type 0 where
  pub all : List Curve
  pub is : outlined σ.most σ.pieces ns ≡ curves all
  pub count : length all ≡ n
  pub few : n ≤ 4096
  pub meet : AllMeet σ T all
  pub number : k < n
  pub units : σ.sixths ≡ false
  pub first_at : first.at ≡ place_of ns 0 k
  pub first_place : first.place ≡ record_length σ * leaves_of σ T (take k all)
  pub second_at : second.at ≡ place_of ns 0 (suc k)
  pub second_place : second.place ≡ record_length σ * leaves_of σ T (take (suc k) all)
  pub records : take whole lent ≡ all_records σ T 0 all
  pub long : whole ≡ record_length σ * leaves_of σ T all
  pub room : whole ≤ length lent

-- ---- the answer from check 7 of the old outline on
unfoldable pub exchanged_read : Setting → ℤ → List ℤ → (k : ℕ) → (new : List ℤ) → (count : ℕ) → (lent : List ℤ)
    → Result Banded Refusal
exchanged_read σ T ns k new count lent =
    exchanged_after (band_outlined σ T (outlined σ.most σ.pieces ns) (length (records_for σ T ns))) k
    (other_records count lent (records_for σ T ns))
    (band_outlined σ T (outlined σ.most σ.pieces (changed ns k new)) (length lent))
