-- For contracts of private functions: how the code searches a leaf list that has passed its checks for the first cover
-- that holds a point. Places are counted from the index `at` where a record begins.
use Rattle.std.specs.Prelude.{Bool, true, false, not, ◌&&◌, ◌||◌, List, ◌≡◌, ℕ, zero, suc, ◌+◌, ◌*◌, ◌%◌, ◌≤◌}
use Rattle.std.specs.Prelude.{◌<◌, length, ℤ, nat_abs}
use Rattle.std.specs.Prelude.{Option as Maybe, Some, None, Result, Ok, Err}
use Rattle.std.proofs.Math.Option.{Option, none, some}
use Rattle.std.specs.Int.Signed.{lt_z}
use Rattle.integers.specs.Entry.{entry}
use Rattle.integers.specs.First.{first_bad}
use Rattle.setting.specs.Setting.{Setting, break_points, covers, record_length}
use Rattle.boxes.specs.Ranges.{farthest}
use Rattle.boxes.specs.Records.{box_at_index}
use Rattle.judge_list.specs.Inside.{record_fault_at}
use Rattle.judge_cover.specs.Deciding.{held}
use Rattle.refusals.specs.declared.Refusal.{Refusal}
use Rattle.judge.specs.declared.judging.Holder.{Holder}
use Rattle.judge.specs.Judging.{FirstHolder}

-- a point that passes check 11
pub record InRange (x y : ℤ) : Type 0 where
  pub in_x : nat_abs x ≤ farthest
  pub in_y : nat_abs y ≤ farthest

-- a record that begins at index `at` and has passed the checks
pub record RecordAt (σ : Setting) (ns : List ℤ) (at : ℕ) : Type 0 where
  pub inside : at + record_length σ ≤ length ns
  pub fine : record_fault_at σ ns at ≡ none

-- ---- the covers of a record: whether cover i holds the point, and the first that does
abbrev pub held_at : List ℤ → (x y : ℤ) → (at i : ℕ) → Bool
held_at ns x y at i = held (box_at_index ns (at + (2 + 4 * i))) (box_at_index ns (at + (2 + 4 * suc i))) x y

unfoldable pub holder_at : Setting → List ℤ → (x y : ℤ) → ℕ → Option ℕ
holder_at σ ns x y at = first_bad (λ i. not (held_at ns x y at i)) (covers σ) 0

-- ---- the quick look at a record: a coordinate beyond all its boxes on one side
-- each of the first n numbers that stand four apart, from index `at` on, passes a test: the lows of a record's boxes in
-- one coordinate, or the highs
abbrev pub all_pass : (ℤ → Bool) → List ℤ → (at n : ℕ) → Bool
all_pass test ns at zero = true
all_pass test ns at (suc n) = all_pass test ns at n && test (entry ns (at + 4 * n))

abbrev pub below_all : Setting → ℤ → List ℤ → ℕ → Bool
below_all σ z ns at = all_pass (λ low. lt_z z low) ns at (break_points σ)

abbrev pub above_all : Setting → ℤ → List ℤ → ℕ → Bool
above_all σ z ns at = all_pass (λ high. lt_z high z) ns at (break_points σ)

-- the first low of the coordinate stands at index `at`
abbrev pub beyond : Setting → ℤ → List ℤ → ℕ → Bool
beyond σ z ns at = below_all σ z ns at || above_all σ z ns (at + 1)

-- the record begins at index `at`: its boxes' numbers in x from index at + 2 on, in y from at + 4 on
abbrev pub record_apart : Setting → (x y : ℤ) → List ℤ → ℕ → Bool
record_apart σ x y ns at = beyond σ x ns (at + 2) || beyond σ y ns (at + 4)

-- a record begins at index `to` or the list ends there, and every record from index `from` to there is apart
pub record ApartTo (σ : Setting) (x y : ℤ) (ns : List ℤ) (from to : ℕ) : Type 0 where
  pub whole : to % record_length σ ≡ 0
  pub after : from ≤ to
  pub each : (k : ℕ) → from ≤ record_length σ * k → record_length σ * k < to
      → record_apart σ x y ns (record_length σ * k) ≡ true

-- what is found from index `from` to before index `to`: the first record that the point is not apart from; or that it
-- is apart from each
abbrev pub NextNear : Setting → (x y : ℤ) → (ns : List ℤ) → (from to : ℕ) → Maybe ℕ → Type 0
NextNear σ x y ns from to (Some at) = (at < to) × ApartTo σ x y ns from at
NextNear σ x y ns from to None =
    (k : ℕ) → from ≤ record_length σ * k → record_length σ * k < to
    → record_apart σ x y ns (record_length σ * k) ≡ true

-- a record begins at index `to` of the list, or the list ends there
pub record EndsAt (σ : Setting) (ns : List ℤ) (to : ℕ) : Type 0 where
  pub whole : to % record_length σ ≡ 0
  pub within : to ≤ length ns

-- ---- the search as far as index `at`, where a record begins or would begin: no cover of a record before it holds the
-- point
pub record Searched (σ : Setting) (ns : List ℤ) (x y : ℤ) (at : ℕ) : Type 0 where
  pub begins : at % record_length σ ≡ 0
  pub no_cover : (k i : ℕ) → record_length σ * k < at → record_length σ * k < length ns → i < covers σ
      → held_at ns x y (record_length σ * k) i ≡ false

-- what a search as far as index `to` found: the first holder of the whole list; or that no record before `to` holds the
-- point
abbrev pub FoundTo : Setting → List ℤ → (x y : ℤ) → ℕ → Maybe Holder → Type 0
FoundTo σ ns x y to (Some h) = FirstHolder σ ns x y h.leaf h.cover
FoundTo σ ns x y to None = Searched σ ns x y to

-- ---- the checks of a leaf list, as the code hands on what they find
abbrev pub checked_of : Option Refusal → Result (Unit {0}) Refusal
checked_of (some r) = Err r
checked_of none = Ok tt
