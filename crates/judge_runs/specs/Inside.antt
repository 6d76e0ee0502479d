-- For contracts of functions that only the engine calls: boxes round runs of records, and the search among them. A run
-- is a stretch of a leaf list, whole records; each run of a list has as many numbers, the last may have fewer. 64 runs
-- are a group, the last may be smaller. Runs and groups are counted from 0, and so are boxes, four numbers each.
use Rattle.std.specs.Prelude.{Bool, true, ◌||◌, List, ◌≡◌, ℕ, zero, suc, ◌+◌, ◌*◌, ◌%◌, ◌≤◌, ◌<◌, length, ℤ, ◌≤ℤ◌}
use Rattle.std.specs.Prelude.{Option, Some, None}
use Rattle.std.specs.Int.{int_min, int_max}
use Rattle.std.specs.Int.Signed.{lt_z}
use Rattle.setting.specs.Setting.{Setting, break_points, record_length}
use Rattle.boxes.specs.declared.Box.{Box}
use Rattle.boxes.specs.Records.{box_index, box_at_index}
use Rattle.judge_runs.specs.declared.boxing.Cut.{Cut}

-- ---- boxes round boxes
-- the box round two boxes
unfoldable pub round_both : Box → Box → Box
round_both a b = record {
  x_low = int_min a.x_low b.x_low;
  x_high = int_max a.x_high b.x_high;
  y_low = int_min a.y_low b.y_low;
  y_high = int_max a.y_high b.y_high;
}

-- the box round b and n boxes of a list, the first of which begins at index `at`
unfoldable pub round_boxes : Box → List ℤ → (at n : ℕ) → Box
round_boxes b ns at zero = b
round_boxes b ns at (suc n) = round_both (round_boxes b ns at n) (box_at_index ns (at + 4 * n))

-- box a lies in box b
pub record LiesIn (a b : Box) : Type 0 where
  pub x_low : b.x_low ≤ℤ a.x_low
  pub x_high : a.x_high ≤ℤ b.x_high
  pub y_low : b.y_low ≤ℤ a.y_low
  pub y_high : a.y_high ≤ℤ b.y_high

-- ---- boxes round records
-- every box of the records that begin from index `from` to before index `to` lies in b
pub record Around (σ : Setting) (ns : List ℤ) (from to : ℕ) (b : Box) : Type 0 where
  pub each : (k i : ℕ) → from ≤ record_length σ * k → record_length σ * k < to → record_length σ * k < length ns
      → i < break_points σ → LiesIn (box_at_index ns (box_index σ k i)) b

-- r is where the stretch of `run` from `from` on ends, among n in all
pub record RunEnd (n from run r : ℕ) : Type 0 where
  pub inside : r ≤ n
  pub full : r < n → r ≡ from + run
  pub last : n ≤ r → n ≤ from + run
  pub onward : from < n → 0 < run → from < r

-- a list of n numbers has whole records, and so has each run of `run` numbers; 2,048 of these are enough for the list
pub record RunLength (σ : Setting) (n run : ℕ) : Type 0 where
  pub some : 0 < run
  pub whole : run % record_length σ ≡ 0
  pub list_whole : n % record_length σ ≡ 0
  pub enough : n ≤ 2048 * run

-- run g of `run` numbers begins in the list, and box g is round its records
pub record RunBox (σ : Setting) (ns : List ℤ) (run : ℕ) (boxes : List ℤ) (g : ℕ) : Type 0 where
  pub begins : run * g < length ns
  pub around : Around σ ns (run * g) (run * suc g) (box_at_index boxes (4 * g))

-- the list has n runs of `run` numbers, and the first n boxes are round them
pub record Runs (σ : Setting) (ns : List ℤ) (run n : ℕ) (boxes : List ℤ) : Type 0 where
  pub some : 0 < run
  pub whole : run % record_length σ ≡ 0
  pub few : n ≤ 2048
  pub room : 4 * n ≤ length boxes
  pub each : (g : ℕ) → g < n → RunBox σ ns run boxes g
  pub all : length ns ≤ run * n

-- group c of `count` runs has a run, and box c of the groups is round the boxes of its runs
pub record GroupBox (runs : List ℤ) (count : ℕ) (groups : List ℤ) (c : ℕ) : Type 0 where
  pub begins : 64 * c < count
  pub around : (g : ℕ) → 64 * c ≤ g → g < 64 * suc c → g < count
      → LiesIn (box_at_index runs (4 * g)) (box_at_index groups (4 * c))

-- `count` runs have n groups, and the first n boxes are round them
pub record Groups (runs : List ℤ) (count n : ℕ) (groups : List ℤ) : Type 0 where
  pub few : n ≤ 32
  pub room : 4 * n ≤ length groups
  pub each : (c : ℕ) → c < n → GroupBox runs count groups c
  pub all : count ≤ 64 * n

-- a leaf list, how it is cut, and two lists of boxes: round its runs and round its groups
pub record Boxed (σ : Setting) (ns : List ℤ) (cut : Cut) (runs groups : List ℤ) : Type 0 where
  pub each_run : Runs σ ns cut.run cut.runs runs
  pub each_group : Groups runs cut.runs cut.groups groups

-- ---- the search
-- boxes `from` to before `to` are round the runs of these numbers
pub record RunsTo (σ : Setting) (ns : List ℤ) (run : ℕ) (boxes : List ℤ) (from to : ℕ) : Type 0 where
  pub order : from ≤ to
  pub whole : run % record_length σ ≡ 0
  pub room : 4 * to ≤ length boxes
  pub each : (g : ℕ) → from ≤ g → g < to → RunBox σ ns run boxes g

-- the point (x, y) lies outside the box b
abbrev pub outside : Box → (x y : ℤ) → Bool
outside b x y = lt_z x b.x_low || lt_z b.x_high x || lt_z y b.y_low || lt_z b.y_high y

-- r is one of the numbers from `from` to `to`, and the point (x, y) lies outside each box from `from` to before r
pub record OutsideTo (boxes : List ℤ) (x y : ℤ) (from to r : ℕ) : Type 0 where
  pub after : from ≤ r
  pub before : r ≤ to
  pub each : (g : ℕ) → from ≤ g → g < r → outside (box_at_index boxes (4 * g)) x y ≡ true

-- what is found among boxes `from` to before `to`: the first that the point (x, y) does not lie outside, or none
abbrev pub NextBox : (boxes : List ℤ) (x y : ℤ) (from to : ℕ) → Option ℕ → Type 0
NextBox boxes x y from to (Some g) = (g < to) × OutsideTo boxes x y from to g
NextBox boxes x y from to None = OutsideTo boxes x y from to to
