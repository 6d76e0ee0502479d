-- Leaf lists whose numbers are all in range (document 01, checks 9 and 10).
use Rattle.std.specs.Prelude.{◌≡◌, List, ℕ, ◌+◌, ◌*◌, ◌≤◌, ◌<◌, length, ℤ, pos, ◌≤ℤ◌, ◌<ℤ◌}
use Rattle.integers.specs.Entry.{entry}
use Rattle.boxes.specs.Ranges.{Interval}
use Rattle.setting.specs.Setting.{Setting, record_length, greatest_node}

-- A sound record: curve, node, and for each break point a box. `number p` is the number at place p, from 0.
pub record SoundRecord (σ : Setting) (number : ℕ → ℤ) : Type 0 where
  pub curve_from : pos 0 ≤ℤ number 0
  pub curve_below : number 0 <ℤ pos σ.most
  pub node_from : pos 1 ≤ℤ number 1
  pub node_to : number 1 ≤ℤ pos greatest_node
  pub x : (i : ℕ) → i ≤ σ.pieces → Interval (number (4 * i + 2)) (number (4 * i + 3))
  pub y : (i : ℕ) → i ≤ σ.pieces → Interval (number (4 * i + 4)) (number (4 * i + 5))

-- A list of so many records, each of them sound, one behind the other.
pub record SoundList (σ : Setting) (records : ℕ) (ns : List ℤ) : Type 0 where
  pub whole : length ns ≡ record_length σ * records
  pub each : (i : ℕ) → i < records → SoundRecord σ (λ p. entry ns (record_length σ * i + p))
