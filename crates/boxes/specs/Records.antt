-- Where the numbers of a leaf list stand (document 01): a record is curve, node, then for each break point a box; cover
-- i lies between boxes i and i + 1.
use Rattle.std.specs.Prelude.{List, ℕ, ◌+◌, ◌*◌, ℤ}
use Rattle.setting.specs.Setting.{Setting, record_length}
use Rattle.integers.specs.Entry.{entry}
use Rattle.boxes.specs.declared.Box.{Box}

-- box i of record k begins at this index
abbrev pub box_index : Setting → ℕ → ℕ → ℕ
box_index σ k i = record_length σ * k + (2 + 4 * i)

-- the box whose four numbers begin at index `at`
abbrev pub box_at_index : List ℤ → ℕ → Box
box_at_index ns at = record {
  x_low = entry ns at;
  x_high = entry ns (at + 1);
  y_low = entry ns (at + 2);
  y_high = entry ns (at + 3);
}
