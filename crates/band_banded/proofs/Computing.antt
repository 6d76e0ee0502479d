-- What examples of banding compute through: with `unfolding computing` they hold by computation.
use mathlib.Core.Bool.{Bool}
use mathlib.Core.List.{List}
use Prim.Native.Nat.{ℕ}
use lib.IntN.{ℤ, pow, one}
use Rattle.setting.specs.Setting.{Setting}
use Rattle.integers.specs.First.{first_bad}
use Rattle.integers.specs.Rounding.{floor, ceiling}
use Rattle.curve_halves.specs.Halves.{triangle, left, right}
use Rattle.curve_nodes.specs.declared.Curve.{Curve}
use Rattle.curve_nodes.specs.Halves.{left_half, right_half}
use Rattle.curve_nodes.specs.Nodes.{descend_in, descend, depth, node_curve}
use Rattle.bound_rows.specs.Table.{table, rows_of}
use Rattle.bound_enclosure.specs.Bounds.{row_sum, high, low}
use Rattle.bound_node.specs.Boxes.{box_at, meets}
use Rattle.outline.specs.Curves.{curve_at}
use Rattle.outline.specs.Faults.{fault_at}
use Rattle.outline.specs.Checks.{Outlined, outline_from, outlined}
use Rattle.outline_splines.specs.Splines.{spline_at, splines_from, splined}
use Rattle.walk_tree.specs.Tree.{ends, met, first_failing}
use Rattle.walk_curve.specs.Walked.{node_meets, ends_of}
use Rattle.band_records.specs.Records.{record_of, records_of, all_records}
use Rattle.band_passes.specs.Leaves.{first_too_wide, leaves_of, nodes_of}
use Rattle.band_banded.specs.Banding.{band_given, written_given, band_curves, written}

-- the curves of an outline, and those of a B-spline
unfoldable pub reading : ℕ → ℕ → List ℤ → Outlined
unfolding outlined outline_from fault_at first_bad curve_at splined splines_from spline_at
reading = outlined

-- the test of a node
unfoldable pub testing : Setting → ℤ → Curve → ℕ → Bool
unfolding descend descend_in depth node_curve left_half right_half left right triangle meets box_at table rows_of high low row_sum floor ceiling pow one
testing = node_meets

-- where the walk of a curve ends
unfoldable pub walking : Setting → ℤ → Curve → List ℕ
unfolding testing ends met first_failing
walking = ends_of

-- the list that banding leaves
unfoldable pub computing : Setting → ℤ → List ℤ → List ℤ → List ℤ
unfolding reading walking written_given all_records records_of record_of band_given band_curves first_too_wide leaves_of nodes_of
computing = written
