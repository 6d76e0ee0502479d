-- What examples of foretelling compute through: with `unfolding computing` they hold by computation.
use mathlib.Core.List.{List}
use lib.IntN.{ℤ}
use Rattle.setting.specs.Setting.{Setting}
use Rattle.integers.specs.First.{first_bad}
use Rattle.curve_nodes.specs.Differences.{largest_of, bend, largest}
use Rattle.bound_rows.specs.Table.{table, rows_of}
use Rattle.bound_rows.specs.Rule.{gap_of}
use Rattle.walk_depths.specs.Depth.{depth_of}
use Rattle.band_banded.proofs.Computing.{reading}
use Rattle.band_foretold.specs.Foretelling.{depths_of, depth_numbers, all_have, summed, foretell_depths, foretold, depths_written}

-- the list that foretelling leaves
unfoldable pub computing : Setting → ℤ → List ℤ → List ℤ → List ℤ
unfolding reading first_bad largest_of bend largest table rows_of gap_of depth_of depths_of depth_numbers all_have summed foretell_depths foretold depths_written
computing = depths_written
