-- The lines of a band that is done (document 01, "Text program").
use Rattle.std.specs.Prelude.{List, ◌++◌, ℕ, ℤ}
use Rattle.write_lines.specs.Answers.{done_line}
use Rattle.write_leaves.specs.Leaves.{leaf_lines}

-- the leaves and the report
unfoldable pub band_lines : (curves leaves nodes : ℕ) → List ℤ → List ℕ
band_lines curves leaves nodes records = leaf_lines records leaves ++ done_line curves leaves nodes
