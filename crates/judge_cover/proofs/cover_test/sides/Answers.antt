-- `judge_cover::cover_test::sides` meets its contract: four differences of numbers in range.
use Rattle.integers.proofs.Machine.{fits!, is! }
use Rattle.boxes.specs.Ranges.{farthest}
use Rattle.judge_cover.proofs.Sizes.{Small, sizes}
use Rattle.judge_cover.proofs.Cuts.{sides_are}
use Rattle.judge_cover.proofs.cover_test.sides.Reads as reads
use Rattle.judge_cover.proofs.cover_test.sides.Lts as lts
use Rattle.judge_cover.proofs.cover_test.sides.Goals as goal

module _ (c : lts.Start reads.Pre reads.Post) where
  abbrev point : Small farthest c.args.z
  point = record { small = c.requires.2 }

pub returns : goal.returns
returns c =
    sides_are
    (is! (search (sizes, c.requires.0, point c) depth 40) tt)
    (is! (search (sizes, c.requires.1, point c) depth 40) tt)
    (is! (search (sizes, c.requires.0, point c) depth 40) tt)
    (is! (search (sizes, c.requires.1, point c) depth 40) tt)

pub overflow_cast-result : goal.overflow_cast-result
overflow_cast-result c = fits! (search (sizes, c.requires.0) depth 40) tt

pub overflow_sub-result : goal.overflow_sub-result
overflow_sub-result c = fits! (search (sizes, c.requires.0, point c) depth 40) tt

pub overflow_cast-result-2 : goal.overflow_cast-result-2
overflow_cast-result-2 c = fits! (search (sizes, c.requires.1) depth 40) tt

pub overflow_sub-result-2 : goal.overflow_sub-result-2
overflow_sub-result-2 c = fits! (search (sizes, c.requires.1, point c) depth 40) tt

pub overflow_cast-result-3 : goal.overflow_cast-result-3
overflow_cast-result-3 c = fits! (search (sizes, c.requires.0) depth 40) tt

pub overflow_sub-result-3 : goal.overflow_sub-result-3
overflow_sub-result-3 c = fits! (search (sizes, c.requires.0, point c) depth 40) tt

pub overflow_cast-result-4 : goal.overflow_cast-result-4
overflow_cast-result-4 c = fits! (search (sizes, c.requires.1) depth 40) tt

pub overflow_sub-result-4 : goal.overflow_sub-result-4
overflow_sub-result-4 c = fits! (search (sizes, c.requires.1, point c) depth 40) tt
