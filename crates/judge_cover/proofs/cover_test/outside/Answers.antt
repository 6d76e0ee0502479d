-- `judge_cover::cover_test::outside` meets its contract: two comparisons, the second where the first says yes.
use mir.Facts.{to_z-of_z}
use Rattle.judge_cover.proofs.cover_test.outside.Goals as goal

pub returns-then-a-lt0 : goal.returns-then-a-lt0
returns-then-a-lt0 c =
    let e = rw (to_z-of_z c.ranges.a) at c.if-a-lt0.true in
    rw (to_z-of_z c.ranges.b, e)

pub returns-else-a-lt0 : goal.returns-else-a-lt0
returns-else-a-lt0 c =
    let e = rw (to_z-of_z c.ranges.a) at c.if-a-lt0.false in
    rw (to_z-of_z c.ranges.a, e)
