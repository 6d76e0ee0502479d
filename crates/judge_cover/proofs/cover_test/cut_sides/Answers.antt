-- `judge_cover::cover_test::cut_sides` meets its contract: one cut, then the other.
use mathlib.Core.Path.{◌∙◌, ap}
use Rattle.judge_cover.specs.Deciding.{cut}
use Rattle.judge_cover.proofs.Sizes.{kept, cut_small}
use Rattle.judge_cover.proofs.cover_test.cut_sides.Goals as goal

pub cut-half-requires : goal.cut-half-requires
cut-half-requires c =
    let p = c.requires.1 in (
      c.requires.0,
      rw (kept c.args.sides.low_first p.low_first) p.low_first,
      rw (kept c.args.sides.low_second p.low_second) p.low_second,
    )

pub cut-requires : goal.cut-requires
cut-requires c =
    let p = c.requires.1 in
    let d = c.args.sides in
    let e = rw (kept d.low_first p.low_first, kept d.low_second p.low_second) at c.cut-half.ensures in (
      rw e (cut_small c.args.range d.low_first d.low_second c.requires.0 p.low_first p.low_second),
      rw (kept d.high_first p.high_first) p.high_first,
      rw (kept d.high_second p.high_second) p.high_second,
    )

pub returns : goal.returns
returns c =
    let p = c.requires.1 in
    let d = c.args.sides in
    let e = rw (kept d.low_first p.low_first, kept d.low_second p.low_second) at c.cut-half.ensures in
    let f = rw (kept d.high_first p.high_first, kept d.high_second p.high_second) at c.cut.ensures in
    f ∙ ap (λ r. cut r d.high_first d.high_second) e
