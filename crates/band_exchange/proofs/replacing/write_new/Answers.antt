-- A curve banded by itself into its own part of the list, and its records renumbered.
use mathlib.Core.Path.{◌≡◌, ◌∙◌, ap, ap₂}
use Prim.Native.Nat.{ℕ, ◌+◌, ◌-◌, ◌*◌, ◌≤◌}
use mathlib.Core.List.{List}
use lib.IntN.{ℤ}
use native.Mathlib.Omega.{arith}
use lib.ListN.{length, take, drop, length-drop}
use lib.Seq.{sets, length-sets, length-take-le}
use mir.Facts.{to_z-of_z}
use borrow.Rule.Slice.PartMut.{put_mid}
use Rattle.setting.specs.Setting.{lists}
use Rattle.setting.proofs.Pieces.{record_length_is}
use Rattle.outline.specs.Curves.{curve_at}
use Rattle.walk_curve.specs.Walked.{ends_of}
use Rattle.band_records.specs.Records.{records_of}
use Rattle.band_exchange.specs.Inside.{renumbered}
use Rattle.band_exchange.proofs.Renumbering.{renumbered_records}
use Rattle.band_exchange.proofs.Alone.{new_leaves, own_long, alone_written, part_written}
use Rattle.band_exchange.proofs.replacing.write_new.Goals as goal
use Rattle.band_exchange.proofs.replacing.write_new.Goals.{After-band_curves}

pub slice_bounds-band_curves-start : goal.slice_bounds-band_curves-start
slice_bounds-band_curves-start c = omega (arith, c.requires.3)

pub band_curves-requires : goal.band_curves-requires
band_curves-requires c = (c.requires.0, c.requires.1)

-- the part of the list
part_long : (rs : List ℤ) (place over : ℕ) → over ≤ length rs → length (take (over - place) (drop place rs)) ≡ over - place
part_long rs place over h = length-take-le (over - place) (drop place rs) (omega (arith, length-drop place rs, h))

-- what banding leaves in it
own : (c : After-band_curves) →
    let a = c.args in
    c.band_curves.new.records
    ≡ records_of (lists a.m) 0 (curve_at a.curve.now 0) (ends_of (lists a.m) a.t (curve_at a.curve.now 0))
own c =
    let a = c.args in
    let e = rw (to_z-of_z c.ranges.t) at c.band_curves.ensures in
    alone_written a.m a.t (curve_at a.curve.now 0) a.n c.requires.2 (take (a.over - a.place) (drop a.place a.records.now))
    (omega (arith, part_long a.records.now a.place a.over c.requires.4, c.requires.3)) _ _ e.value e.records_after

-- and so in the whole
put : (c : After-band_curves) →
    let a = c.args in
    put_mid a.place (a.over - a.place) a.records.now c.band_curves.new.records
    ≡ sets a.records.now a.place (records_of (lists a.m) 0 (curve_at a.curve.now 0) (ends_of (lists a.m) a.t (curve_at a.curve.now 0)))
put c =
    let a = c.args in
    let q = curve_at a.curve.now 0 in
    let rs = records_of (lists a.m) 0 q (ends_of (lists a.m) a.t q) in
    ap (put_mid a.place (a.over - a.place) a.records.now) (own c)
    ∙ part_written a.records.now rs a.place a.over (omega (arith, c.requires.3)) c.requires.4
    (omega (
      arith,
      c.requires.3,
      own_long a.m a.t q a.n c.requires.2 (take (a.over - a.place) (drop a.place a.records.now))
          (omega (arith, part_long a.records.now a.place a.over c.requires.4, c.requires.3)),
      part_long a.records.now a.place a.over c.requires.4,
    ))

put-long : (c : After-band_curves) →
    let a = c.args in
    length (put_mid a.place (a.over - a.place) a.records.now c.band_curves.new.records) ≡ length a.records.now
put-long c =
    let a = c.args in
    let q = curve_at a.curve.now 0 in
    ap length (put c) ∙ length-sets a.records.now a.place (records_of (lists a.m) 0 q (ends_of (lists a.m) a.t q))

pub renumber-requires : goal.renumber-requires
renumber-requires c =
    (omega (arith, put-long (goal.at.renumber-requires c).After-band_curves, c.requires.3, c.requires.4), omega arith, c.requires.5)

pub shape_of-records : goal.shape_of-records
shape_of-records c =
    c.renumber.auto.records ∙ put-long (goal.at.shape_of-records c).After-band_curves

pub returns : goal.returns
returns c =
    let a = c.args in
    let q = curve_at a.curve.now 0 in
    let σ = lists a.m in
    c.renumber.ensures
    ∙ ap (λ l. renumbered l a.place (6 + 4 * a.m) a.n a.number) (put (goal.at.returns c).After-band_curves)
    ∙ ap₂ (λ l n. renumbered (sets a.records.now a.place (records_of σ 0 q (ends_of σ a.t q))) a.place l n a.number)
    (record_length_is a.m) (new_leaves σ a.t q a.n c.requires.2).1
    ∙ renumbered_records σ q a.number (ends_of σ a.t q) a.records.now a.place

pub slice_bounds-band_curves-count : goal.slice_bounds-band_curves-count
slice_bounds-band_curves-count c = omega (arith, c.requires.3)
