-- The record of a node of degree 1 to 3: its two numbers and its boxes, in their places.
use native.Mathlib.Omega.{arith}
use Rattle.bound_pieces.specs.Inside.{setting_of}
use Rattle.curve_nodes.proofs.Numbers.{depth_under}
use Rattle.band_records.proofs.Writing.{numbers_kept, head_sets, head_kept}
use Rattle.band_records.proofs.put_record.Goals as goal

pub put_low_boxes-requires : goal.put_low_boxes-requires
put_low_boxes-requires c =
    let a = c.args in
    let p = c.requires in (
      omega (arith, numbers_kept a.records.now a.at a.number a.node c.put_numbers.ensures),
      p.4,
      rw c.depth-depth.ensures p.5,
      omega arith,
      rw c.depth-depth.ensures (depth_under a.node 8 p.3 p.2),
    )

pub returns : goal.returns
returns c =
    let a = c.args in
    head_sets (setting_of a.pieces) a.curve a.records.now a.at a.number a.node c.depth-depth.ensures c.put_numbers.ensures
    c.put_low_boxes.ensures

pub shape_of-records : goal.shape_of-records
shape_of-records c =
    let a = c.args in
    head_kept (setting_of a.pieces) a.curve a.records.now a.at a.number a.node c.depth-depth.ensures c.put_numbers.ensures
    c.put_low_boxes.ensures
