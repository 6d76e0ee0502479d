-- The record of a node of degree 4 or 5: its two numbers and its boxes, in their places.
use Rattle.std.proofs.Common.{◌≡◌, ◌+◌, refl, ap, ◌∙◌, arith}
use lib.Seq.{sets}
use Rattle.setting.specs.Setting.{Setting, lists, break_points}
use Rattle.band_records.specs.Records.{boxes_to}
use Rattle.bound_pieces.specs.Inside.{setting_of}
use Rattle.curve_nodes.proofs.Numbers.{depth_under}
use Rattle.bound_pieces.proofs.PiecesLaws.{scaled_alone}
use Rattle.band_records.proofs.Writing.{numbers_kept, head_sets, head_kept}
use Rattle.band_records.proofs.put_record_higher.Goals as goal
use Rattle.band_records.proofs.put_record_higher.Goals.{After-put_higher_boxes}

pub put_higher_boxes-requires : goal.put_higher_boxes-requires
put_higher_boxes-requires c =
    let a = c.args in
    let p = c.requires in (
      omega (arith, numbers_kept a.records.now a.at a.number a.node c.put_numbers.ensures),
      p.4.has,
      p.4.copied,
      rw c.depth-depth.ensures p.6,
      p.7,
      p.5,
      rw c.depth-depth.ensures (depth_under a.node 4 p.3 p.2),
      scaled_alone p.4.has p.4.is p.8,
    )

-- the boxes, in the setting of these pieces, which has no sixths
boxes : (c : After-put_higher_boxes) →
    let a = c.args in
    let σ = setting_of a.pieces in
    c.put_higher_boxes.new.records ≡ sets c.put_numbers.new.records (a.at + 2) (boxes_to σ (break_points σ) c.depth-depth.result a.curve)
boxes c =
    let a = c.args in
    let same : lists a.pieces.m ≡ setting_of a.pieces = rw c.requires.8 refl in
    c.put_higher_boxes.ensures
    ∙ ap (λ (σ : Setting). sets c.put_numbers.new.records (a.at + 2) (boxes_to σ (break_points σ) c.depth-depth.result a.curve)) same

pub returns : goal.returns
returns c =
    let a = c.args in
    head_sets (setting_of a.pieces) a.curve a.records.now a.at a.number a.node c.depth-depth.ensures c.put_numbers.ensures
    (boxes (goal.at.returns c).After-put_higher_boxes)

pub shape_of-records : goal.shape_of-records
shape_of-records c =
    let a = c.args in
    head_kept (setting_of a.pieces) a.curve a.records.now a.at a.number a.node {whole = c.put_higher_boxes.new.records}
    c.depth-depth.ensures c.put_numbers.ensures (boxes (goal.at.shape_of-records c).After-put_higher_boxes)
