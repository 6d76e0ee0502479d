-- `answer::answer_in` meets its contract: a refusal, or the band's lines and then the points'.
use Rattle.std.proofs.Common.{◌≡◌, ◌*◌, ◌≤◌, length, sym}
use lib.Seq.{length-take-le}
use Rattle.band_banded.specs.Banding.{done as reports}
use Rattle.text_answers.proofs.Answers.{answer_refused, done_fits, done_inside, lines_room, points_room, done_fine, answer_done}
use Rattle.answer.proofs.answer_in.Goals as goal

pub overflow_mul-leaves : goal.overflow_mul-leaves
overflow_mul-leaves c =
    let b = c.in-Ok.field-0 in
    let e : c.band_text.result ≡ reports b.curves b.leaves b.nodes = c.in-Ok.is in
    search done_fits

pub slice_bounds-put_points-end : goal.slice_bounds-put_points-end
slice_bounds-put_points-end c =
    let b = c.in-Ok.field-0 in
    let e : c.band_text.result ≡ reports b.curves b.leaves b.nodes = c.in-Ok.is in
    search done_inside

pub slice_bounds-put_points-end-in-Ok : goal.slice_bounds-put_points-end-in-Ok
slice_bounds-put_points-end-in-Ok c =
    let b = c.in-Ok.field-0 in
    let e : c.band_text.result ≡ reports b.curves b.leaves b.nodes = c.in-Ok.is in
    let h : 18 * b.leaves ≤ length c.band_text.new.records = search done_inside in
    sym (length-take-le _ _ h)

pub put_band-at-requires : goal.put_band-at-requires
put_band-at-requires c =
    let b = c.in-Ok.field-0 in
    let e : c.band_text.result ≡ reports b.curves b.leaves b.nodes = c.in-Ok.is in
    search lines_room

pub put_points-requires : goal.put_points-requires
put_points-requires c =
    let b = c.in-Ok.field-0 in
    let e : c.band_text.result ≡ reports b.curves b.leaves b.nodes = c.in-Ok.is in
    (search points_room, search done_fine)

pub returns-in-Err : goal.returns-in-Err
returns-in-Err c = search answer_refused

pub returns-in-Ok : goal.returns-in-Ok
returns-in-Ok c =
    let b = c.in-Ok.field-0 in
    let e : c.band_text.result ≡ reports b.curves b.leaves b.nodes = c.in-Ok.is in
    search answer_done
