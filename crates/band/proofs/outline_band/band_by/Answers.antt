-- Checks 7, 19 and 8 and the records: the leaves are counted first, unless they surely have room.
use mathlib.Core.Path.{◌≡◌, sym, ◌∙◌}
use mathlib.Core.Logic.{⊎_elim}
use mathlib.Core.List.{List}
use Prim.Native.Nat.{◌+◌, ◌*◌, ◌/◌}
use native.Mathlib.Omega.{arith}
use lib.ListN.{length}
use Prim.Native.Nat.{ℕ}
use Rattle.band_passes.specs.declared.forms.CurveList.{CurveList}
use borrow.Author.Rules.{rules}
use borrow.Author.Tests.{not-false}
use mir.Facts.{to_z-of_z}
use Rattle.setting.specs.Setting.{relimited}
use Rattle.curve_nodes.specs.declared.Curve.{Curve}
use Rattle.bound_pieces.specs.Inside.{setting_of}
use Rattle.setting.proofs.Pieces.{record_length_is}
use Rattle.std.specs.Prelude.{Ok}
use Rattle.std.proofs.lemmas.Result.{err_from_is_err_and}
use Rattle.band_passes.specs.Leaves.{leaves_of}
use Rattle.band_passes.specs.Inside.{form_of, numbers_of, curves_in, counted_of}
use Rattle.band_banded.proofs.Answers.{answer_too_wide, answer_few, answer_nodes, answer_too_many, answer_too_few, answer_list, numbers_few}
use Rattle.band_banded.proofs.Answers.{read_count, fillable, report_done, Placed, placed_counted, placed_sure, leaves_divided}
use Rattle.band.proofs.outline_band.band_by.Goals as goal
use Rattle.band.proofs.outline_band.band_by.Goals.{After-write_all, In_ok-leaves, Joined-not-surely_fit}

-- the curves of the list
abbrev given : CurveList → ℕ → List Curve
given l n = curves_in (form_of l) (numbers_of l) n

-- what the first pass counted
counted : (c : In_ok-leaves) →
    Ok c.in_ok-leaves.leaves
    ≡ counted_of (setting_of c.args.pieces) c.args.t (given c.args.list c.args.curves)
counted c =
    rw (to_z-of_z c.ranges.t) at (sym c.in_ok-leaves.was ∙ c.count.ensures)

pub overflow_mul-record_length : goal.overflow_mul-record_length
overflow_mul-record_length c = omega (arith, c.requires.0.has.most)

pub overflow_add-record_length : goal.overflow_add-record_length
overflow_add-record_length c = omega (arith, c.requires.0.has.most)

pub surely_fit-requires : goal.surely_fit-requires
surely_fit-requires c = let p = c.requires in (p.0.has, p.0.is, p.1)

pub returns-in_err-leaves : goal.returns-in_err-leaves
returns-in_err-leaves c =
    let a = c.args in
    let p = err_from_is_err_and c.from_residual.result c.from_residual.ensures.1 in
    rw (p.1, p.2) (record {
      value = answer_too_wide (relimited (setting_of a.pieces) a.curves a.most) a.t (given c.args.list c.args.curves) _
          (rw (to_z-of_z c.ranges.t) at (sym c.in_err-leaves.was ∙ c.count.ensures));
      records_after = search rules;
    })

pub returns-then-most-leaves : goal.returns-then-most-leaves
returns-then-most-leaves c =
    let a = c.args in record {
      value = answer_too_many (relimited (setting_of a.pieces) a.curves a.most) a.t (given c.args.list c.args.curves) (counted (goal.at.returns-then-most-leaves c).In_ok-leaves) _
          c.if-most-leaves.true;
      records_after = search rules;
    }

pub overflow_mul-record_length-then-not-surely_fit : goal.overflow_mul-record_length-then-not-surely_fit
overflow_mul-record_length-then-not-surely_fit c =
    let r = c.requires.1 in
    let cs = given c.args.list c.args.curves in
    let few = answer_few (setting_of c.args.pieces) c.args.t cs (counted (goal.at.overflow_mul-record_length-then-not-surely_fit c).In_ok-leaves) (omega (arith, read_count (setting_of c.args.pieces) r, r.few)) in
    omega (arith, numbers_few c.requires.0.has.most few)

-- the test of the room, in the numbers of a record
pub returns-then-records-record_length : goal.returns-then-records-record_length
returns-then-records-record_length c =
    let a = c.args in
    let m = a.pieces.m in record {
      value = answer_too_few (relimited (setting_of a.pieces) a.curves a.most) a.t (given c.args.list c.args.curves) (counted (goal.at.returns-then-records-record_length c).In_ok-leaves)
          c.if-most-leaves.false (rw (record_length_is m) at c.if-records-record_length.true);
      records_after = search rules;
    }

placed : (c : Joined-not-surely_fit) →
    let a = c.args in
    Placed (setting_of a.pieces) a.t (given c.args.list c.args.curves) a.most (length a.records.now)
placed c =
    let a = c.args in
    let σ = setting_of a.pieces in
    let cs = given c.args.list c.args.curves in
    let room = c.smaller-room.ensures in
    ⊎_elim
    (λ w. placed_counted σ a.t cs (rw (to_z-of_z c.ranges.t) at (sym w.in_ok-leaves.was ∙ w.count.ensures)) w.if-most-leaves.false
    (rw (record_length_is a.pieces.m) at w.if-records-record_length.false))
    (λ w. placed_sure σ a.t cs (rw (to_z-of_z c.ranges.t) at (c.surely_fit.ensures (not-false c.surely_fit.result w.if-not-surely_fit.false-raw)))
    (record_length_is a.pieces.m) (omega (arith, room)) (omega (arith, room)))
    c.if-not-surely_fit.branch-raw

pub write_all-requires : goal.write_all-requires
write_all-requires c =
    let p = placed (goal.at.write_all-requires c).Joined-not-surely_fit in
    (c.requires.0, rw (to_z-of_z c.ranges.t) (fillable (setting_of c.args.pieces) c.requires.1 c.args.t p.is p.enough))

-- as many as were written
leaves : (c : After-write_all) →
    let a = c.args in
    c.write_all.result / (6 + 4 * a.pieces.m) ≡ leaves_of (setting_of a.pieces) a.t (given c.args.list c.args.curves)
leaves c =
    let a = c.args in
    leaves_divided (setting_of a.pieces) a.pieces.m (record_length_is a.pieces.m) (rw (to_z-of_z c.ranges.t) at c.write_all.ensures.value)

pub overflow_mul-nodes : goal.overflow_mul-nodes
overflow_mul-nodes c =
    let r = c.requires.1 in
    let cs = given c.args.list c.args.curves in
    let few = answer_few (setting_of c.args.pieces) c.args.t cs (placed (goal.at.overflow_mul-nodes c).Joined-not-surely_fit).is (omega (arith, read_count (setting_of c.args.pieces) r, r.few)) in
    rw (leaves (goal.at.overflow_mul-nodes c).After-write_all) (omega (arith, few))

pub overflow_sub-nodes : goal.overflow_sub-nodes
overflow_sub-nodes c =
    let cs = given c.args.list c.args.curves in
    rw (leaves (goal.at.overflow_sub-nodes c).After-write_all)
    (omega (arith, answer_nodes (setting_of c.args.pieces) c.args.t cs (placed (goal.at.overflow_sub-nodes c).Joined-not-surely_fit).is, read_count (setting_of c.args.pieces) c.requires.1))

pub returns : goal.returns
returns c =
    let a = c.args in
    let p = placed (goal.at.returns c).Joined-not-surely_fit in record {
      value = rw (leaves (goal.at.returns c).After-write_all) (report_done (setting_of a.pieces) c.requires.1 a.most a.t p.is p.taken p.enough);
      records_after = (rw (to_z-of_z c.ranges.t) at c.write_all.ensures.records_after)
          ∙ answer_list (setting_of a.pieces) a.t (given c.args.list c.args.curves) p.is a.records.now p.enough;
    }
