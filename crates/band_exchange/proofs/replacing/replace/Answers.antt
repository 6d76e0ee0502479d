-- One curve for another: each return is a case of banding the changed curves, and the list holds their records.
use mathlib.Core.Path.{◌≡◌, refl, sym, ◌∙◌, ap}
use Prim.Native.Nat.{◌+◌, ◌-◌, ◌*◌, ◌/◌, ◌≤◌}
use native.Mathlib.Omega.{arith}
use lib.ListN.{length, take, drop}
use lib.Seq.{sets, length-sets}
use mir.Facts.{to_z-of_z}
use Rattle.setting.specs.Setting.{lists}
use Rattle.setting.proofs.Pieces.{record_length_is}
use Rattle.outline.specs.Curves.{curve_at}
use Rattle.std.specs.Prelude.{Ok}
use Rattle.walk_curve.specs.Walked.{ends_of}
use Rattle.walk_curve.specs.Inside.{walked_of}
use Rattle.band_records.specs.Records.{records_of}
use Rattle.band_banded.proofs.Answers.{numbers_few}
use Rattle.band_exchange.proofs.Fronts.{few_number, own_fewer, cs_few, wide_answer, now_leaves, few_answer, done_answer, nodes_fit}
use Rattle.band_exchange.proofs.Fronts.{tail_inside, from_inside, to_inside, done_list}
use Rattle.band_exchange.proofs.replacing.replace.Goals as goal
use Rattle.band_exchange.proofs.replacing.replace.Goals.{Else-records-record_length, In-Ok}

pub overflow_cast-result : goal.overflow_cast-result
overflow_cast-result c = omega (arith, few_number c.requires.2)

pub overflow_sub-leaves-in-Ok : goal.overflow_sub-leaves-in-Ok
overflow_sub-leaves-in-Ok c = own_fewer c.requires.2

-- what the walk of the new curve gave
walked : (k : In-Ok) → let a = k.args in
    Ok k.in-Ok.n ≡ walked_of (lists a.m) a.t (curve_at a.curve.now 0)
walked k =
    rw (to_z-of_z k.ranges.t) at (sym k.in-Ok.is ∙ k.leaves_in.ensures)

few-now : (k : In-Ok) → let a = k.args in
    (a.whole - (a.end - a.place)) / (6 + 4 * a.m) + k.in-Ok.n ≤ 1048576
few-now k =
    let e = record_length_is k.args.m in
    let q = curve_at k.args.curve.now 0 in
    omega (arith, now_leaves k.requires.2 e q (walked k), cs_few k.requires.2 e q)

pub overflow_add-leaves : goal.overflow_add-leaves
overflow_add-leaves c = omega (arith, few-now c)

pub overflow_mul-record_length-in-Ok : goal.overflow_mul-record_length-in-Ok
overflow_mul-record_length-in-Ok c =
    let a = c.args in
    omega (
      arith,
      numbers_few {m = a.m} {leaves = (a.whole - (a.end - a.place)) / (6 + 4 * a.m) + c.in-Ok.n}
          c.requires.0.most (omega (arith, few-now c)),
    )

pub returns-then-records-record_length : goal.returns-then-records-record_length
returns-then-records-record_length c =
    let a = c.args in
    record {
      answer = λ f. few_answer f (record_length_is a.m) (curve_at a.curve.now 0) (walked (goal.at.returns-then-records-record_length c).In-Ok) refl (length a.records.now) c.if-records-record_length.true;
      list = λ f. refl;
    }

-- past check 8
inside : (o : Else-records-record_length) →
    let a = o.args in
    a.place + (6 + 4 * a.m) * o.in-Ok.n + (a.whole - a.end) ≤ length a.records.now
inside o =
    to_inside o.requires.2 (record_length_is o.args.m) (curve_at o.args.curve.now 0) (walked o.before) o.if-records-record_length.false

pub overflow_mul-over : goal.overflow_mul-over
overflow_mul-over c = omega (arith, inside c)

pub overflow_add-over : goal.overflow_add-over
overflow_add-over c = omega (arith, inside c)

pub overflow_sub-whole : goal.overflow_sub-whole
overflow_sub-whole c =
    tail_inside c.requires.2 (record_length_is c.args.m) (curve_at c.args.curve.now 0) (walked (goal.at.overflow_sub-whole c).In-Ok)

pub move_numbers-requires : goal.move_numbers-requires
move_numbers-requires c =
    (from_inside c.requires.2 (record_length_is c.args.m) (curve_at c.args.curve.now 0) (walked (goal.at.move_numbers-requires c).In-Ok), inside (goal.at.move_numbers-requires c).Else-records-record_length)

pub overflow_cast-number : goal.overflow_cast-number
overflow_cast-number c = omega (arith, few_number c.requires.2)

pub write_new-requires : goal.write_new-requires
write_new-requires c =
    let a = c.args in
    let over = a.place + (6 + 4 * a.m) * c.in-Ok.n in
    let long = ap length c.move_numbers.ensures
    ∙ length-sets a.records.now over (take (a.whole - a.end) (drop a.end a.records.now)) in
    rw (to_z-of_z c.ranges.t) (
      c.requires.0,
      c.requires.1,
      walked (goal.at.write_new-requires c).In-Ok,
      refl,
      omega (arith, inside (goal.at.write_new-requires c).Else-records-record_length, long),
      omega (arith, few_number c.requires.2),
    )

pub overflow_sub-nodes : goal.overflow_sub-nodes
overflow_sub-nodes c =
    nodes_fit c.requires.2 (record_length_is c.args.m) (curve_at c.args.curve.now 0) (walked (goal.at.overflow_sub-nodes c).In-Ok)

pub returns-in-Err : goal.returns-in-Err
returns-in-Err c =
    let a = c.args in
    let w = rw (to_z-of_z c.ranges.t) at (sym c.in-Err.is ∙ c.leaves_in.ensures) in
    record {
      answer = λ f. wide_answer f (record_length_is a.m) (curve_at a.curve.now 0) c.in-Err.node (length a.records.now) w;
      list = λ f. refl;
    }

pub returns-else-records-record_length : goal.returns-else-records-record_length
returns-else-records-record_length c =
    let a = c.args in
    let q = curve_at a.curve.now 0 in
    let e = record_length_is a.m in
    let w = rw (to_z-of_z c.ranges.t) at c.write_new.ensures in
    record {
      answer = λ f. done_answer f e q (walked (goal.at.returns-else-records-record_length c).In-Ok) refl (length a.records.now) c.if-records-record_length.false;
      list = λ f.
          w ∙ ap (λ l. sets l a.place (records_of (lists a.m) a.number q (ends_of (lists a.m) a.t q)))
          c.move_numbers.ensures ∙ done_list f e q (walked (goal.at.returns-else-records-record_length c).In-Ok) c.if-records-record_length.false;
    }
