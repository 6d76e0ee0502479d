-- Banding's refusal, or that of a point, from banding with no number lent.
use mathlib.Core.Path.{◌≡◌, refl, sym, ◌∙◌, ap}
use mathlib.Core.List.{List, [], ◌∷◌, ◌++◌}
use Prim.Native.Nat.{ℕ}
use native.Mathlib.Omega.{arith}
use mir.Facts.{to_z-of_z}
use lib.ListN.{length}
use lib.IntN.{ℤ}
use Rattle.setting.specs.Setting.{lists}
use Rattle.refusals.specs.declared.Refusal.TheVariants.{TooFewRecords}
use Rattle.std.specs.Prelude.{Err}
use Rattle.band_banded.specs.Banding.{banded}
use Rattle.engine.proofs.Outcomes.{room_short, room_enough, few_again, few_no_more, other_again, done_some, done_room}
use Rattle.engine.proofs.refusal_or.Goals as goal
use Rattle.engine.proofs.refusal_or.Goals.{After-band, In-TooFewRecords}

-- no number is lent, so none is written in front of the list
none-in-front : (xs ys : List ℤ) → length xs ≡ 0 → xs ++ ys ≡ ys
none-in-front [] ys e = refl
none-in-front (x ∷ xs) ys e = absurd (omega arith)

unaltered : (c : After-band) → c.band.new.records ++ c.args.records.now ≡ c.args.records.now
unaltered c = none-in-front c.band.new.records c.args.records.now c.band.auto.records

-- what banding says of it
said : (c : After-band) → let a = c.args in banded (lists a.m) a.tolerance a.ns.now 0 ≡ c.band.result
said c = let r = rw (to_z-of_z c.ranges.tolerance) at c.band.ensures in sym r.value

-- and that this is 8
few : (c : In-TooFewRecords) → let b = banded (lists c.args.m) c.args.tolerance c.args.ns.now 0 in
    b ≡ c.band.result → b ≡ Err (TooFewRecords c.in-TooFewRecords.leaves)
few c e = e ∙ c.in-Err.is ∙ ap Err c.in-TooFewRecords.is

pub overflow_mul-record_length : goal.overflow_mul-record_length
overflow_mul-record_length c = omega (arith, c.ranges.m)

pub overflow_add-record_length : goal.overflow_add-record_length
overflow_add-record_length c = omega (arith, c.ranges.m)

pub returns-then-room-record_length : goal.returns-then-room-record_length
returns-then-room-record_length c =
    let a = c.args in record {
      records_unchanged = unaltered (goal.at.returns-then-room-record_length c).After-band;
      value = few_again (lists a.m) a.tolerance a.ns.now (length a.records.now) a.point (few (goal.at.returns-then-room-record_length c).In-TooFewRecords (said (goal.at.returns-then-room-record_length c).After-band))
          (room_short a.m (length a.records.now) _ c.if-room-record_length.true);
    }

pub returns-else-room-record_length : goal.returns-else-room-record_length
returns-else-room-record_length c =
    let a = c.args in record {
      records_unchanged = unaltered (goal.at.returns-else-room-record_length c).After-band;
      value = few_no_more (lists a.m) a.tolerance a.ns.now (length a.records.now) a.point (few (goal.at.returns-else-room-record_length c).In-TooFewRecords (said (goal.at.returns-else-room-record_length c).After-band))
          (room_enough a.m (length a.records.now) _ c.if-room-record_length.false);
    }

-- there is a leaf, for which there is no room
pub returns-in_default : goal.returns-in_default
returns-in_default c =
    let a = c.args in
    let e = said (goal.at.returns-in_default c).After-band ∙ c.in_default.is in
    absurd (omega (arith, done_some (lists a.m) a.tolerance a.ns.now [] e, done_room (lists a.m) a.tolerance a.ns.now 0 e))

pub returns-in_default-refusal : goal.returns-in_default-refusal
returns-in_default-refusal c =
    let a = c.args in
    let other : (l : ℕ) → TooFewRecords l ≡ c.in-Err.refusal → ⊥ = λ l e. c.in_default-refusal.not-TooFewRecords l (sym e) in
    let g = goal.at.returns-in_default-refusal c in
    record {
      records_unchanged = unaltered g.After-band;
      value = other_again (lists a.m) a.tolerance a.ns.now (length a.records.now) a.point other (said g.After-band ∙ c.in-Err.is);
    }

pub nonzero_div-room : goal.nonzero_div-room
nonzero_div-room c = omega arith
