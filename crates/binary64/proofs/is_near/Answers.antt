-- `binary64::is_near` meets its contract, at every f64: each way through the code is a law of `Near`. The tests' numbers stand in the code's facts by their
-- bit patterns, and are the laws' numbers once `of_bits` and `neg` are unfolded.
use Rattle.std.proofs.Common.{◌≡◌, ℤ, sym, ap, ◌∙◌, subst, w32, w64, SFits, to_z, of_z, rules}
use lib.Ieee.{binary64, of_bits, neg, eq, of_int, to_signed}
use lib.Ieee.Casts.{to_signed_in}
use mir.ValLaws.{to_z-of_z}
use Rattle.binary64.proofs.Near.{cut_fits, near_low, near_high, near_is, too_low, too_high}
use Rattle.binary64.proofs.is_near.Goals as goal
use Rattle.binary64.proofs.is_near.Goals.{After-truncating_f64_to_i64-cut, else-x-via-then-x+else-x-2, else-x-via-else-x}

pub truncating_f64_to_i64-cut-requires : goal.truncating_f64_to_i64-cut-requires
unfolding of_bits neg
truncating_f64_to_i64-cut-requires c =
    let x = c.args.x in
    let p = c.if-x.true in
    let q = c.if-x-2.true in
    record { lower_bound = near_low x p q; upper_bound = near_high x p q }

-- the cut, as the machine keeps it
cut_is : (c : After-truncating_f64_to_i64-cut) → to_z w64 (of_z w64 c.truncating_f64_to_i64-cut.result) ≡ to_signed 63 c.args.x
cut_is c =
    let x = c.args.x in
    ap (λ (z : ℤ). to_z w64 (of_z w64 z)) c.truncating_f64_to_i64-cut.ensures ∙ to_z-of_z w64 (to_signed 63 x) (record { sfits = to_signed_in 63 x })

pub overflow_cast-cut : goal.overflow_cast-cut
unfolding of_bits neg
overflow_cast-cut c =
    let x = c.args.x in
    subst (SFits w32) (sym (cut_is c)) (cut_fits x c.if-x.true c.if-x-2.true)

pub returns-then-x-2 : goal.returns-then-x-2
unfolding of_bits neg
returns-then-x-2 c =
    let x = c.args.x in
    let p = c.if-x.true in
    let q = c.if-x-2.true in
    ap (λ (z : ℤ). eq (of_int binary64 (to_z w32 (of_z w32 z))) x) (cut_is (goal.at.returns-then-x-2 c).After-truncating_f64_to_i64-cut)
    ∙ ap (λ (z : ℤ). eq (of_int binary64 z) x) (to_z-of_z w32 (to_signed 63 x) (cut_fits x p q))
    ∙ near_is x (search rules) p q

pub returns : goal.returns
unfolding of_bits neg
returns c =
    elim c.else-x.branch [ else-x-via-then-x+else-x-2 w ↦ too_high c.args.x w.if-x-2.false | else-x-via-else-x w ↦ too_low c.args.x w.if-x.false ]
