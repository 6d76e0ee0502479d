-- `binary64::is_whole` meets its contract, at every f64: each way through the code is a law of `Trip`. Assumes nothing.
use Rattle.std.proofs.Common.{T, ℤ, sym, ap, ◌∙◌, subst, inl, inr, w64, to_z, of_z, rules}
use lib.Ieee.{Float, binary64, of_bits, neg, eq, of_int, to_signed}
use lib.Ieee.Casts.{to_signed_in}
use mir.ValLaws.{to_z-of_z}
use Rattle.binary64.proofs.Trip.{near_is, far_is}
use Rattle.binary64.proofs.is_whole.Goals as goal
use Rattle.binary64.proofs.is_whole.Goals.{else-x-via-then-x+else-x-2, else-x-via-else-x}

pub truncating_f64_to_i64-cut-requires : goal.truncating_f64_to_i64-cut-requires
unfolding of_bits neg
truncating_f64_to_i64-cut-requires c = record { lower_bound = subst T (sym c.if-x.true) tt; upper_bound = subst T (sym c.if-x-2.true) tt }

-- the cut goes to the second call as its bits
pub returns-then-x-2 : goal.returns-then-x-2
unfolding of_bits neg
returns-then-x-2 c =
    let x = c.args.x in
    let cut = c.truncating_f64_to_i64-cut in
    ap (λ (y : Float). eq y x)
    (c.nearest_i64_to_f64.ensures
    ∙ ap (λ (z : ℤ). of_int binary64 (to_z w64 (of_z w64 z))) cut.ensures
    ∙ ap (of_int binary64) (to_z-of_z w64 (to_signed 63 x) (record { sfits = to_signed_in 63 x })))
    ∙ near_is x (search rules) c.if-x.true c.if-x-2.true

pub returns : goal.returns
unfolding of_bits neg
returns c = c.is_finite.ensures.value ∙ far_is c.args.x (search rules)
    (elim c.else-x.branch [ else-x-via-then-x+else-x-2 w ↦ inr w.if-x-2.false | else-x-via-else-x w ↦ inl w.if-x.false ])
