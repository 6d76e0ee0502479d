-- What banding and then judging answers, from what the two promise: a refusal of banding, that of a point, or a judgement of the leaves written.
-- And what banding with no number lent says of banding into the whole list.
use mathlib.Core.Path.{◌≡◌, refl, sym, ap, subst}
use mathlib.Core.Bool.{Bool, true, false}
use mathlib.Core.List.{List}
use mathlib.Core.Option.{Option, none, some}
use Prim.Native.Nat.{ℕ, ◌+◌, ◌*◌, ◌/◌, ◌≤◌, ◌<◌}
use native.Mathlib.Nat.{mul_comm, div-lt_iff_lt-mul, le-div_iff_mul-le}
use native.Mathlib.Omega.{arith}
use lib.Dec.{ltb}
use lib.ListN.{length, take}
use lib.IntN.{ℤ}
use Rattle.integers.proofs.Clash.{clash}
use Rattle.refusals.specs.declared.Refusal.{Refusal}
use Rattle.refusals.specs.declared.Refusal.TheVariants.{Tolerance, TooFewRecords, PointX, PointY, Pieces, TooManyLeaves}
use Rattle.curve_nodes.specs.declared.Curve.{Curve}
use Rattle.boxes.specs.Ranges.{in_range}
use Rattle.setting.specs.Setting.{Setting, lists, pieces_fine, record_length}
use Rattle.setting.proofs.Pieces.{record_length_is}
use Rattle.outline.specs.Checks.{tolerance_fine, Outlined, curves, faulty, outlined}
use Rattle.band_passes.specs.Leaves.{first_too_wide, leaves_of, nodes_of}
use Rattle.band_banded.specs.declared.banding.Banded.{Banded}
use Rattle.std.specs.Prelude.{Option as Optional, Result, Ok, Err}
use Rattle.band_banded.specs.Banding.{done, band_given, answer_for, band_curves, band_outlined, banded, written}
use Rattle.band_banded.specs.Outcomes.{Faultless, Few}
use Rattle.band_banded.proofs.Theorems.{few_exactly, done_exactly, faultless_rows, written_some, written_sound}
use Rattle.judge.specs.declared.judging.Holder.{Holder}
use Rattle.judge.specs.Judging.{Judgement, point_fault, judging_fault, Verdict, Judged}
use Rattle.engine.specs.Outcomes.{written_for, Answered}
use Rattle.engine.specs.Inside.{refusal_or}
use Rattle.demand_3.proofs.Passing.{none_refused}
use Rattle.demand_3.proofs.Demand3.{demand_3}

-- ---- the room that code divides by a record's length
module _ (m room l : ℕ) where
  pub room_short : room / (6 + 4 * m) < l → room < record_length (lists m) * l
  room_short h = subst (λ (n : ℕ). room < n * l) (record_length_is m)
      (rw (mul_comm (6 + 4 * m) l) ((div-lt_iff_lt-mul {k = 6 + 4 * m} {x = room} {y = l} (omega arith)).0 h))

  pub room_enough : l ≤ room / (6 + 4 * m) → record_length (lists m) * l ≤ room
  room_enough h = subst (λ (n : ℕ). n * l ≤ room) (record_length_is m)
      (rw (mul_comm (6 + 4 * m) l) ((le-div_iff_mul-le {k = 6 + 4 * m} {x = l} {y = room} (omega arith)).0 h))

-- ---- banding with no number lent, by which a point out of range is refused
module _ (σ : Setting) (T : ℤ) (ns : List ℤ) (room : ℕ) (point : Refusal) where
  -- 8 says how many leaves there are
  module _ {l : ℕ} (e : banded σ T ns 0 ≡ Err (TooFewRecords l)) where
    few : (cs : List Curve) × Faultless σ T ns cs × Few σ T cs 0 l
    few = (few_exactly σ T ns 0 l).0 e

    numbers : record_length σ * leaves_of σ T few.0 ≡ record_length σ * l
    numbers = ap (λ n. record_length σ * n) few.2.leaves

    -- it is 8 again where the room is too little for them
    pub few_again : room < record_length σ * l → TooFewRecords l ≡ refusal_or point (banded σ T ns room)
    few_again h =
        let f = few.2 in
        let again : Few σ T few.0 room l = record { meet = f.meet; taken = f.taken; short = omega (arith, h, numbers); leaves = f.leaves } in
        rw ((few_exactly σ T ns room l).1 (few.0, few.1, again))

    -- and else banding is done
    pub few_no_more : record_length σ * l ≤ room → point ≡ refusal_or point (banded σ T ns room)
    few_no_more h =
        let f = few.2 in
        rw ((done_exactly σ T ns room (length few.0) l (nodes_of σ T few.0)).1 (
          few.0,
          few.1,
          record {
            meet = f.meet;
            taken = f.taken;
            enough = omega (arith, h, numbers);
            curves = refl;
            leaves = f.leaves;
            nodes = refl;
          },
        ))

  -- every other refusal is the same whatever is lent
  module _ {r : Refusal} (other : (l : ℕ) → TooFewRecords l ≡ r → ⊥) where
    refused_is : {q : Refusal} → ◌≡◌ {A = Result Banded Refusal} (Err q) (Err r) → q ≡ r
    refused_is e = cc

    answer_again : (o : Option Refusal) (n l k : ℕ) → answer_for σ 0 o n l k ≡ Err r → answer_for σ room o n l k ≡ Err r
    answer_again (some q) n l k e = e
    answer_again none n l k e = go (ltb σ.leaves l) (ltb 0 (record_length σ * l)) (ltb room (record_length σ * l)) e
      where
        -- 19, and then 8 or the report
        answer : (many short : Bool) → Result Banded Refusal
        answer many short =
            elim many [
              | true ↦ Err (TooManyLeaves l)
              | false ↦ elim short [ true ↦ Err (TooFewRecords l) | false ↦ done n l k ]
            ]

        go : (many none_lent short : Bool) → answer many none_lent ≡ Err r → answer many short ≡ Err r
        go true none_lent short e = e
        go false true short e = absurd (other l (refused_is e))
        go false false short e = clash (cc)

    curves_again : (cs : List Curve) → band_curves σ T cs 0 ≡ Err r → band_curves σ T cs room ≡ Err r
    unfolding band_curves
    curves_again cs = answer_again (first_too_wide σ T 0 cs) (length cs) (leaves_of σ T cs) (nodes_of σ T cs)

    pub other_again : banded σ T ns 0 ≡ Err r → r ≡ refusal_or point (banded σ T ns room)
    unfolding band_given
    other_again e = ap (refusal_or point) (sym (go (pieces_fine σ.pieces) (tolerance_fine T) (outlined σ.most σ.pieces ns) e))
      where
        answer : Bool → Bool → Outlined → ℕ → Result Banded Refusal
        answer rows fine o n =
            elim rows [ false ↦ Err Pieces | true ↦ elim fine [ false ↦ Err Tolerance | true ↦ band_outlined σ T o n ] ]

        go : (rows fine : Bool) (o : Outlined) → answer rows fine o 0 ≡ Err r → answer rows fine o room ≡ Err r
        go false fine o h = h
        go true false o h = h
        go true true (faulty q) h = h
        go true true (curves cs) h = curves_again cs h

-- ---- the leaves of an outline that is banded: they have room, there is one, and judging refuses none of them
pub done_room : (σ : Setting) (T : ℤ) (ns : List ℤ) (room : ℕ) {a b c : ℕ} → banded σ T ns room ≡ done a b c → record_length σ * b ≤ room
done_room σ T ns room {a} {b} {c} e =
    let r = ((done_exactly σ T ns room a b c).0 e).2 in omega (arith, r.enough, ap (λ n. record_length σ * n) r.leaves)

module _ (σ : Setting) (T : ℤ) (ns old : List ℤ) {a b c : ℕ} (e : banded σ T ns (length old) ≡ done a b c) where
  pub done_some : 0 < b
  done_some = let h = (done_exactly σ T ns (length old) a b c).0 e in written_some σ T ns old h.1 h.2

  pub done_passes : (x y : ℤ) → in_range x ≡ true → in_range y ≡ true
      → judging_fault σ (take (record_length σ * b) (written σ T ns old)) x y ≡ none
  done_passes x y in_x in_y =
      let h = (done_exactly σ T ns (length old) a b c).0 e in
      none_refused σ (faultless_rows h.1) done_some (written_sound σ T ns old h.1 h.2) x y in_x in_y

-- ---- banding and judging
module _ (σ : Setting) (T : ℤ) (ns old : List ℤ) (x y : ℤ) {list : List ℤ} where
  point_refused : {p r : Refusal} → point_fault x y ≡ some p → list ≡ old → r ≡ refusal_or p (banded σ T ns (length old))
      → (list ≡ written_for σ T ns x y old) × Answered σ T ns x y old (Err r)
  point_refused {p} {r} e left is = (rw e left, go (banded σ T ns (length old)) refl is)
    where
      go : (b : Result Banded Refusal) → banded σ T ns (length old) ≡ b → r ≡ refusal_or p b → Answered σ T ns x y old (Err r)
      go (Err q) f g = rw (f, Answered) (ap Err g)
      go (Ok b) f g = rw (f, Answered, e) (ap Err g)

  pub x_refused : {r : Refusal} → in_range x ≡ false → list ≡ old → r ≡ refusal_or PointX (banded σ T ns (length old))
      → (list ≡ written_for σ T ns x y old) × Answered σ T ns x y old (Err r)
  x_refused out = point_refused (rw out)

  pub y_refused : {r : Refusal} → in_range x ≡ true → in_range y ≡ false → list ≡ old → r ≡ refusal_or PointY (banded σ T ns (length old))
      → (list ≡ written_for σ T ns x y old) × Answered σ T ns x y old (Err r)
  y_refused in_x out = point_refused (rw (in_x, out))

  module _ (in_x : in_range x ≡ true) (in_y : in_range y ≡ true) (left : list ≡ written σ T ns old) where
    fine : point_fault x y ≡ none
    fine = rw (in_x, in_y)

    pub not_banded : {r : Refusal} → banded σ T ns (length old) ≡ Err r
        → (list ≡ written_for σ T ns x y old) × Answered σ T ns x y old (Err r)
    not_banded e = (rw fine left, rw (e, Answered) refl)

    module _ {b : Banded} (e : banded σ T ns (length old) ≡ Ok b) where
      abbrev rs : List ℤ
      rs = take (record_length σ * b.leaves) (written σ T ns old)

      of_leaves : (j : Judgement) → Judged σ (take (record_length σ * b.leaves) list) x y j → Judged σ rs x y j
      of_leaves j judged = rw left at judged

      verdict : (j : Judgement) → Judged σ rs x y j → Verdict σ none rs x y j
      verdict j judged = subst (λ f. Verdict σ f rs x y j) (done_passes σ T ns old e x y in_x in_y) judged

      -- the leaves pass the checks of judging
      pub never_refused : (r : Refusal) → Judged σ (take (record_length σ * b.leaves) list) x y (Err r) → ⊥
      never_refused r judged = verdict (Err r) (of_leaves (Err r) judged)

      pub banded_judged : (h : Optional Holder) → Judged σ (take (record_length σ * b.leaves) list) x y (Ok h)
          → (list ≡ written_for σ T ns x y old) × Answered σ T ns x y old (Ok (record { banded = b; holder = h }))
      banded_judged h judged =
          let j = of_leaves (Ok h) judged in (
            rw fine left,
            rw (e, Answered, fine) (record {
              holder = h;
              is = refl;
              judged = verdict (Ok h) j;
              demand_3 = demand_3 σ T ns old b.curves b.leaves b.nodes e x y (Ok h) j;
            }),
          )
