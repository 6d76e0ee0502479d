-- The search for a cover that holds a point: what a list that passed its checks says of a record, the covers of a record one by one, and the records
-- one by one.
use mathlib.Core.Path.{◌≡◌, refl, sym, ◌∙◌, ap, ap₂, subst}
use mathlib.Core.Logic.{⊎_elim}
use mathlib.Core.Bool.{Bool, true, false, not}
use mathlib.Core.List.{List}
use mathlib.Core.Option.{none, some}
use Prim.Native.Nat.{ℕ, zero, suc, ◌+◌, ◌*◌, ◌-◌, ◌/◌, ◌%◌, ◌≤◌, ◌<◌}
use native.Mathlib.Nat.{zero-add, zero-mod, mul-lt-mul_of_pos_left}
use native.Mathlib.Omega.{arith}
use lib.ListN.{length}
use lib.IntN.{ℤ, pos, neg_ℤ, nat_abs}
use lib.Signed.{le_z}
use borrow.Author.Tests.{not-true, not-false}
use mir.Syntax.{w32}
use mir.Val.{SFits}
use mir.Facts.{to_z-of_z}
use Rattle.integers.proofs.Ranges.{stored}
use Rattle.integers.specs.Entry.{entry}
use Rattle.integers.specs.First.{first_bad}
use Rattle.integers.proofs.Clash.{clash}
use Rattle.integers.proofs.Order.{lt_or_ge}
use Rattle.integers.proofs.Size.{abs_within}
use Rattle.integers.proofs.Between.{between_low, between_high}
use Rattle.integers.proofs.First.{none_bad, bad_none, bad_below, bad_is, bad_first}
use Rattle.integers.proofs.Both.{both_true}
use Rattle.std.specs.Prelude.{None}
use Rattle.boxes.specs.declared.Box.{Box}
use Rattle.boxes.specs.Ranges.{farthest, in_range, low_fine, box_number_fine}
use Rattle.setting.specs.Setting.{Setting, break_points, covers, record_length}
use Rattle.boxes.specs.Records.{box_index, box_at_index}
use Rattle.boxes.proofs.Records.{record_left, record_next, one_record, whole_is}
use Rattle.judge_list.specs.Checks.{number_fault}
use Rattle.judge_list.specs.Inside.{fine_at, record_fault_at}
use Rattle.judge_list.proofs.Numbers.{gone_on, found_first, in_list, in_record}
use Rattle.judge_cover.specs.Covers.{CoverHolds}
use Rattle.judge_cover.specs.Deciding.{held}
use Rattle.judge_cover.specs.Inside.{BoxInRange}
use Rattle.judge_cover.proofs.Deciding.{held_exactly}
use Rattle.judge.specs.Judging.{off, Passed, FirstHolder, Verdict}
use Rattle.judge.specs.Inside.{InRange, RecordAt, held_at, holder_at, ApartTo, NextNear, Searched}
use Rattle.judge.proofs.Apart.{apart_held}
use Rattle.judge.proofs.Judgements.{whole_of}

pub range_size : (z : ℤ) → in_range z ≡ true → nat_abs z ≤ farthest
range_size z e = abs_within farthest z (between_low (neg_ℤ (pos farthest)) (pos farthest) z e) (between_high (neg_ℤ (pos farthest)) (pos farthest) z e)

-- a point that passed check 11, as the code hands it on
pub in_ranges : {x y : ℤ} → SFits w32 x → SFits w32 y → in_range x ≡ true → in_range y ≡ true → InRange (stored w32 x) (stored w32 y)
in_ranges {x} {y} fx fy ex ey = rw (to_z-of_z fx, to_z-of_z fy) (record { in_x = range_size x ex; in_y = range_size y ey })

-- ---- a record that passed: its boxes are in range
number_range : (p : ℕ) (z next : ℤ) → box_number_fine p z next ≡ true → in_range z ≡ true
number_range p z next e = go (p % 2) e
  where
    go : (q : ℕ) → ◌≡◌ {A = Bool} (elim q [ zero ↦ low_fine z next | suc _ ↦ in_range z ]) true → in_range z ≡ true
    go zero f = (both_true (in_range z) (le_z z next) f).0
    go (suc q) f = f

module _ {σ : Setting} {ns : List ℤ} {at : ℕ} (r : RecordAt σ ns at) where
  range_at : (q : ℕ) → q < 4 * break_points σ → nat_abs (entry ns (at + (2 + q))) ≤ farthest
  unfolding record_fault_at
  range_at q h =
      let e = none_bad (fine_at σ.most ns at) (record_length σ) 0 r.fine (suc (suc q)) (omega arith) in
      let n : 0 + suc (suc q) ≡ suc (suc q) = omega arith in
      let m : 2 + q ≡ suc (suc q) = omega arith in
      rw m (range_size (entry ns (at + suc (suc q))) (number_range q (entry ns (at + suc (suc q))) (entry ns (at + suc (suc (suc q)))) (rw n at e)))

  pub box_in_range : (i : ℕ) → i ≤ covers σ → BoxInRange (box_at_index ns (at + (2 + 4 * i)))
  box_in_range i h = record {
    x = record { low = part 0 (omega arith) (omega arith); high = part 1 (omega arith) (omega arith) };
    y = record { low = part 2 (omega arith) (omega arith); high = part 3 (omega arith) (omega arith) };
  }
    where
      part : (s : ℕ) → 4 * i + s < 4 * break_points σ → {j : ℕ} → at + (2 + (4 * i + s)) ≡ j → nat_abs (entry ns j) ≤ farthest
      part s l {j} e = subst (λ k. nat_abs (entry ns k) ≤ farthest) e (range_at (4 * i + s) l)

-- ---- the covers of a record
module _ (σ : Setting) (ns : List ℤ) (x y : ℤ) (at : ℕ) where
  abbrev missed : ℕ → Bool
  missed i = not (held_at ns x y at i)

  pub held_is : (i : ℕ) (p q : Box) → p ≡ box_at_index ns (at + (2 + 4 * i)) → q ≡ box_at_index ns (at + (6 + 4 * i)) → held p q x y ≡ held_at ns x y at i
  held_is i p q e f =
      let n : at + (6 + 4 * i) ≡ at + (2 + 4 * suc i) = omega arith in
      ap₂ (λ a b. held a b x y) e (f ∙ ap (box_at_index ns) n)

  pub record Missed (i : ℕ) : Type 0 where
    pub few : i ≤ covers σ
    pub none_holds : first_bad missed i 0 ≡ none

  pub missed_none : Missed 0
  unfolding first_bad
  missed_none = record { few = omega arith; none_holds = refl }

  module _ (i : ℕ) (m : Missed i) (h : i < covers σ) where
    one_more : first_bad missed (i + 1) 0 ≡ first_bad missed 1 i
    one_more = gone_on missed i 1 m.none_holds ∙ ap (first_bad missed 1) {x = 0 + i} {y = i} (omega arith)

    pub missed_more : held_at ns x y at i ≡ false → Missed (i + 1)
    unfolding first_bad
    missed_more e = record { few = omega arith; none_holds = one_more ∙ rw (first_bad, e) }

    pub cover_found : held_at ns x y at i ≡ true → holder_at σ ns x y at ≡ some i
    unfolding first_bad holder_at
    cover_found e =
        let f : first_bad missed 1 i ≡ some i = rw (first_bad, e) in
        let g = found_first missed (i + 1) (covers σ - (i + 1)) i (one_more ∙ f) in
        let n : covers σ ≡ i + 1 + (covers σ - (i + 1)) = omega arith in
        ap (λ k. first_bad missed k 0) n ∙ g

  pub all_missed : (i : ℕ) → Missed i → covers σ ≤ i → holder_at σ ns x y at ≡ none
  unfolding holder_at
  all_missed i m h =
      let f = m.few in
      let e : i ≡ covers σ = omega arith in
      rw e at m.none_holds

  pub holder_below : (i : ℕ) → holder_at σ ns x y at ≡ some i → i < covers σ
  unfolding holder_at
  holder_below i e = omega (arith, bad_below missed (covers σ) 0 i e)

  pub holder_holds : (i : ℕ) → holder_at σ ns x y at ≡ some i → held_at ns x y at i ≡ true
  unfolding holder_at
  holder_holds i e = not-false (held_at ns x y at i) (bad_is missed (covers σ) 0 i e)

  -- no lower cover does
  pub holder_first : (i : ℕ) → holder_at σ ns x y at ≡ some i → (q : ℕ) → q < i → held_at ns x y at q ≡ false
  unfolding holder_at
  holder_first i e q l = not-true (held_at ns x y at q) (bad_first missed (covers σ) 0 i e q (omega arith) l)

  pub holder_none : holder_at σ ns x y at ≡ none → (i : ℕ) → i < covers σ → held_at ns x y at i ≡ false
  unfolding holder_at
  holder_none h i l =
      let e = none_bad missed (covers σ) 0 h i l in
      let n : 0 + i ≡ i = omega arith in
      not-true (held_at ns x y at i) (rw n at e)

-- ---- the records of a list that passed
module _ {σ : Setting} {ns : List ℤ} (passed : Passed σ ns) where
  pub record_passed : (at : ℕ) → at % record_length σ ≡ 0 → at < length ns → RecordAt σ ns at
  unfolding record_fault_at number_fault
  record_passed at e h =
      let inside = record_left (record_length σ) e (whole_of σ (length ns) passed.whole) h in
      record { inside = inside; fine = bad_none (fine_at σ.most ns at) (record_length σ) 0 (λ k l. each k l inside) }
    where
      each : (k : ℕ) → k < record_length σ → at + record_length σ ≤ length ns → fine_at σ.most ns at (0 + k) ≡ true
      each k l inside =
          let t = none_bad (in_list σ ns) (length ns) 0 passed.numbers (at + k) (omega arith) in
          rw zero-add (sym (in_record σ ns at e k l) ∙ (rw zero-add at t))

pub searched_none : (σ : Setting) (ns : List ℤ) (x y : ℤ) → Searched σ ns x y 0
searched_none σ ns x y = record { begins = zero-mod (record_length σ); no_cover = λ k i h n l. absurd (omega arith) }

module _ {σ : Setting} {ns : List ℤ} {x y : ℤ} {at : ℕ} (s : Searched σ ns x y at) where
  not_held : (k i : ℕ) → held_at ns x y (record_length σ * k) i ≡ false → CoverHolds σ ns k i x y → ⊥
  not_held k i e c = both e ((held_exactly (box_at_index ns (box_index σ k i)) (box_at_index ns (box_index σ k (suc i))) x y).1 c)
    where
      both : {b : Bool} → b ≡ false → b ≡ true → ⊥
      both f t = clash (cc)

  pub searched_more : holder_at σ ns x y at ≡ none → Searched σ ns x y (at + record_length σ)
  searched_more h = record {
    begins = record_next (record_length σ) at s.begins;
    no_cover = λ k i l r m. ⊎_elim (λ n. s.no_cover k i n r m) (λ n. last k i m (one_record (record_length σ) k s.begins n l))
        (lt_or_ge (record_length σ * k) at);
  }
    where
      last : (k i : ℕ) → i < covers σ → record_length σ * k ≡ at → held_at ns x y (record_length σ * k) i ≡ false
      last k i m e =
          holder_none σ ns x y (record_length σ * k) (subst (λ b. holder_at σ ns x y b ≡ none) (sym e) h) i m

  -- records that the point is apart from are searched as well
  pub searched_over : {to : ℕ} → ApartTo σ x y ns at to → Searched σ ns x y to
  searched_over {to} a = record {
    begins = a.whole;
    no_cover = λ k i l r m. ⊎_elim
        (λ n. s.no_cover k i n r m)
        (λ n. apart_held σ ns x y (record_length σ * k) (a.each k n l) i m)
        (lt_or_ge (record_length σ * k) at);
  }

  -- and so is the rest, where the point is apart from each
  pub searched_rest : {to : ℕ} → NextNear σ x y ns at to None → to % record_length σ ≡ 0 → Searched σ ns x y to
  searched_rest {to} a e = record {
    begins = e;
    no_cover = λ k i l r m. ⊎_elim
        (λ n. s.no_cover k i n r m)
        (λ n. apart_held σ ns x y (record_length σ * k) (a k n l) i m)
        (lt_or_ge (record_length σ * k) at);
  }

  -- a search that went farther went as far as any record before
  pub searched_back : {to : ℕ} → to % record_length σ ≡ 0 → to ≤ at → Searched σ ns x y to
  searched_back e h = record { begins = e; no_cover = λ k i l r m. s.no_cover k i (omega arith) r m }

  -- past the end of the list there is nothing to search
  pub searched_past : {to : ℕ} → to % record_length σ ≡ 0 → length ns ≤ at → Searched σ ns x y to
  searched_past e h = record { begins = e; no_cover = λ k i l r m. s.no_cover k i (omega arith) r m }

  -- the record at index `at` is the first that holds the point
  pub found_on : (i : ℕ) → at < length ns → holder_at σ ns x y at ≡ some i → FirstHolder σ ns x y (at / record_length σ) i
  found_on i h e =
      let leaf = at / record_length σ in
      let b : at ≡ record_length σ * leaf = whole_is (record_length σ) at s.begins in
      record {
        inside = omega arith;
        cover = holder_below σ ns x y at i e;
        holds =
            (held_exactly (box_at_index ns (box_index σ leaf i)) (box_at_index ns (box_index σ leaf (suc i))) x y).0
            (subst (λ n. held_at ns x y n i ≡ true) b (holder_holds σ ns x y at i e));
        none_earlier = λ k q m n. not_held k q (let l = before k m b in s.no_cover k q l (omega arith) n);
        none_lower = λ q m. not_held leaf q (subst (λ n. held_at ns x y n q ≡ false) b (holder_first σ ns x y at i e q m));
      }
    where
      before : (k : ℕ) → k < at / record_length σ → at ≡ record_length σ * (at / record_length σ) → record_length σ * k < at
      before k l b =
          let p : 0 < record_length σ = omega arith in
          omega (arith, mul-lt-mul_of_pos_left {m = k} {n = at / record_length σ} l p)

  pub found_off : length ns ≤ at → Verdict σ none ns x y off
  found_off h k i l m = not_held k i (s.no_cover k i (omega arith) l m)
