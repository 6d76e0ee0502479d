-- The records of one curve among those of others: what stands before and after them, and a list in which they give way to those of another curve.
use mathlib.Core.Path.{◌≡◌, refl, sym, ◌∙◌, ap, ap₂, subst}
use mathlib.Core.List.{List, [], ◌∷◌, ◌++◌, append_assoc}
use mathlib.Core.Option.{some}
use Prim.Native.Nat.{ℕ, suc, ◌+◌, ◌-◌, ◌*◌, ◌/◌, ◌≤◌, ◌<◌}
use native.Mathlib.Nat.{mul-div_cancel_left}
use native.Mathlib.Omega.{arith}
use lib.ListN.{length, take, drop, set, length-append}
use lib.Seq.{sets, sets-eq, take-add, take-take, take_at, drop_at, length-take-le}
use lib.IntN.{ℤ}
use Rattle.std.specs.Prelude.{Ok, Err}
use Rattle.setting.specs.Setting.{Setting, record_length}
use Rattle.integers.proofs.Stores.{sets_append}
use Rattle.refusals.specs.declared.Refusal.TheVariants.{TooWide, TooFewRecords}
use Rattle.curve_nodes.specs.declared.Curve.{Curve}
use Rattle.walk_curve.specs.Walked.{ends_of}
use Rattle.walk_curve.specs.Inside.{walked_of}
use Rattle.band_records.specs.Records.{records_of, all_records}
use Rattle.band_records.proofs.Lengths.{records_length}
use Rattle.band_passes.specs.Leaves.{leaves_of}
use Rattle.band_passes.specs.FirstWide.{AllMeet}
use Rattle.band_passes.proofs.Wide.{wide_later, wide_here, none_wide, behind}
use Rattle.band_passes.proofs.Among.{all_records_length, records_among, leaves_among}
use Rattle.band_passes.proofs.Counting.{nodes_of_curves, few_leaves}
use Rattle.band_banded.specs.Banding.{done, band_curves}
use Rattle.band_banded.proofs.Cases.{few_said, done_said}
use Rattle.band_exchange.specs.Inside.{moved_to, Front}
use Rattle.band_exchange.proofs.Moves.{store_before}
use Rattle.band_exchange.proofs.Alone.{new_wide, new_leaves}

-- ---- two runs of stores that do not touch
stores_commute : (xs ys l : List ℤ) (i j : ℕ) → i + length xs ≤ j → sets (sets l j ys) i xs ≡ sets (sets l i xs) j ys
stores_commute [] ys l i j h = refl
stores_commute (x ∷ xs) ys l i j h =
    ap (λ m. sets m (suc i) xs) (store_before ys l j i x (omega arith)) ∙ stores_commute xs ys (set l i x) (suc i) j (omega arith)

-- ---- a list that begins with A, B and C, in which X comes to stand for B
module _ (l A B C X : List ℤ) (begins : take (length A + length B + length C) l ≡ A ++ (B ++ C))
    (inside : length A + length B + length C ≤ length l) (room : length A + length X + length C ≤ length l) where
  part_a : take (length A) l ≡ A
  part_a =
      sym (take-take (length A) (length A + length B + length C) l (omega arith)) ∙ ap (take (length A)) begins ∙ take_at A (B ++ C) (length A) refl

  part_c : take (length C) (drop (length A + length B) l) ≡ C
  part_c =
      let n = length A + length B in
      sym (drop_at (take n l) (take (length C) (drop n l)) n (length-take-le n l (omega arith)))
      ∙ ap (drop n) (sym (take-add n (length C) l) ∙ begins ∙ sym (append_assoc A B C)) ∙ drop_at (A ++ B) C n (length-append A B)

  pub replaced_list : sets (moved_to l (length A + length B) (length A + length X) (length C)) (length A) X
      ≡ (A ++ (X ++ C)) ++ drop (length (A ++ (X ++ C))) l
  replaced_list =
      ap (λ q. sets (sets l (length A + length X) q) (length A) X) part_c
      ∙ stores_commute X C l (length A) (length A + length X) (omega arith)
      ∙ sym (sets_append l (length A) X C)
      ∙ sets-eq (X ++ C) l (length A) (omega (arith, length-append X C))
      ∙ ap₂ (λ q n. (q ++ (X ++ C)) ++ drop n l) part_a (sym (length-append A (X ++ C)))

-- ---- a list with the records of curves at its front, and a curve for one of them; a record has rl numbers
module _ {σ : Setting} {T : ℤ} {l : List ℤ} {n whole k place end : ℕ} (f : Front σ T l n whole k place end) where
  old_leaves : whole ≡ record_length σ * (leaves_of σ T f.before + (length (ends_of σ T f.curve) + leaves_of σ T f.after))
  old_leaves = f.all ∙ ap (λ m. record_length σ * m) (leaves_among σ T f.curve f.after f.before)

  count_among : (c : Curve) → length (f.before ++ c ∷ f.after) ≡ length f.before + suc (length f.after)
  count_among c = length-append f.before (c ∷ f.after)

  pub few_number : k < 4096
  few_number = omega (arith, f.number, f.count, f.few, count_among f.curve)

  old_own : end - place ≡ record_length σ * length (ends_of σ T f.curve)
  old_own = omega (arith, f.over)

  pub own_fewer : end - place ≤ whole
  own_fewer = omega (arith, old_own, old_leaves)

  module _ {rl : ℕ} (e : rl ≡ record_length σ) where
    others : (whole - (end - place)) / rl ≡ leaves_of σ T f.before + leaves_of σ T f.after
    others =
        let x = leaves_of σ T f.before + leaves_of σ T f.after in
        let d : whole - (end - place) ≡ record_length σ * x = omega (arith, old_own, old_leaves) in
        rw (e, d) (mul-div_cancel_left x {n = record_length σ} (omega arith))

    module _ (c : Curve) where
      abbrev cs : List Curve
      cs = f.before ++ c ∷ f.after

      cs_count : length cs ≡ n
      cs_count = omega (arith, count_among c, count_among f.curve, f.count)

      pub cs_few : leaves_of σ T cs ≤ 1048576
      cs_few = omega (arith, few_leaves σ T cs, cs_count, f.few)

      -- 7
      pub wide_answer : (node room : ℕ) → Err node ≡ walked_of σ T c → Err (TooWide k node) ≡ band_curves σ T cs room
      unfolding band_curves
      wide_answer node room w =
          let at : 0 + length f.before ≡ k = omega (arith, f.number) in
          let here = behind σ T 0 f.before (c ∷ f.after) f.meet_before
          ∙ wide_here σ T (0 + length f.before) c f.after node (new_wide σ T c node w)
          ∙ ap (λ m. some (TooWide m node)) at in
          rw here

      module _ {own : ℕ} (w : Ok own ≡ walked_of σ T c) where
        pub now_leaves : (whole - (end - place)) / rl + own ≡ leaves_of σ T cs
        now_leaves = omega (arith, others, (new_leaves σ T c own w).1, leaves_among σ T c f.after f.before)

        meet : AllMeet σ T cs
        meet = (none_wide σ T 0 cs).0
            (behind σ T 0 f.before (c ∷ f.after) f.meet_before
            ∙ wide_later σ T (0 + length f.before) c f.after (new_leaves σ T c own w).0
            ∙ (none_wide σ T (suc (0 + length f.before)) f.after).1 f.meet_after)

        -- 8
        pub few_answer : σ.leaves ≡ 1048576 → (room : ℕ) → room < rl * ((whole - (end - place)) / rl + own)
            → Err (TooFewRecords ((whole - (end - place)) / rl + own)) ≡ band_curves σ T cs room
        few_answer most room h =
            let short : room < record_length σ * leaves_of σ T cs = subst (λ m. room < m) (ap₂ (λ a b. a * b) e now_leaves) h in
            sym (few_said σ T cs room (record { meet = meet; taken = omega (arith, most, cs_few); short = short; leaves = sym now_leaves }))

        pub done_answer : σ.leaves ≡ 1048576 → (room : ℕ) → rl * ((whole - (end - place)) / rl + own) ≤ room
            → done n ((whole - (end - place)) / rl + own) (2 * ((whole - (end - place)) / rl + own) - n) ≡ band_curves σ T cs room
        done_answer most room h =
            let enough : record_length σ * leaves_of σ T cs ≤ room = subst (λ m. m ≤ room) (ap₂ (λ a b. a * b) e now_leaves) h in
            sym (done_said σ T cs room (record {
              meet = meet;
              taken = omega (arith, most, cs_few);
              enough = enough;
              curves = cs_count;
              leaves = sym now_leaves;
              nodes = omega (arith, nodes_of_curves σ T cs, now_leaves, cs_count);
            }))

        pub nodes_fit : n ≤ 2 * ((whole - (end - place)) / rl + own)
        nodes_fit = omega (arith, nodes_of_curves σ T cs, now_leaves, cs_count)

        -- ---- where the records stand, and come to stand
        abbrev A : List ℤ
        A = all_records σ T 0 f.before

        abbrev B : List ℤ
        B = records_of σ (0 + length f.before) f.curve (ends_of σ T f.curve)

        abbrev C : List ℤ
        C = all_records σ T (suc (0 + length f.before)) f.after

        abbrev X : List ℤ
        X = records_of σ (0 + length f.before) c (ends_of σ T c)

        long_a : place ≡ length A
        long_a = f.here ∙ sym (all_records_length σ T 0 f.before)

        long_b : end ≡ length A + length B
        long_b = omega (arith, f.over, long_a, records_length σ (0 + length f.before) f.curve (ends_of σ T f.curve))

        long_x : rl * own ≡ length X
        long_x = ap₂ (λ a b. a * b) e (new_leaves σ T c own w).1 ∙ sym (records_length σ (0 + length f.before) c (ends_of σ T c))

        all_old : whole ≡ length A + length B + length C
        all_old = omega (
          arith,
          old_leaves,
          all_records_length σ T 0 f.before,
          records_length σ (0 + length f.before) f.curve (ends_of σ T f.curve),
          all_records_length σ T (suc (0 + length f.before)) f.after,
        )

        long_c : whole - end ≡ length C
        long_c = omega (arith, all_old, long_b)

        pub tail_inside : end ≤ whole
        tail_inside = omega (arith, all_old, long_b)

        pub from_inside : end + (whole - end) ≤ length l
        from_inside = omega (arith, long_c, long_b, all_old, f.room)

        all_new : record_length σ * leaves_of σ T cs ≡ length A + length X + length C
        all_new = omega (
          arith,
          ap (λ m. record_length σ * m) (leaves_among σ T c f.after f.before),
          all_records_length σ T 0 f.before,
          records_length σ (0 + length f.before) c (ends_of σ T c),
          all_records_length σ T (suc (0 + length f.before)) f.after,
        )

        module _ (h : rl * ((whole - (end - place)) / rl + own) ≤ length l) where
          room : length A + length X + length C ≤ length l
          room = omega (arith, all_new, subst (λ m. m ≤ length l) (ap₂ (λ a b. a * b) e now_leaves) h)

          pub to_inside : place + rl * own + (whole - end) ≤ length l
          to_inside = omega (arith, long_a, long_x, long_c, room)

          pub done_list : sets (moved_to l end (place + rl * own) (whole - end)) place (records_of σ k c (ends_of σ T c))
              ≡ all_records σ T 0 cs ++ drop (length (all_records σ T 0 cs)) l
          done_list =
              let number : k ≡ 0 + length f.before = omega (arith, f.number) in
              let begins : take (length A + length B + length C) l ≡ A ++ (B ++ C)
              = ap (λ m. take m l) (sym all_old) ∙ f.records ∙ records_among σ T f.curve f.after 0 f.before in
              let to : place + rl * own ≡ length A + length X = omega (arith, long_a, long_x) in
              ap₂ (λ a b. sets (moved_to l end (place + rl * own) (whole - end)) a (records_of σ b c (ends_of σ T c))) long_a number
              ∙ ap (λ a. sets (moved_to l a (place + rl * own) (whole - end)) (length A) X) long_b
              ∙ ap₂ (λ a b. sets (moved_to l (length A + length B) a b) (length A) X) to long_c
              ∙ replaced_list l A B C X begins (omega (arith, all_old, f.room)) room
              ∙ ap (λ rs. rs ++ drop (length rs) l) (sym (records_among σ T c f.after 0 f.before))
