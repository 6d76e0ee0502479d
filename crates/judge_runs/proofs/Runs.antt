-- The boxes of runs, written one after the other.
use mathlib.Core.Path.{◌≡◌, refl, sym, ◌∙◌, ap, subst}
use mathlib.Core.Logic.{⊎_elim}
use mathlib.Core.Bool.{true, not}
use mathlib.Core.List.{List, [], ◌∷◌, ◌++◌}
use Prim.Native.Nat.{ℕ, zero, suc, ◌+◌, ◌*◌, ◌-◌, ◌/◌, ◌%◌, ◌≤◌, ◌<◌}
use native.Mathlib.Nat.{
  mul-zero,
  mul_comm,
  mul-suc,
  mul_left_comm,
  mul-le-mul_left,
  mul-mod_right,
  lt_of_mul-lt-mul_left,
  eq-or-lt_of_le,
  add-mod,
  zero-mod,
  div-le_self,
  div-add-mod,
  mod-lt,
}
use native.Mathlib.Numerals.{add-one}
use native.Mathlib.Omega.{arith}
use borrow.Author.Tests.{not-true, eqb-false}
use lib.Dec.{eqb}
use lib.ListN.{length, take, drop, set, length-append, get_or-append}
use lib.Seq.{sets, sets-eq, length-take-le, get_or-append-add, get_or-set_other}
use lib.IntN.{ℤ, pos}
use Rattle.integers.specs.Entry.{entry}
use Rattle.integers.proofs.Both.{both_true}
use Rattle.integers.proofs.Order.{lt_or_ge}
use Rattle.setting.specs.Setting.{Setting, record_length}
use Rattle.boxes.specs.declared.Box.{Box}
use Rattle.boxes.specs.Ranges.{numbers_of}
use Rattle.boxes.specs.Records.{box_at_index}
use Rattle.boxes.proofs.Records.{whole_is}
use Rattle.judge_list.specs.Checks.{length_fine}
use Rattle.judge.proofs.Judgements.{whole_of}
use Rattle.judge_runs.specs.Inside.{Around, RunEnd, RunLength, RunBox, Runs}
use Rattle.judge_runs.proofs.Boxes.{same_box}

-- ---- numbers written from index i on: what stands there, and what stands before
pub entry_written : (vs l : List ℤ) (i : ℕ) → i + length vs ≤ length l → (k : ℕ) → k < length vs → entry (sets l i vs) (i + k) ≡ entry vs k
entry_written vs l i h k m =
    let t = length-take-le i l (omega arith) in
    ap (λ z. entry z (i + k)) (sets-eq vs l i h)
    ∙ get_or-append (take i l ++ vs) (drop (i + length vs) l) (pos 0) (i + k) (omega (arith, length-append (take i l) vs))
    ∙ subst (λ n. entry (take i l ++ vs) (n + k) ≡ entry vs k) t (get_or-append-add (take i l) vs k (pos 0))

pub entry_before : (vs l : List ℤ) (i j : ℕ) → j < i → entry (sets l i vs) j ≡ entry l j
entry_before [] l i j h = refl
entry_before (v ∷ vs) l i j h = entry_before vs (set l i v) (suc i) j (omega arith) ∙ get_or-set_other l i j v (pos 0) (λ e. omega arith)

module _ (l : List ℤ) (i : ℕ) (b : Box) where
  pub box_written : i + 4 ≤ length l → box_at_index (sets l i (numbers_of b)) i ≡ b
  box_written h =
      let zeroth : i + 0 ≡ i = omega arith in
      same_box
      (subst (λ n. entry (sets l i (numbers_of b)) n ≡ b.x_low) zeroth (entry_written (numbers_of b) l i h 0 (omega arith)))
      (entry_written (numbers_of b) l i h 1 (omega arith))
      (entry_written (numbers_of b) l i h 2 (omega arith))
      (entry_written (numbers_of b) l i h 3 (omega arith))

  pub box_before : (j : ℕ) → j + 4 ≤ i → box_at_index l j ≡ box_at_index (sets l i (numbers_of b)) j
  box_before j h =
      same_box
      (sym (entry_before (numbers_of b) l i j (omega arith)))
      (sym (entry_before (numbers_of b) l i (j + 1) (omega arith)))
      (sym (entry_before (numbers_of b) l i (j + 2) (omega arith)))
      (sym (entry_before (numbers_of b) l i (j + 3) (omega arith)))

-- ---- a list of l numbers has room for box n of fewer than `most`, where one as long has room for all
pub room_left : {n most l k : ℕ} → n < most → l ≡ k → 4 * most ≤ k → 4 * n + 4 ≤ l
room_left h e r = omega arith

-- ---- one more box written, and the boxes before it
module _ {σ : Setting} {ns : List ℤ} {run count : ℕ} (boxes : List ℤ) {boxes' : List ℤ} (b : Box)
    (e : boxes' ≡ sets boxes (4 * count) (numbers_of b)) (room : 4 * count + 4 ≤ length boxes) where
  kept_box : (g : ℕ) → g < count → RunBox σ ns run boxes g → RunBox σ ns run boxes' g
  kept_box g h r = record {
    begins = r.begins;
    around = subst (λ a. Around σ ns (run * g) (run * suc g) a)
        (box_before boxes (4 * count) b (4 * g) (omega arith) ∙ ap (λ l. box_at_index l (4 * g)) (sym e)) r.around;
  }

  last_box : run * count < length ns → Around σ ns (run * count) (run * suc count) b → RunBox σ ns run boxes' count
  last_box h a = record {
    begins = h;
    around = subst (λ d. Around σ ns (run * count) (run * suc count) d)
        (sym (ap (λ l. box_at_index l (4 * count)) e ∙ box_written boxes (4 * count) b room)) a;
  }

  pub boxes_more : ((g : ℕ) → g < count → RunBox σ ns run boxes g) → run * count < length ns
      → Around σ ns (run * count) (run * suc count) b → (g : ℕ) → g < count + 1 → RunBox σ ns run boxes' g
  boxes_more each h a g l = ⊎_elim
      (λ f. subst (λ n. RunBox σ ns run boxes' n) (sym f) (last_box h a))
      (λ f. kept_box g f (each g f))
      (eq-or-lt_of_le {n = g} {m = count} (omega arith))

-- ---- the end of a run is where a record begins, or the end of the list
pub end_whole : (L : ℕ) {n at run to : ℕ} → RunEnd n at run to → at % L ≡ 0 → run % L ≡ 0 → n % L ≡ 0 → to % L ≡ 0
end_whole L {n} {at} {run} {to} r a b l = ⊎_elim
    (λ h. subst (λ k. k % L ≡ 0) (sym (r.full h)) (add-mod at run L ∙ rw (a, b) (zero-mod L)))
    (λ h. let i = r.inside in let e : n ≡ to = omega arith in subst (λ k. k % L ≡ 0) e l)
    (lt_or_ge to n)

-- ---- the loop over the runs: `count` boxes stand, and the next run begins at index `at`, or the list ends there
pub record RunsSoFar (σ : Setting) (ns : List ℤ) (run count at : ℕ) (boxes : List ℤ) : Type 0 where
  pub few : count ≤ 2048
  pub whole : at % record_length σ ≡ 0
  pub here : at < length ns → at ≡ run * count
  pub there : length ns ≤ at → length ns ≤ run * count
  pub each : (g : ℕ) → g < count → RunBox σ ns run boxes g

pub boxed_none : (σ : Setting) (ns : List ℤ) (run : ℕ) (boxes : List ℤ) → RunsSoFar σ ns run 0 0 boxes
boxed_none σ ns run boxes = record {
  few = omega arith;
  whole = zero-mod (record_length σ);
  here = λ h. sym (mul-zero run);
  there = λ h. omega (arith, mul-zero run);
  each = λ g h. absurd (omega arith);
}

module _ {σ : Setting} {ns : List ℤ} {run : ℕ} (length-of : RunLength σ (length ns) run) where
  module _ {count at : ℕ} {boxes : List ℤ} (b : RunsSoFar σ ns run count at boxes) (t : at < length ns) where
    pub one_left : count < 2048
    one_left =
        let e = b.here t in
        let f = length-of.enough in
        lt_of_mul-lt-mul_left run {m = count} {n = 2048} (omega (arith, mul_comm run 2048))

    module _ {to : ℕ} (r : RunEnd (length ns) at run to) where
      pub next_whole : to % record_length σ ≡ 0
      next_whole = end_whole (record_length σ) r b.whole length-of.whole length-of.list_whole

      whole_run : {d : Box} → Around σ ns at to d → Around σ ns (run * count) (run * suc count) d
      whole_run a = record {
        each = λ k i h l s m. a.each k i (let e = b.here t in omega arith) (before k l s) s m;
      }
        where
          before : (k : ℕ) → record_length σ * k < run * suc count → record_length σ * k < length ns → record_length σ * k < to
          before k l s = ⊎_elim
              (λ h. let e = b.here t in let f = r.full h in omega (arith, mul-suc run count))
              (λ h. omega arith)
              (lt_or_ge to (length ns))

      pub boxed_more : {boxes' : List ℤ} (d : Box) → Around σ ns at to d → boxes' ≡ sets boxes (4 * count) (numbers_of d)
          → 4 * count + 4 ≤ length boxes → RunsSoFar σ ns run (count + 1) to boxes'
      boxed_more d a e room = record {
        few = let h = one_left in omega arith;
        whole = next_whole;
        here = λ h. let f = b.here t in let g = r.full h in rw (add-one count) (omega (arith, mul-suc run count));
        there = λ h. let f = b.here t in let g = r.last h in rw (add-one count) (omega (arith, mul-suc run count));
        each = boxes_more boxes d e room b.each (let f = b.here t in omega arith) (whole_run a);
      }

  pub boxed_all : {count at : ℕ} {boxes : List ℤ} → RunsSoFar σ ns run count at boxes → length ns ≤ at → 8192 ≤ length boxes
      → Runs σ ns run count boxes
  boxed_all b h room = record {
    some = length-of.some;
    whole = length-of.whole;
    few = b.few;
    room = let f = b.few in omega arith;
    each = b.each;
    all = b.there h;
  }

-- ---- the length of a run: as many records as make at most 2,048 runs
length_some : (σ : Setting) (n : ℕ) → length_fine σ n ≡ true → 0 < n
length_some σ n e =
    let f = (both_true (not (eqb n 0)) (eqb (n % record_length σ) 0) e).0 in
    omega (arith, eqb-false n 0 (not-true (eqb n 0) f))

module _ (σ : Setting) (n : ℕ) (fine : length_fine σ n ≡ true) where
  abbrev records : ℕ
  records = n / record_length σ

  abbrev run_records : ℕ
  run_records = (records - 1) / 2048 + 1

  records_are : n ≡ record_length σ * records
  records_are = whole_is (record_length σ) n (whole_of σ n fine)

  pub records_some : 1 ≤ records
  records_some = go records records_are (length_some σ n fine)
    where
      go : (k : ℕ) → n ≡ record_length σ * k → 0 < n → 1 ≤ k
      go zero e h = absurd (omega (arith, mul-zero (record_length σ)))
      go (suc k) e h = omega arith

  pub run_few : run_records ≤ records
  run_few = let h = records_some in omega (arith, div-le_self (records - 1) 2048)

  pub run_within : record_length σ * run_records ≤ n
  run_within = omega (arith, records_are, mul-le-mul_left {m = run_records} {n = records} (record_length σ) run_few)

  runs_enough : records ≤ 2048 * run_records
  runs_enough =
      let h = records_some in
      let p : 0 < 2048 = omega arith in
      omega (arith, div-add-mod (records - 1) 2048, mod-lt (records - 1) {m = 2048} p)

  pub run_length : RunLength σ n (record_length σ * run_records)
  run_length = record {
    some = omega (arith, mul-le-mul_left {m = 1} {n = run_records} (record_length σ) (omega arith));
    whole = mul-mod_right (record_length σ) run_records;
    list_whole = whole_of σ n fine;
    enough = omega (
      arith,
      records_are,
      mul-le-mul_left {m = records} {n = 2048 * run_records} (record_length σ) runs_enough,
      mul_left_comm (record_length σ) 2048 run_records,
    );
  }
