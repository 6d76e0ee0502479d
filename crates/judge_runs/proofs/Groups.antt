-- The boxes of groups of 64 runs, written one after the other; and a group as one long run.
use mathlib.Core.Path.{◌≡◌, refl, sym, ◌∙◌, ap, subst}
use mathlib.Core.Logic.{⊎_elim}
use mathlib.Core.List.{List}
use Prim.Native.Nat.{ℕ, suc, ◌+◌, ◌*◌, ◌-◌, ◌/◌, ◌%◌, ◌≤◌, ◌<◌}
use native.Mathlib.Nat.{mul_assoc, mul-suc, mul-le-mul_left, div-add-mod, mod-lt, mul-mod_right, eq-or-lt_of_le, lt_of_mul-lt-mul_left}
use native.Mathlib.Omega.{arith}
use lib.ListN.{length}
use lib.Seq.{sets}
use lib.IntN.{ℤ}
use Rattle.integers.proofs.Order.{lt_or_ge}
use Rattle.setting.specs.Setting.{Setting, break_points, record_length}
use Rattle.boxes.specs.declared.Box.{Box}
use Rattle.boxes.specs.Ranges.{numbers_of}
use Rattle.boxes.specs.Records.{box_index, box_at_index}
use Rattle.boxes.proofs.Records.{whole_is}
use Rattle.judge.specs.Inside.{Searched}
use Rattle.judge.proofs.Holders.{searched_past}
use Rattle.judge_runs.specs.Inside.{round_boxes, LiesIn, RunEnd, RunBox, Runs, RunsTo, GroupBox, Groups}
use Rattle.judge_runs.proofs.Boxes.{lies_on, round_each}
use Rattle.judge_runs.proofs.Runs.{box_written, box_before}

-- ---- the loop over the groups: n boxes stand, and the next group begins with run `first`, or there are no more
pub record GroupsSoFar (runs : List ℤ) (count n first : ℕ) (groups : List ℤ) : Type 0 where
  pub few : n ≤ 32
  pub within : first ≤ count
  pub here : first < count → first ≡ 64 * n
  pub there : count ≤ first → count ≤ 64 * n
  pub each : (c : ℕ) → c < n → GroupBox runs count groups c

pub grouped_none : (runs : List ℤ) (count : ℕ) (groups : List ℤ) → GroupsSoFar runs count 0 0 groups
grouped_none runs count groups = record {
  few = omega arith;
  within = omega arith;
  here = λ h. refl;
  there = λ h. omega arith;
  each = λ c h. absurd (omega arith);
}

module _ {runs : List ℤ} {count : ℕ} (most : count ≤ 2048) {n first : ℕ} {groups : List ℤ} (b : GroupsSoFar runs count n first groups)
    (t : first < count) where
  pub group_left : n < 32
  group_left = let e = b.here t in omega arith

  module _ {next : ℕ} (r : RunEnd count first 64 next) (d : Box) {groups' : List ℤ}
      (e : groups' ≡ sets groups (4 * n) (numbers_of (round_boxes d runs (4 * first) (next - first)))) (room : 4 * n + 4 ≤ length groups) where
    abbrev around : Box
    around = round_boxes d runs (4 * first) (next - first)

    kept_group : (c : ℕ) → c < n → GroupBox runs count groups c → GroupBox runs count groups' c
    kept_group c h g = record {
      begins = g.begins;
      around = λ k l m o. subst (λ a. LiesIn (box_at_index runs (4 * k)) a)
          (box_before groups (4 * n) around (4 * c) (omega arith) ∙ ap (λ l. box_at_index l (4 * c)) (sym e)) (g.around k l m o);
    }

    last_group : GroupBox runs count groups' n
    last_group = record {
      begins = let f = b.here t in omega arith;
      around = λ k l m o. subst (λ a. LiesIn (box_at_index runs (4 * k)) a)
          (sym (ap (λ l. box_at_index l (4 * n)) e ∙ box_written groups (4 * n) around room)) (inside k l m o);
    }
      where
        before : (k : ℕ) → k < 64 * suc n → k < count → k < next
        before k m o = ⊎_elim (λ h. let f = b.here t in let g = r.full h in omega arith) (λ h. omega arith) (lt_or_ge next count)

        inside : (k : ℕ) → 64 * n ≤ k → k < 64 * suc n → k < count → LiesIn (box_at_index runs (4 * k)) around
        inside k l m o =
            let f = b.here t in
            let h = before k m o in
            let j : 4 * first + 4 * (k - first) ≡ 4 * k = omega arith in
            subst (λ i. LiesIn (box_at_index runs i) around) j (round_each d runs (4 * first) (next - first) (k - first) (omega arith))

    pub grouped_more : GroupsSoFar runs count (n + 1) next groups'
    grouped_more = record {
      few = let h = group_left in omega arith;
      within = r.inside;
      here = λ h. let f = b.here t in let g = r.full h in omega arith;
      there = λ h. let f = b.here t in let g = r.last h in omega arith;
      each = λ c l. ⊎_elim
          (λ f. subst (λ k. GroupBox runs count groups' k) (sym f) last_group)
          (λ f. kept_group c f (b.each c f))
          (eq-or-lt_of_le {n = c} {m = n} (omega arith));
    }

pub grouped_all : {runs : List ℤ} {count n first : ℕ} {groups : List ℤ} → GroupsSoFar runs count n first groups → count ≤ first → 128 ≤ length groups
    → Groups runs count n groups
grouped_all b h room = record { few = b.few; room = let f = b.few in omega arith; each = b.each; all = b.there h }

-- ---- a group is a run of 64 times as many numbers
times_whole : (L run k : ℕ) → run % L ≡ 0 → (run * k) % L ≡ 0
times_whole L run k e = ap (λ r. (r * k) % L) (whole_is L run e) ∙ ap (λ r. r % L) (mul_assoc L (run / L) k) ∙ mul-mod_right L (run / L * k)

module _ {σ : Setting} {ns : List ℤ} {run count : ℕ} {runs : List ℤ} (rs : Runs σ ns run count runs) where
  -- an index of the list lies in a run
  run_of : (j : ℕ) → j < length ns → (run * (j / run) ≤ j) × (j < run * suc (j / run)) × (j / run < count)
  run_of j h =
      let e = div-add-mod j run in
      let m = mod-lt j rs.some in
      let a = rs.all in
      let l = lt_of_mul-lt-mul_left run {m = j / run} {n = count} (omega arith) in
      (omega arith, omega (arith, mul-suc run (j / run)), l)

  pub group_run : {n : ℕ} {groups : List ℤ} → Groups runs count n groups → (c : ℕ) → c < n → RunBox σ ns (run * 64) groups c
  group_run {n} {groups} gs c h =
      let g = gs.each c h in
      record {
        begins = rw (mul_assoc run 64 c) (rs.each (64 * c) g.begins).begins;
        around = record { each = inside g };
      }
    where
      inside : GroupBox runs count groups c → (k i : ℕ) → run * 64 * c ≤ record_length σ * k → record_length σ * k < run * 64 * suc c
          → record_length σ * k < length ns → i < break_points σ → LiesIn (box_at_index ns (box_index σ k i)) (box_at_index groups (4 * c))
      inside g k i a b l m =
          let j = record_length σ * k in
          let o = run_of j l in
          let r = j / run in
          let u = lt_of_mul-lt-mul_left run {m = 64 * c} {n = suc r} (omega (arith, mul_assoc run 64 c, o.1)) in
          let v = lt_of_mul-lt-mul_left run {m = r} {n = 64 * suc c} (omega (arith, mul_assoc run 64 (suc c), o.0)) in
          lies_on ((rs.each r o.2).around.each k i o.0 o.1 l m) (g.around r (omega arith) v o.2)

  -- the boxes of the runs of a group
  pub runs_in : {n : ℕ} {groups : List ℤ} → Groups runs count n groups → (c : ℕ) → c < n → {to : ℕ} → RunEnd count (64 * c) 64 to
      → RunsTo σ ns run runs (64 * c) to
  runs_in gs c h {to} r =
      let b = (gs.each c h).begins in
      let i = r.inside in
      let o = r.onward b (omega arith) in
      let f = rs.room in
      record { order = omega arith; whole = rs.whole; room = omega arith; each = λ g l m. rs.each g (omega arith) }

  -- the boxes of all groups, as long runs
  pub groups_to : {n : ℕ} {groups : List ℤ} → Groups runs count n groups → RunsTo σ ns (run * 64) groups 0 n
  groups_to gs = record {
    order = omega arith;
    whole = times_whole (record_length σ) run 64 rs.whole;
    room = gs.room;
    each = λ c l h. group_run gs c h;
  }

  -- where all runs of a group were searched, the group was
  pub group_searched : {n : ℕ} {groups : List ℤ} → Groups runs count n groups → (c : ℕ) → c < n → {to : ℕ} → RunEnd count (64 * c) 64 to → {x y : ℤ}
      → Searched σ ns x y (run * to) → Searched σ ns x y (run * 64 * (c + 1))
  group_searched gs c h {to} r {x} {y} s = ⊎_elim
      (λ l. let f = r.full l in let e : to ≡ 64 * (c + 1) = omega arith in
      subst (λ k. Searched σ ns x y k) (ap (λ k. run * k) e ∙ sym (mul_assoc run 64 (c + 1))) s)
      (λ l. searched_past s (ap (λ k. k % record_length σ) (mul_assoc run 64 (c + 1)) ∙ times_whole (record_length σ) run (64 * (c + 1)) rs.whole)
      (let a = rs.all in omega (arith, mul-le-mul_left {m = count} {n = to} run l)))
      (lt_or_ge to count)

  -- every record of the list is in a group
  pub groups_all : {n : ℕ} {groups : List ℤ} → Groups runs count n groups → length ns ≤ run * 64 * n
  groups_all {n} gs = let a = rs.all in omega (arith, mul_assoc run 64 n, mul-le-mul_left {m = count} {n = 64 * n} run gs.all)
