-- A run whose box a point lies outside has no record that holds it.
use mathlib.Core.Path.{◌≡◌, refl, sym, ◌∙◌, ap, subst}
use mathlib.Core.Logic.{⊎_elim}
use mathlib.Core.Bool.{Bool, true, false, ◌||◌}
use mathlib.Core.List.{List, [], ◌∷◌}
use Prim.Native.Nat.{ℕ, zero, suc, ◌+◌, ◌*◌, ◌-◌, ◌%◌, ◌≤◌, ◌<◌}
use native.Mathlib.Nat.{mul-suc, add-zero, add-mod, zero-mod, eq-or-lt_of_le}
use native.Mathlib.Numerals.{add-one}
use native.Mathlib.Omega.{arith}
use lib.ListN.{length}
use lib.IntN.{ℤ}
use lib.Signed.{lt_z, ◌≤ℤ◌}
use mir.Syntax.{w32}
use mir.Val.{SFits}
use mir.Facts.{to_z-of_z}
use Rattle.integers.specs.Entry.{entry}
use Rattle.integers.proofs.Ring.{sides}
use Rattle.integers.proofs.Clash.{clash}
use Rattle.integers.proofs.Order.{gap, gap<, lt_by, ◌+₀◌, lt_or_ge}
use Rattle.integers.proofs.Ranges.{stored, lt_yes, yes_lt}
use Rattle.setting.specs.Setting.{Setting, break_points, record_length}
use Rattle.boxes.specs.declared.Box.{Box}
use Rattle.boxes.specs.Records.{box_index, box_at_index}
use Rattle.std.specs.Prelude.{Option, Some, None, is_some}
use Rattle.judge.specs.declared.judging.Holder.{Holder}
use Rattle.judge.specs.Inside.{all_pass, below_all, above_all, beyond, record_apart, Searched, FoundTo}
use Rattle.judge.proofs.Apart.{apart_held}
use Rattle.judge.proofs.Holders.{searched_past}
use Rattle.judge_runs.specs.Inside.{LiesIn, RunEnd, RunBox, RunsTo, outside, OutsideTo, NextBox}

-- ---- a number below a low is below every low that is no less
low_below : (z a b : ℤ) → lt_z z a ≡ true → a ≤ℤ b → lt_z z b ≡ true
low_below z a b e h =
    yes_lt {a = z} {b = b} (lt_by (z ∷ a ∷ b ∷ []) (gap< (lt_yes {a = z} {b = a} e) +₀ gap h) (search sides depth 40) refl)

high_above : (z a b : ℤ) → lt_z a z ≡ true → b ≤ℤ a → lt_z b z ≡ true
high_above z a b e h =
    yes_lt {a = b} {b = z} (lt_by (z ∷ a ∷ b ∷ []) (gap< (lt_yes {a = a} {b = z} e) +₀ gap h) (search sides depth 40) refl)

all_pass_law : (test : ℤ → Bool) (ns : List ℤ) (at n : ℕ) → ((i : ℕ) → i < n → test (entry ns (at + 4 * i)) ≡ true) → all_pass test ns at n ≡ true
all_pass_law test ns at zero each = refl
all_pass_law test ns at (suc n) each = rw (all_pass_law test ns at n (λ i h. each i (omega arith)), each n (omega arith))

or_second : (a : Bool) {b : Bool} → b ≡ true → (a || b) ≡ true
or_second true e = refl
or_second false e = e

-- ---- a record all of whose boxes lie in b is apart from a point outside b
module _ (σ : Setting) (ns : List ℤ) (k : ℕ) (b : Box) (each : (i : ℕ) → i < break_points σ → LiesIn (box_at_index ns (box_index σ k i)) b) where
  module _ (z : ℤ) where
    below : (at s : ℕ) (low : ℤ) → record_length σ * k + 2 + s ≡ at → ((i : ℕ) → i < break_points σ → low ≤ℤ entry ns (box_index σ k i + s))
        → lt_z z low ≡ true → below_all σ z ns at ≡ true
    below at s low n least e = all_pass_law (λ a. lt_z z a) ns at (break_points σ)
        (λ i h. let m : box_index σ k i + s ≡ at + 4 * i = omega arith in
        subst (λ j. lt_z z (entry ns j) ≡ true) m (low_below z low (entry ns (box_index σ k i + s)) e (least i h)))

    above : (at s : ℕ) (high : ℤ) → record_length σ * k + 2 + s ≡ at → ((i : ℕ) → i < break_points σ → entry ns (box_index σ k i + s) ≤ℤ high)
        → lt_z high z ≡ true → above_all σ z ns at ≡ true
    above at s high n most e = all_pass_law (λ a. lt_z a z) ns at (break_points σ)
        (λ i h. let m : box_index σ k i + s ≡ at + 4 * i = omega arith in
        subst (λ j. lt_z (entry ns j) z ≡ true) m (high_above z high (entry ns (box_index σ k i + s)) e (most i h)))

  pub outside_apart : (x y : ℤ) → outside b x y ≡ true → record_apart σ x y ns (record_length σ * k) ≡ true
  outside_apart x y = go (lt_z x b.x_low) (lt_z b.x_high x) (lt_z y b.y_low) refl refl refl
    where
      at : ℕ
      at = record_length σ * k

      by_x : beyond σ x ns (at + 2) ≡ true → record_apart σ x y ns at ≡ true
      by_x e = rw e

      by_y : beyond σ y ns (at + 4) ≡ true → record_apart σ x y ns at ≡ true
      by_y e = or_second (beyond σ x ns (at + 2)) e

      zeroth : (i : ℕ) → i < break_points σ → b.x_low ≤ℤ entry ns (box_index σ k i + 0)
      zeroth i h = rw (add-zero (box_index σ k i)) (each i h).x_low

      go : (p q r : Bool) → lt_z x b.x_low ≡ p → lt_z b.x_high x ≡ q → lt_z y b.y_low ≡ r
          → (p || q || r || lt_z b.y_high y) ≡ true → record_apart σ x y ns at ≡ true
      go true q r e f g h = by_x (rw (below x (at + 2) 0 b.x_low (omega arith) zeroth e))
      go false true r e f g h =
          by_x (or_second (below_all σ x ns (at + 2)) (above x (at + 2 + 1) 1 b.x_high (omega arith) (λ i l. (each i l).x_high) f))
      go false false true e f g h = by_y (rw (below y (at + 4) 2 b.y_low (omega arith) (λ i l. (each i l).y_low) g))
      go false false false e f g h =
          by_y (or_second (below_all σ y ns (at + 4)) (above y (at + 4 + 1) 3 b.y_high (omega arith) (λ i l. (each i l).y_high) h))

-- ---- runs that are passed over
run_whole : (L run g : ℕ) → (run * g) % L ≡ 0 → run % L ≡ 0 → (run * suc g) % L ≡ 0
run_whole L run g a b = ap (λ n. n % L) (mul-suc run g) ∙ add-mod (run * g) run L ∙ rw (a, b) (zero-mod L)

module _ {σ : Setting} {ns : List ℤ} (run : ℕ) {x y : ℤ} where
  run_passed : (boxes : List ℤ) (g : ℕ) → Searched σ ns x y (run * g) → run % record_length σ ≡ 0 → RunBox σ ns run boxes g
      → outside (box_at_index boxes (4 * g)) x y ≡ true → Searched σ ns x y (run * suc g)
  run_passed boxes g s w r e = record {
    begins = run_whole (record_length σ) run g s.begins w;
    no_cover = λ k i l n m. ⊎_elim
        (λ h. s.no_cover k i h n m)
        (λ h. apart_held σ ns x y (record_length σ * k)
        (outside_apart σ ns k (box_at_index boxes (4 * g)) (λ j t. r.around.each k j h l n t) x y e) i m)
        (lt_or_ge (record_length σ * k) (run * g));
  }

  -- the search goes on behind all runs whose boxes the point lies outside
  pub runs_passed : (boxes : List ℤ) (from to r : ℕ) → Searched σ ns x y (run * from) → RunsTo σ ns run boxes from to
      → OutsideTo boxes x y from to r → Searched σ ns x y (run * r)
  runs_passed boxes from to r s rs o =
      let a = o.after in
      let e : from + (r - from) ≡ r = omega arith in
      subst (λ n. Searched σ ns x y (run * n)) e (go (r - from) (omega arith))
    where
      go : (n : ℕ) → from + n ≤ r → Searched σ ns x y (run * (from + n))
      go zero h = rw (add-zero from) s
      go (suc n) h =
          let b = o.before in
          let g = from + n in
          let e : suc g ≡ from + suc n = omega arith in
          subst (λ j. Searched σ ns x y (run * j)) e
          (run_passed boxes g (go n (omega arith)) rs.whole (rs.each g (omega arith) (omega arith)) (o.each g (omega arith) (omega arith)))

  -- where a run was searched to its end, the search goes on behind it
  pub run_searched : (g : ℕ) {to : ℕ} → run % record_length σ ≡ 0 → RunEnd (length ns) (run * g) run to → (run * g) % record_length σ ≡ 0
      → Searched σ ns x y to → Searched σ ns x y (run * (g + 1))
  run_searched g {to} w r b s = rw (add-one g) (⊎_elim
      (λ h. subst (λ n. Searched σ ns x y n) (r.full h ∙ sym (mul-suc run g)) s)
      (λ h. searched_past s (run_whole (record_length σ) run g b w) h)
      (lt_or_ge to (length ns)))

-- ---- the comparisons by which a point lies outside a box, one by one
pub compared : (a b : ℤ) {t : Bool} → SFits w32 a → SFits w32 b → lt_z (stored w32 a) (stored w32 b) ≡ t → lt_z a b ≡ t
compared a b fa fb e = rw (to_z-of_z fa, to_z-of_z fb) at e

module _ (b : Box) (x y : ℤ) where
  pub left_of : lt_z x b.x_low ≡ true → true ≡ outside b x y
  left_of e = rw (outside, e)

  module _ (e : lt_z x b.x_low ≡ false) where
    pub right_of : lt_z b.x_high x ≡ true → true ≡ outside b x y
    right_of f = rw (outside, e, f)

    module _ (f : lt_z b.x_high x ≡ false) where
      pub under : lt_z y b.y_low ≡ true → true ≡ outside b x y
      under g = rw (outside, e, f, g)

      pub over : lt_z y b.y_low ≡ false → {t : Bool} → lt_z b.y_high y ≡ t → t ≡ outside b x y
      over g h = rw (outside, e, f, g) (sym h)

-- ---- the loop over boxes: the point lies outside no box yet, and outside one more
module _ {boxes : List ℤ} {x y : ℤ} {from to : ℕ} where
  pub outside_none : from ≤ to → OutsideTo boxes x y from to from
  outside_none h = record { after = omega arith; before = h; each = λ g l m. absurd (omega arith) }

  pub outside_more : {k : ℕ} → OutsideTo boxes x y from to k → k < to → outside (box_at_index boxes (4 * k)) x y ≡ true
      → OutsideTo boxes x y from to (k + 1)
  outside_more {k} o h e = record {
    after = let a = o.after in omega arith;
    before = omega arith;
    each = λ g l m. ⊎_elim
        (λ f. subst (λ j. outside (box_at_index boxes (4 * j)) x y ≡ true) (sym f) e)
        (λ f. o.each g l f)
        (eq-or-lt_of_le {n = g} {m = k} (omega arith));
  }

-- ---- runs from a later one on
pub runs_from : {σ : Setting} {ns : List ℤ} {run : ℕ} {boxes : List ℤ} {from to : ℕ} (f : ℕ) → RunsTo σ ns run boxes from to → from ≤ f → f ≤ to
    → RunsTo σ ns run boxes f to
runs_from f r h l = record { order = l; whole = r.whole; room = r.room; each = λ g a b. r.each g (omega arith) b }

-- ---- the loop over boxes of runs `from` to before `to`: no record before run k holds the point
pub record SearchedRuns (σ : Setting) (ns : List ℤ) (x y : ℤ) (run from to k : ℕ) : Type 0 where
  pub after : from ≤ k
  pub before : k ≤ to
  pub searched : Searched σ ns x y (run * k)

module _ {σ : Setting} {ns : List ℤ} {x y : ℤ} {run from to : ℕ} {boxes : List ℤ} (rs : RunsTo σ ns run boxes from to) where
  pub search_on : {k r : ℕ} → SearchedRuns σ ns x y run from to k → OutsideTo boxes x y k to r → SearchedRuns σ ns x y run from to r
  search_on {k} {r} i o = record {
    after = omega (arith, i.after, o.after);
    before = o.before;
    searched = runs_passed run boxes k to r i.searched (runs_from k rs i.after i.before) o;
  }

pub search_begun : {σ : Setting} {ns : List ℤ} {x y : ℤ} {run from to : ℕ} → from ≤ to → Searched σ ns x y (run * from)
    → SearchedRuns σ ns x y run from to from
search_begun h s = record { after = omega arith; before = h; searched = s }

pub search_next : {σ : Setting} {ns : List ℤ} {x y : ℤ} {run from to k : ℕ} → SearchedRuns σ ns x y run from to k → k < to
    → Searched σ ns x y (run * (k + 1)) → SearchedRuns σ ns x y run from to (k + 1)
search_next i h s = record { after = omega (arith, i.after); before = omega arith; searched = s }

-- ---- where the search stands once the next box is looked for: at it, or behind all
abbrev pub SearchedTo : Setting → List ℤ → (x y : ℤ) → (run from to : ℕ) → Option ℕ → Type 0
SearchedTo σ ns x y run from to (Some k) = (k < to) × SearchedRuns σ ns x y run from to k
SearchedTo σ ns x y run from to None = SearchedRuns σ ns x y run from to to

-- how much is left
abbrev pub left : ℕ → Option ℕ → ℕ
left to (Some k) = suc (to - k)
left to None = 0

module _ {σ : Setting} {ns : List ℤ} {x y : ℤ} {run from to : ℕ} {boxes : List ℤ} (rs : RunsTo σ ns run boxes from to) where
  pub search_to : {k : ℕ} (o : Option ℕ) → SearchedRuns σ ns x y run from to k → NextBox boxes x y k to o → SearchedTo σ ns x y run from to o
  search_to (Some g) i n = (n.0, search_on rs i n.1)
  search_to None i n = search_on rs i n

pub left_less : (boxes : List ℤ) (x y : ℤ) (k to : ℕ) (o : Option ℕ) → NextBox boxes x y (k + 1) to o → k < to → left to o < left to (Some k)
left_less boxes x y k to (Some g) n h = omega (arith, n.0, n.1.after)
left_less boxes x y k to None n h = omega arith

-- ---- a holder that is found is the first, however far the search was to go
pub found_farther : (σ : Setting) (ns : List ℤ) (x y : ℤ) (a : ℕ) (o : Option Holder) → FoundTo σ ns x y a o → is_some o ≡ true → (b : ℕ)
    → FoundTo σ ns x y b o
found_farther σ ns x y a (Some h) f l b = f
found_farther σ ns x y a None f l b = clash (cc)

pub found_none : (σ : Setting) (ns : List ℤ) (x y : ℤ) (a : ℕ) (o : Option Holder) → FoundTo σ ns x y a o → is_some o ≡ false → Searched σ ns x y a
found_none σ ns x y a (Some h) f l = clash (cc)
found_none σ ns x y a None f l = f
