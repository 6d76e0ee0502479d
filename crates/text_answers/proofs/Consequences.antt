-- What a reader of the answer may conclude from demand 3 of the text program. Each law uses a definition in which it ends, so that a weaker one is
-- seen here.
use mathlib.Core.Path.{◌≡◌, refl, sym, ◌∙◌, subst}
use mathlib.Core.List.{List, [], ◌∷◌, ◌++◌, append-nil, append_cancel_left, append_cancel_right}
use mathlib.Core.Option.{none}
use Prim.Native.Nat.{ℕ, ◌+◌, ◌*◌, ◌≤◌, ◌<◌}
use lib.Dec.{lit<}
use lib.IntN.{ℤ, pos}
use Rattle.integers.specs.Entry.{entry}
use Rattle.integers.specs.First.{first_bad}
use Rattle.integers.proofs.Ring.{sides}
use Rattle.integers.proofs.Between.{between_low}
use Rattle.integers.proofs.Order.{gap, natural, nonneg_by, ◌+₀◌}
use Rattle.setting.specs.Setting.{standard, texts, record_length}
use Rattle.curve_nodes.specs.declared.Curve.{Curve}
use Rattle.curve_nodes.specs.Nodes.{depth}
use Rattle.outline.specs.Curves.{curve_at}
use Rattle.outline.specs.Faults.{fault_at}
use Rattle.outline.specs.Checks.{curves, outline_from, outlined}
use Rattle.outline.proofs.Accepted.{outlined_from, accepted_all}
use Rattle.band_banded.specs.Banding.{done as reports, banded}
use Rattle.walk_depths.specs.Premise.{Flat}
use Rattle.band_banded.proofs.Theorems.{done_exactly}
use Rattle.judge.specs.Judging.{off, point_fault, FirstHolder, Verdict}
use Rattle.demand_3.specs.Demand3.{CurveOf}
use Rattle.demand_3.specs.Starred.{A}
use Rattle.demand_3.proofs.Meeting.{same_curves}
use Rattle.demand_3.proofs.Consequences.{Reach, somewhere_in_reach, shallow_depth, curve_a, half_way}
use Rattle.text_lines.specs.Meaning.{means, meaning}
use Rattle.write_lines.specs.Answers.{on_line, off_line}
use Rattle.write_lines.specs.BandLines.{band_lines}
use Rattle.text_answers.specs.Points.{point_answers}
use Rattle.text_answers.specs.Answers.{lent, answer_of}
use Rattle.text_answers.specs.TextDemand.{text_records, text_leaves, PointAnswered, TextDemand3}
use Rattle.text_answers.proofs.TextDemand.{text_demand_3}

-- ---- a text that is banded, and the point (x, y) of it, behind others and before others
module _ (s : List ℕ) (T : ℤ) (outline : List ℤ) (before : List (ℤ × ℤ)) (x y : ℤ) (after : List (ℤ × ℤ))
    (m : meaning s ≡ means T outline (before ++ (x, y) ∷ after)) (a b c : ℕ) (done : banded texts T outline lent ≡ reports a b c) where
  abbrev leaves : List ℤ
  leaves = text_leaves T outline b

  -- the answer has these bytes where the line of this point stands
  abbrev pub Says : List ℕ → Type 0
  Says line = answer_of s ≡ band_lines a b c (text_records T outline) ++ point_answers leaves before ++ line ++ point_answers leaves after

  claim : TextDemand3 s T outline a b c (before ++ (x, y) ∷ after)
  claim = text_demand_3 s T outline (before ++ (x, y) ∷ after) m a b c done

  this : PointAnswered s T outline a b c claim.all before x y after
  this = claim.each_point before x y after refl

  line_is : (line : List ℕ) → Says line → this.line ≡ line
  line_is line e =
      let front = band_lines a b c (text_records T outline) ++ point_answers leaves before in
      append_cancel_left front _ _ (append_cancel_right (front ++ this.line) (front ++ line) (point_answers leaves after) (sym this.place ∙ e))

  -- a point beyond the reach is never said to be on
  pub on_in_reach : (k i : ℕ) → Says (on_line k i) → Reach T x × Reach T y
  on_in_reach k i e =
      let sized = accepted_all 64 3 outline 0 claim.all (outlined_from 64 3 outline claim.all claim.are) in
      let least = between_low (pos 2) (pos 1048576) T ((done_exactly texts T outline lent a b c).0 done).1.tolerance in
      somewhere_in_reach standard T claim.all sized x y (nonneg_by (T ∷ []) (gap least +₀ natural 2) (search sides depth 20) refl)
      (this.every_on_near (record { leaf = k; cover = i; is = line_is (on_line k i) e }))

  -- in range, the first record and cover that hold the point are said, and off where none does
  pub first_said : point_fault x y ≡ none → (k i : ℕ) → FirstHolder standard leaves x y k i → Says (on_line k i)
  first_said fine k i h = subst Says (this.names_first fine k i h) this.place

  pub off_held_by_none : point_fault x y ≡ none → Says off_line → Verdict standard none leaves x y off
  off_held_by_none fine e = (this.off_exactly fine).0 (line_is off_line e)

  pub held_by_none_off : point_fault x y ≡ none → Verdict standard none leaves x y off → Says off_line
  held_by_none_off fine v = subst Says ((this.off_exactly fine).1 v) this.place

  -- the node that stands in the record of a leaf has depth at most j
  pub leaf_depth : (i : ℕ) → i < b → (cs : List Curve) → outlined texts.most texts.pieces outline ≡ curves cs
      → (k : ℕ) (curve : Curve) → CurveOf cs k curve → entry leaves (record_length standard * i) ≡ pos k
      → (j : ℕ) → Flat standard T curve j → (n : ℕ) → entry leaves (record_length standard * i + 1) ≡ pos n → depth n ≤ j
  leaf_depth i h cs o k curve of e j flat n is =
      shallow_depth (claim.every_leaf_shallow i h k curve (rw (same_curves claim.are o) of) e j flat) is

-- ---- a text without points: the answer is the lines of its band alone
pub band_alone : (s : List ℕ) (T : ℤ) (outline : List ℤ) → meaning s ≡ means T outline [] → (a b c : ℕ) → banded texts T outline lent ≡ reports a b c
    → answer_of s ≡ band_lines a b c (text_records T outline)
unfolding point_answers
band_alone s T outline m a b c done = (text_demand_3 s T outline [] m a b c done).all_lines ∙ append-nil (band_lines a b c (text_records T outline))

-- ---- curve A: half-way it is at (240 360), and the line of this point says on, wherever it stands
of_a : outlined texts.most texts.pieces A ≡ curves (curve_a ∷ [])
unfolding outlined outline_from fault_at first_bad curve_at
of_a = refl

pub half_way_said : (s : List ℕ) (T : ℤ) (before after : List (ℤ × ℤ)) (m : meaning s ≡ means T A (before ++ (pos 240, pos 360) ∷ after)) (a b c : ℕ)
    (done : banded texts T A lent ≡ reports a b c) → (k : ℕ) × (i : ℕ) × Says s T A before (pos 240) (pos 360) after m a b c done (on_line k i)
half_way_said s T before after m a b c done =
    let all = claim s T A before (pos 240) (pos 360) after m a b c done in
    let said = this s T A before (pos 240) (pos 360) after m a b c done in
    let alone : CurveOf all.all 0 curve_a = record { before = []; after = []; split = same_curves all.are of_a; number = refl } in
    let on = said.every_point_on 0 curve_a alone 1 1 (lit< tt) half_way in
    (on.leaf, on.cover, subst (Says s T A before (pos 240) (pos 360) after m a b c done) on.is said.place)
