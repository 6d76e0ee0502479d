-- The lines of points: each says what judging answers, what each way through `put_point` writes, that such a line is short where the leaves are fine,
-- that the lines of a text give those of its points, and each turn of the loop over the text.
use mathlib.Core.Path.{◌≡◌, refl, sym, ◌∙◌, ap, subst}
use mathlib.Core.Bool.{Bool, true, false}
use mathlib.Core.List.{List, [], ◌∷◌, ◌++◌, append-nil}
use mathlib.Core.Option.{Option, none, some}
use Prim.Native.Nat.{ℕ, ◌+◌, ◌*◌, ◌^◌, ◌≤◌, ◌<◌}
use native.Mathlib.Omega.{arith}
use borrow.Author.Tests.{leb-true, leb-false}
use lib.Dec.{leb, lit≤}
use lib.ListN.{length, length-append}
use lib.IntN.{ℤ}
use lib.Signed.{mag}
use mir.Syntax.{w32}
use mir.Val.{SFits}
use mir.Facts.{to_z-of_z}
use Rattle.std.specs.Prelude.{Some, None, Ok, Err}
use Rattle.setting.specs.Setting.{standard}
use Rattle.integers.proofs.Ranges.{stored, read_again}
use Rattle.refusals.specs.declared.Refusal.{Refusal}
use Rattle.refusals.specs.declared.Refusal.TheVariants.{PointX, PointY}
use Rattle.boxes.specs.Ranges.{in_range}
use Rattle.write_numbers.specs.Appends.{Appended, PutWithin}
use Rattle.write_numbers.proofs.Appends.{append_none, append_both, appended_length, within}
use Rattle.write_numbers.specs.Digits.{digits}
use Rattle.write_numbers.proofs.DigitsLaws.{digits_few}
use Rattle.write_numbers.specs.Decimals.{spaced_natural}
use Rattle.text_forms.specs.declared.forms.Points.{Points}
use Rattle.text_forms.specs.declared.forms.Form.{Form}
use Rattle.text_forms.specs.declared.forms.Form.TheVariants.{Tolerance, Curve, Point}
use Rattle.text_forms.specs.Forms.{form_at}
use Rattle.text_lines.specs.Lines.{Line, lines_of, gather}
use Rattle.text_lines.specs.Meaning.{point_of}
use Rattle.text_lines.proofs.Lines.{form_inside}
use Rattle.text_lines.proofs.Gathering.{Gathering, gathering_start, gathered_over, gathered_no_form, gathered_tolerance, gathered_curve}
use Rattle.text_lines.proofs.Gathering.{gathered_point}
use Rattle.judge.specs.declared.judging.Holder.{Holder}
use Rattle.judge.specs.Judging.{Judgement, point_fault, list_fault, judging_fault, Judged}
use Rattle.judge.specs.Judgements.{judgement}
use Rattle.judge.specs.Judging.{Passed}
use Rattle.judge.proofs.Judgements.{is_judged, judged_is, judged_on, judged_fault}
use Rattle.write_leaves.specs.Leaves.{line_end}
use Rattle.write_lines.specs.Answers.{two_numbers, refused_line, on_word, on_line, off_line}
use Rattle.text_answers.specs.Points.{line_of, point_answer, point_answers}
use Rattle.text_answers.specs.Inside.{LeavesFine, line_answer}

-- ---- the line of a point says what judging answers
pub line_said : (ns : List ℤ) (x y : ℤ) (j : Judgement) → Judged standard ns x y j → line_of j ≡ point_answer ns x y
unfolding point_answer
line_said ns x y j said = ap line_of (judged_is standard ns x y j said)

-- ---- one point, which judging is given as it is stored
module _ (ns : List ℤ) (x y : ℤ) (hx : SFits w32 x) (hy : SFits w32 y) (j : Judgement) (given : Judged standard ns (stored w32 x) (stored w32 y) j)
    (d o : List ℕ) (at k : ℕ) where
  -- the line of what judging answers is the point's line
  line_put : (n : ℕ) → n ≤ 52 → (l : List ℕ) → l ≡ line_of j → PutWithin d at n l o k → PutWithin d at 52 (point_answer ns x y) o k
  line_put n h l e a =
      let said = rw (to_z-of_z hx, to_z-of_z hy) at given in
      within (subst (λ m. Appended d at m o k) (e ∙ line_said ns x y j said) a.put) (omega (arith, a.small))

  pub line_on : (h : Holder) → j ≡ Ok (Some h) → PutWithin d at 47 (on_line h.leaf h.cover) o k → PutWithin d at 52 (point_answer ns x y) o k
  line_on h e = line_put 47 (omega arith) (on_line h.leaf h.cover) (ap line_of (sym e))

  pub line_off : j ≡ Ok None → Appended d at off_line o k → PutWithin d at 52 (point_answer ns x y) o k
  line_off e a = line_put 6 (omega arith) off_line (ap line_of (sym e)) (within a (omega (arith, a.next)))

  pub line_refused : (r : Refusal) → j ≡ Err r → PutWithin d at 52 (refused_line r) o k → PutWithin d at 52 (point_answer ns x y) o k
  line_refused r e = line_put 52 (omega arith) (refused_line r) (ap line_of (sym e))

-- ---- its line is short
short_x : length (refused_line PointX) ≤ 18
unfolding refused_line spaced_natural digits
short_x = lit≤ tt

short_y : length (refused_line PointY) ≤ 18
unfolding refused_line spaced_natural digits
short_y = lit≤ tt

-- a refusal whose line is short
abbrev Short : Option Refusal → Type 0
Short none = 0 ≤ 18
Short (some r) = length (refused_line r) ≤ 18

short_point : (x y : ℤ) → Short (point_fault x y)
short_point x y = go (in_range x) (in_range y)
  where
    go : (a b : Bool) → Short (elim a [ false ↦ some PointX | true ↦ elim b [ false ↦ some PointY | true ↦ none ] ])
    go false b = short_x
    go true false = short_y
    go true true = omega arith

pub fault_fine : (ns : List ℤ) → Passed standard ns → (x y : ℤ) → judging_fault standard ns x y ≡ point_fault x y
unfolding judging_fault
fault_fine ns f x y = rw (judging_fault, list_fault, f.whole, f.numbers)

short_on : (leaf cover : ℕ) → leaf < 1000 → cover < 10 → length (on_line leaf cover) ≤ 18
unfolding on_line spaced_natural
short_on leaf cover l m =
    let a = digits_few 2 20 leaf (omega arith) in
    let b = digits_few 0 20 cover (omega arith) in
    omega (
      arith,
      length-append on_word (two_numbers leaf cover),
      length-append (spaced_natural leaf ++ spaced_natural cover) line_end,
      length-append (spaced_natural leaf) (spaced_natural cover),
    )

pub short_line : (ns : List ℤ) → LeavesFine ns → (x y : ℤ) → length (point_answer ns x y) ≤ 18
unfolding point_answer
short_line ns f x y = go (judgement standard ns x y) (is_judged standard ns x y)
  where
    go : (j : Judgement) → Judged standard ns x y j → length (line_of j) ≤ 18
    go (Ok (Some holder)) v =
        let h = judged_on standard ns x y holder.leaf holder.cover v in
        short_on holder.leaf holder.cover (omega (arith, h.inside, f.few)) (omega (arith, h.cover))
    go (Ok None) v = lit≤ tt
    go (Err r) v = subst Short (sym (fault_fine ns f.passed x y) ∙ judged_fault standard ns x y r v) (short_point x y)

-- ---- the lines of the points, as the text has them and as its meaning has them
module _ (leaves : List ℤ) where
  pub points_gathered : (ls : List Line) → gather (line_answer leaves) ls ≡ point_answers leaves (gather point_of ls)
  unfolding gather point_answers
  points_gathered [] = refl
  points_gathered (Some (Tolerance t next) ∷ ls) = points_gathered ls
  points_gathered (Some (Curve p next) ∷ ls) = points_gathered ls
  points_gathered (None ∷ ls) = points_gathered ls
  points_gathered (Some (Point x y next) ∷ ls) = ap (λ r. point_answer leaves x y ++ r) (points_gathered ls)

-- ---- the loop: what the lines before place i gave stands in the list from place `from` on, which was d and is o
pub record Putting (leaves : List ℤ) (s : List ℕ) (d : List ℕ) (from : ℕ) (o : List ℕ) (at i : ℕ) : Type 0 where
  pub done : List ℕ
  pub put : Appended d from done o at
  pub size : length o ≡ length d
  pub read : Gathering (line_answer leaves) s done i

module _ (leaves : List ℤ) (s d : List ℕ) (from : ℕ) where
  pub putting_start : Putting leaves s d from d from 0
  putting_start = record { done = []; put = append_none d from; size = refl; read = gathering_start (line_answer leaves) s }

  module _ (o : List ℕ) (at i : ℕ) (p : Putting leaves s d from o at i) where
    -- where it stops, all is there
    stop : gather (line_answer leaves) (lines_of s) ≡ p.done → PutWithin d from (2 * length s) (gather (line_answer leaves) (lines_of s)) o at
    stop e = within (subst (λ l. Appended d from l o at) (sym e) p.put) (omega (arith, p.put.next, p.read.few, p.read.inside))

    -- the text is over, or a line that is no form follows
    pub put_none : None ≡ form_at s i → PutWithin d from (2 * length s) (gather (line_answer leaves) (lines_of s)) o at
    put_none e = either (leb (length s) i) refl
      where
        either : (b : Bool) → leb (length s) i ≡ b → PutWithin d from (2 * length s) (gather (line_answer leaves) (lines_of s)) o at
        either true h = stop (gathered_over (line_answer leaves) s p.done i p.read (leb-true _ _ h))
        either false h = stop (gathered_no_form (line_answer leaves) s p.done i p.read (leb-false _ _ h) None e refl refl)

    module _ (x : Form) (e : Some x ≡ form_at s i) where
      starts : i < length s
      starts = form_inside s i x (sym e)

      pub put_room : from + 2 * length s + 52 ≤ length d → at + 52 ≤ length o
      put_room room = let h = starts in omega (arith, p.put.next, p.read.few, p.size)

      same : {j : ℕ} → Gathering (line_answer leaves) s (p.done ++ []) j → Putting leaves s d from o at j
      same {j} g =
          record { done = p.done; put = p.put; size = p.size; read = subst (λ l. Gathering (line_answer leaves) s l j) (append-nil p.done) g }

      pub put_tolerance : (t : ℤ) (j : ℕ) → x ≡ Tolerance t j → Putting leaves s d from o at j
      put_tolerance t j q = same (gathered_tolerance (line_answer leaves) s p.done i p.read starts (Some x) e t j (ap Some q) (lit≤ tt))

      pub put_curve : (c : Points) (j : ℕ) → x ≡ Curve c j → Putting leaves s d from o at j
      put_curve c j q = same (gathered_curve (line_answer leaves) s p.done i p.read starts (Some x) e c j (ap Some q) (lit≤ tt))

      pub put_point_line : LeavesFine leaves → (u v : ℤ) (j : ℕ) → x ≡ Point u v j → mag u < 2 ^ 31 → mag v < 2 ^ 31 → (w : List ℕ) (k : ℕ)
          → PutWithin o at 52 (point_answer leaves (stored w32 u) (stored w32 v)) w k → Putting leaves s d from w k j
      put_point_line f u v j q hu hv w k a =
          let b = rw (read_again w32 u hu, read_again w32 v hv) at a.put in
          record {
            done = p.done ++ point_answer leaves u v;
            put = append_both d o w p.done (point_answer leaves u v) from at k p.put b;
            size = appended_length o at (point_answer leaves u v) w k b ∙ p.size;
            read = gathered_point (line_answer leaves) s p.done i p.read starts (Some x) e u v j (ap Some q) (short_line leaves f u v);
          }

-- ---- a turn of the loop goes on past a line that is no point
pub ruleset put-past = (put_tolerance, put_curve)
