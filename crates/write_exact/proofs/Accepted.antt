-- A text has a meaning exactly where it is the text of a tolerance, curves and points: the lines of an accepted text, read one by one, give these.
use mathlib.Core.Path.{◌≡◌, refl, sym, ap, ap₂, ◌∙◌, subst}
use mathlib.Core.Bool.{Bool, true, false}
use mathlib.Core.List.{List, [], ◌∷◌, ◌++◌, append_assoc}
use mathlib.Core.Logic.{◌↔◌}
use mathlib.Core.Option.{Option, none, some}
use Prim.Native.Nat.{ℕ, zero, suc, ◌+◌, ◌-◌, ◌≤◌, ◌<◌}
use native.Mathlib.Omega.{arith}
use borrow.Author.Tests.{le-ltb, ltb-true, ltb-false}
use lib.Dec.{ltb, lit≤}
use lib.ListN.{length, drop, drop_of_length-le}
use lib.IntN.{ℤ}
use Rattle.std.specs.Prelude.{Some, None}
use Rattle.integers.proofs.Clash.{clash}
use Rattle.refusals.specs.declared.Refusal.{Refusal}
use Rattle.text_forms.specs.declared.forms.Points.{Points}
use Rattle.text_forms.specs.declared.forms.Form.TheVariants.{Tolerance, Curve, Point}
use Rattle.text_forms.specs.Forms.{curve_word, closing, form_at}
use Rattle.text_forms.proofs.FormReach.{curve_ended, point_ended}
use Rattle.text_lines.specs.Lines.{Line, gather}
use Rattle.text_lines.specs.Meaning.{curve_numbers, point_of, fault_from, means, fault_or, meaning_of, most_bytes, meaning}
use Rattle.text_lines.proofs.Lines.{lines_left, lines_over, lines_start, line_none, line_tolerance, line_curve, line_point}
use Rattle.text_lines.proofs.Accepted.{accepted}
use Rattle.write_exact.specs.Written.{Written, curve_line, tolerance_line, point_line, LineWritten}
use Rattle.write_exact.specs.Texts.{In32, PointsIn32, TwoToFour, CurvesIn32, Legal, tolerance, two, three, four, point, pairs_bytes, curves_text}
use Rattle.write_exact.specs.Texts.{points_text, text_of, outline_of, IsText}
use Rattle.write_exact.proofs.Written.{form_written}
use Rattle.write_exact.proofs.Legal.{LegalRead, form_legal}
use Rattle.write_exact.proofs.Keeps.{Keeps, keeps_two, keeps_three, keeps_four}
use Rattle.write_exact.proofs.Texts.{text_read}

-- ---- the points of a curve that was read
record Drawn (p : Points) : Type 0 where
  drawn : List (ℤ × ℤ)
  fine : TwoToFour drawn
  keeps : Keeps p drawn

curve_drawn : {p : Points} {j : ℕ} → Legal (Curve p j) → Drawn p
curve_drawn (two {x0} {y0} {x1} {y1} h) = record {
  drawn = (x0, y0) ∷ (x1, y1) ∷ [];
  fine = record { least = lit≤ tt; most = lit≤ tt; in_32 = h };
  keeps = keeps_two (x0, y0) (x1, y1);
}
curve_drawn (three {x0} {y0} {x1} {y1} {x2} {y2} h) = record {
  drawn = (x0, y0) ∷ (x1, y1) ∷ (x2, y2) ∷ [];
  fine = record { least = lit≤ tt; most = lit≤ tt; in_32 = h };
  keeps = keeps_three (x0, y0) (x1, y1) (x2, y2);
}
curve_drawn (four {x0} {y0} {x1} {y1} {x2} {y2} {x3} {y3} h) = record {
  drawn = (x0, y0) ∷ (x1, y1) ∷ (x2, y2) ∷ (x3, y3) ∷ [];
  fine = record { least = lit≤ tt; most = lit≤ tt; in_32 = h };
  keeps = keeps_four (x0, y0) (x1, y1) (x2, y2) (x3, y3);
}

point_in_32 : {x y : ℤ} {j : ℕ} → Legal (Point x y j) → In32 x × In32 y
point_in_32 (point hx hy) = (hx, hy)

tolerance_in_32 : {T : ℤ} {j : ℕ} → Legal (Tolerance T j) → In32 T
tolerance_in_32 (tolerance h) = h

-- ---- the lines from place i on are those of curves and points, of which no curve comes late
record Made (s : List ℕ) (i : ℕ) (late : Bool) : Type 0 where
  curves : List (List (ℤ × ℤ))
  points : List (ℤ × ℤ)
  in_order : late ≡ true → curves ≡ []
  there : drop i s ≡ curves_text curves ++ points_text points
  curves_in_32 : CurvesIn32 curves
  points_in_32 : PointsIn32 points
  outline_is : gather curve_numbers (lines_left s i) ≡ outline_of curves
  points_are : gather point_of (lines_left s i) ≡ points

module _ (s : List ℕ) where
  none_left : (i : ℕ) (late : Bool) → length s ≤ i → Made s i late
  unfolding curves_text points_text outline_of gather
  none_left i late h =
      let e = lines_over (length s - i) s i h in
      record {
        curves = [];
        points = [];
        in_order = λ l. refl;
        there = drop_of_length-le s h;
        curves_in_32 = tt;
        points_in_32 = tt;
        outline_is = ap (gather curve_numbers) e;
        points_are = ap (gather point_of) e;
      }

  module _ (i : ℕ) where
    a_point : (late : Bool) (x y : ℤ) (j : ℕ) → lines_left s i ≡ Some (Point x y j) ∷ lines_left s j → Legal (Point x y j)
        → Written s i j (point_line x y)
        → Made s j true → Made s i late
    unfolding curves_text points_text outline_of gather
    a_point late x y j e l w m =
        let h = point_in_32 l in
        let no_curves = m.in_order refl in
        record {
          curves = [];
          points = (x, y) ∷ m.points;
          in_order = λ l. refl;
          there = w.bytes_there
              ∙ ap (λ (r : List ℕ). point_line x y ++ r)
              (m.there ∙ ap (λ (cs : List (List (ℤ × ℤ))). curves_text cs ++ points_text m.points) no_curves);
          curves_in_32 = tt;
          points_in_32 = (h.0, h.1, m.points_in_32);
          outline_is = ap (gather curve_numbers) e ∙ m.outline_is ∙ ap outline_of no_curves;
          points_are = ap (gather point_of) e ∙ ap (λ (ps : List (ℤ × ℤ)). (x, y) ∷ ps) m.points_are;
        }

    a_curve : (p : Points) (j : ℕ) → lines_left s i ≡ Some (Curve p j) ∷ lines_left s j → Legal (Curve p j) → Written s i j (curve_line p)
        → Made s j false → Made s i false
    unfolding curves_text outline_of gather
    a_curve p j e l w m =
        let d = curve_drawn l in
        let line = curve_word ++ pairs_bytes d.drawn ++ closing in
        record {
          curves = d.drawn ∷ m.curves;
          points = m.points;
          in_order = λ l. clash (cc);
          there = w.bytes_there ∙ ap₂ (λ (a b : List ℕ). a ++ b) d.keeps.line m.there
              ∙ sym (append_assoc line (curves_text m.curves) (points_text m.points));
          curves_in_32 = (d.fine, m.curves_in_32);
          points_in_32 = m.points_in_32;
          outline_is = ap (gather curve_numbers) e ∙ ap₂ (λ (a b : List ℤ). a ++ b) d.keeps.numbers m.outline_is;
          points_are = ap (gather point_of) e ∙ m.points_are;
        }

    -- the line at place i, and what is known of those after it
    module _ (h : i < length s) (n : ℕ) (again : (late : Bool) (j : ℕ) → i < j → fault_from late (n + 1) (lines_left s j) ≡ none → Made s j late) where
      line_made : (late : Bool) (f : Line) → f ≡ form_at s i → LegalRead f → LineWritten s i f → fault_from late n (lines_left s i) ≡ none
          → Made s i late
      unfolding fault_from
      line_made late None e l w fine = let g = sym (ap (fault_from late n) (line_none s i h None e refl)) ∙ fine in clash (cc)
      line_made late (Some (Tolerance T j)) e l w fine =
          let g = sym (ap (fault_from late n) (line_tolerance s i h (Some (Tolerance T j)) e T j refl)) ∙ fine in clash (cc)
      line_made true (Some (Curve p j)) e l w fine =
          let g = sym (ap (fault_from true n) (line_curve s i h (Some (Curve p j)) e p j refl)) ∙ fine in clash (cc)
      line_made false (Some (Curve p j)) e l w fine =
          let here = line_curve s i h (Some (Curve p j)) e p j refl in
          let past = (curve_ended s i (Some (Curve p j)) e p j refl).past in
          a_curve p j here l w (again false j (omega arith) (sym (ap (fault_from false n) here) ∙ fine))
      line_made late (Some (Point x y j)) e l w fine =
          let here = line_point s i h (Some (Point x y j)) e x y j refl in
          let past = (point_ended s i (Some (Point x y j)) e x y j refl).past in
          a_point late x y j here l w (again true j (omega arith) (sym (ap (fault_from late n) here) ∙ fine))

  -- all lines from place i on, m bytes at most
  rest_made : (m i n : ℕ) (late : Bool) → length s - i ≤ m → fault_from late n (lines_left s i) ≡ none → Made s i late
  rest_made zero i n late l fine = none_left i late (omega arith)
  rest_made (suc m) i n late l fine = either (ltb i (length s)) refl (λ later j h. rest_made m j (n + 1) later (omega arith))
    where
      either : (b : Bool) → ltb i (length s) ≡ b
          → ((later : Bool) (j : ℕ) → i < j → fault_from later (n + 1) (lines_left s j) ≡ none → Made s j later) → Made s i late
      either false e again = none_left i late (ltb-false _ _ e)
      either true e again = line_made i (ltb-true _ _ e) n again late (form_at s i) refl (form_legal s i) (form_written s i) fine

  -- ---- the first line, which is the tolerance
  not_refused : (o : Option Refusal) (T U : ℤ) (xs ys : List ℤ) (ps qs : List (ℤ × ℤ)) → fault_or o (means T xs ps) ≡ means U ys qs
      → (o ≡ none) × (T ≡ U) × (xs ≡ ys) × (ps ≡ qs)
  not_refused none T U xs ys ps qs e = (refl, cc, cc, cc)
  not_refused (some r) T U xs ys ps qs e = clash (cc)

  module _ (T : ℤ) (outline : List ℤ) (ps : List (ℤ × ℤ)) (size : length s ≤ most_bytes) where
    text_made : (f : Line) → f ≡ form_at s 0 → 0 < length s → LegalRead f → LineWritten s 0 f → meaning_of (lines_left s 0) ≡ means T outline ps
        → IsText s T outline ps
    unfolding meaning_of text_of
    text_made None e h l w fine = let g = sym (ap meaning_of (line_none s 0 h None e refl)) ∙ fine in clash (cc)
    text_made (Some (Curve p j)) e h l w fine = let g = sym (ap meaning_of (line_curve s 0 h (Some (Curve p j)) e p j refl)) ∙ fine in clash (cc)
    text_made (Some (Point x y j)) e h l w fine =
        let g = sym (ap meaning_of (line_point s 0 h (Some (Point x y j)) e x y j refl)) ∙ fine in clash (cc)
    text_made (Some (Tolerance U j)) e h l w fine =
        let here = line_tolerance s 0 h (Some (Tolerance U j)) e U j refl in
        let g =
        not_refused (fault_from false 2 (lines_left s j)) U T (gather curve_numbers (lines_left s j)) outline (gather point_of (lines_left s j)) ps
        (sym (ap meaning_of here) ∙ fine) in
        let m = rest_made (length s - j) j 2 false (omega arith) g.0 in
        let T-is = g.1 in
        let points_are : m.points ≡ ps = sym m.points_are ∙ g.3 in
        record {
          curves = m.curves;
          bytes =
              w.bytes_there
              ∙ ap₂ (λ (t : ℤ) (r : List ℕ). tolerance_line t ++ r) T-is
              (m.there ∙ ap (λ (qs : List (ℤ × ℤ)). curves_text m.curves ++ points_text qs) points_are)
              ∙ sym (append_assoc (tolerance_line T) (curves_text m.curves) (points_text ps));
          outline_is = sym g.2 ∙ m.outline_is;
          tolerance_in_32 = subst In32 T-is (tolerance_in_32 l);
          curves_in_32 = m.curves_in_32;
          points_in_32 = subst PointsIn32 points_are m.points_in_32;
          size = size;
        }

    any_made : meaning s ≡ means T outline ps → IsText s T outline ps
    unfolding meaning meaning_of
    any_made e = first (ltb 0 (length s)) refl (sym (ap meaning_of (lines_start s)) ∙ simp (le-ltb most_bytes (length s) size) at e)
      where
        first : (b : Bool) → ltb 0 (length s) ≡ b → meaning_of (lines_left s 0) ≡ means T outline ps → IsText s T outline ps
        first true f g = text_made (form_at s 0) refl (ltb-true _ _ f) (form_legal s 0) (form_written s 0) g
        first false f g = let h = sym (ap meaning_of (lines_over (length s - 0) s 0 (ltb-false _ _ f))) ∙ g in clash (cc)

  -- ---- a text means T, an outline and points exactly where it is the text of T, curves of this outline and these points
  pub text_exactly : (T : ℤ) (outline : List ℤ) (ps : List (ℤ × ℤ)) → (meaning s ≡ means T outline ps) ↔ IsText s T outline ps
  text_exactly T outline ps = (λ e. any_made T outline ps (accepted s T outline ps e).size e, back)
    where
      back : IsText s T outline ps → meaning s ≡ means T outline ps
      back t =
          let b = t.bytes in
          let short = subst (λ (l : List ℕ). length l ≤ most_bytes) b t.size in
          ap meaning b ∙ text_read T t.curves ps t.tolerance_in_32 t.curves_in_32 t.points_in_32 short
          ∙ ap (λ (o : List ℤ). means T o ps) (sym t.outline_is)
