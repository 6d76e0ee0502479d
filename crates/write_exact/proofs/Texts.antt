-- Whole texts: the text that a tolerance, curves and points make, line after line, means this tolerance, the outline of these curves and these
-- points. So every text that is a tolerance, curves and points in this order, and not too long, is accepted.
use mathlib.Core.Path.{◌≡◌, refl, sym, ap, ap₂, ◌∙◌, subst}
use mathlib.Core.Bool.{Bool, true, false}
use mathlib.Core.List.{List, [], ◌∷◌, ◌++◌, append_assoc}
use mathlib.Core.Option.{none}
use Prim.Native.Nat.{ℕ, ◌+◌, ◌-◌, ◌≤◌, ◌<◌}
use native.Mathlib.Omega.{arith}
use borrow.Author.Tests.{le-ltb}
use lib.ListN.{length, drop, length-drop}
use lib.Seq.{drop-drop, drop-append_seam}
use lib.IntN.{ℤ}
use Rattle.std.specs.Prelude.{Some}
use Rattle.text_forms.specs.declared.forms.Points.{Points}
use Rattle.text_forms.specs.declared.forms.Form.TheVariants.{Tolerance, Curve, Point}
use Rattle.text_lines.specs.Lines.{gather}
use Rattle.text_lines.specs.Meaning.{curve_numbers, point_of, fault_from, means, fault_or, meaning_of, most_bytes, meaning}
use Rattle.text_lines.proofs.Lines.{lines_left, lines_over, lines_start, line_tolerance, line_curve, line_point}
use Rattle.write_exact.specs.Written.{Written, tolerance_line, point_line}
use Rattle.write_exact.specs.Texts.{In32, PointsIn32, TwoToFour, CurvesIn32, Legal, tolerance, two, three, four, point, curves_text}
use Rattle.write_exact.specs.Texts.{points_text, text_of, outline_of}
use Rattle.write_exact.proofs.Lines.{form_read}
use Rattle.write_exact.proofs.Keeps.{curve_bytes, Keeps, keeps_two, keeps_three, keeps_four}

-- ---- a line that stands at place i of a text, and the bytes after it
module _ (s : List ℕ) (i : ℕ) (line rest : List ℕ) (e : drop i s ≡ line ++ rest) where
  pub after_line_law : drop (i + length line) s ≡ rest
  after_line_law = sym (drop-drop (length line) i s) ∙ ap (drop (length line)) e ∙ drop-append_seam line rest

  pub line_there : Written s i (i + length line) line
  line_there = record { bytes_there = e ∙ ap (λ (l : List ℕ). line ++ l) (sym after_line_law); end_there = refl }

starts_inside : (s : List ℕ) (i b : ℕ) (bs : List ℕ) → drop i s ≡ b ∷ bs → i < length s
starts_inside s i b bs e = omega (arith, length-drop i s, ap length e)

-- ---- the lines from place i on are curves and points without a fault; `late` says whether a point came before them, n numbers the first
record Rest (s : List ℕ) (i : ℕ) (late : Bool) (n : ℕ) (outline : List ℤ) (ps : List (ℤ × ℤ)) : Type 0 where
  no_fault : fault_from late n (lines_left s i) ≡ none
  curves_there : gather curve_numbers (lines_left s i) ≡ outline
  points_there : gather point_of (lines_left s i) ≡ ps

-- ---- points
points_rest : (ps : List (ℤ × ℤ)) (s : List ℕ) (i : ℕ) (late : Bool) (n : ℕ) → PointsIn32 ps → drop i s ≡ points_text ps → Rest s i late n [] ps
unfolding points_text fault_from gather point_line
points_rest [] s i late n h e =
    let over = lines_over (length s - i) s i (omega (arith, length-drop i s, ap length e)) in
    record { no_fault = ap (fault_from late n) over; curves_there = ap (gather curve_numbers) over; points_there = ap (gather point_of) over }
points_rest (p ∷ ps) s i late n h e =
    let x = p.0 in
    let y = p.1 in
    let j = i + length (point_line x y) in
    let read = form_read s i (point {x = x} {y = y} {j = j} h.0 h.1) (line_there s i (point_line x y) (points_text ps) e) in
    let here = line_point s i (starts_inside s i 40 _ e) (Some (Point x y j)) (sym read) x y j refl in
    let r = points_rest ps s j true (n + 1) h.2 (after_line_law s i (point_line x y) (points_text ps) e) in
    record {
      no_fault = ap (fault_from late n) here ∙ r.no_fault;
      curves_there = ap (gather curve_numbers) here ∙ r.curves_there;
      points_there = ap (gather point_of) here ∙ ap (λ (l : List (ℤ × ℤ)). p ∷ l) r.points_there;
    }

-- ---- a curve of two to four points, as a line keeps it
record Kept (c : List (ℤ × ℤ)) : Type 0 where
  kept : Points
  legal : (j : ℕ) → Legal (Curve kept j)
  keeps : Keeps kept c

kept_curve : (c : List (ℤ × ℤ)) → TwoToFour c → Kept c
kept_curve [] t = absurd (omega (arith, t.least))
kept_curve (a ∷ []) t = absurd (omega (arith, t.least))
kept_curve (a ∷ b ∷ []) t = record { kept = _; legal = λ j. two t.in_32; keeps = keeps_two a b }
kept_curve (a ∷ b ∷ c ∷ []) t = record { kept = _; legal = λ j. three t.in_32; keeps = keeps_three a b c }
kept_curve (a ∷ b ∷ c ∷ d ∷ []) t = record { kept = _; legal = λ j. four t.in_32; keeps = keeps_four a b c d }
kept_curve (a ∷ b ∷ c ∷ d ∷ e ∷ ps) t = absurd (omega (arith, t.most))

-- ---- curves and then points
curves_rest : (cs : List (List (ℤ × ℤ))) (ps : List (ℤ × ℤ)) (s : List ℕ) (i n : ℕ) → CurvesIn32 cs → PointsIn32 ps
    → drop i s ≡ curves_text cs ++ points_text ps → Rest s i false n (outline_of cs) ps
unfolding curves_text outline_of fault_from gather
curves_rest [] ps s i n h k e = points_rest ps s i false n k e
curves_rest (c ∷ cs) ps s i n h k e =
    let m = kept_curve c h.0 in
    let p = m.kept in
    let l = curve_bytes c in
    let j = i + length l in
    let f = e ∙ append_assoc l (curves_text cs) (points_text ps) in
    let there = line_there s i l (curves_text cs ++ points_text ps) f in
    let read = form_read s i (m.legal j) (subst (Written s i j) (sym m.keeps.line) there) in
    let here = line_curve s i (starts_inside s i 40 _ e) (Some (Curve p j)) (sym read) p j refl in
    let r = curves_rest cs ps s j (n + 1) h.1 k (after_line_law s i l (curves_text cs ++ points_text ps) f) in
    record {
      no_fault = ap (fault_from false n) here ∙ r.no_fault;
      curves_there = ap (gather curve_numbers) here ∙ ap₂ (λ (a b : List ℤ). a ++ b) m.keeps.numbers r.curves_there;
      points_there = ap (gather point_of) here ∙ r.points_there;
    }

-- ---- the whole text
pub text_read : (T : ℤ) (cs : List (List (ℤ × ℤ))) (ps : List (ℤ × ℤ)) → In32 T → CurvesIn32 cs → PointsIn32 ps
    → length (text_of T cs ps) ≤ most_bytes
    → meaning (text_of T cs ps) ≡ means T (outline_of cs) ps
unfolding meaning meaning_of text_of tolerance_line
text_read T cs ps h k l short =
    let s = text_of T cs ps in
    let j = length (tolerance_line T) in
    let e = append_assoc (tolerance_line T) (curves_text cs) (points_text ps) in
    let rest = curves_text cs ++ points_text ps in
    let read = form_read s 0 (tolerance {T = T} {j = 0 + j} h) (line_there s 0 (tolerance_line T) rest e) in
    let here = line_tolerance s 0 (starts_inside s 0 40 _ e) (Some (Tolerance T (0 + j))) (sym read) T (0 + j) refl in
    let r = curves_rest cs ps s (0 + j) 2 k l (after_line_law s 0 (tolerance_line T) rest e) in
    simp (le-ltb most_bytes (length s) short)
    (ap meaning_of (lines_start s ∙ here)
    ∙ ap (λ o. fault_or o (means T (gather curve_numbers (lines_left s (0 + j))) (gather point_of (lines_left s (0 + j))))) r.no_fault
    ∙ ap₂ (means T) r.curves_there r.points_there)
