-- A list that is made line by line of a text, what a function gives of each line: the law of each turn of a loop that reads the text. A line takes
-- nine bytes or more, so where the function gives at most 18 elements, there are never more than twice as many as bytes were read.
use mathlib.Core.Path.{◌≡◌, sym, ap, ◌∙◌}
use mathlib.Core.List.{List, [], ◌∷◌, ◌++◌, append_assoc, append-nil}
use Prim.Native.Nat.{ℕ, ◌-◌, ◌*◌, ◌≤◌, ◌<◌}
use native.Mathlib.Omega.{arith}
use lib.ListN.{length, length-append}
use lib.IntN.{ℤ}
use Rattle.std.specs.Prelude.{Some, None}
use Rattle.text_forms.specs.declared.forms.Points.{Points}
use Rattle.text_forms.specs.declared.forms.Form.TheVariants.{Tolerance, Curve, Point}
use Rattle.text_forms.specs.Forms.{form_at}
use Rattle.text_forms.proofs.FormReach.{Ended, tolerance_ended, curve_ended, point_ended}
use Rattle.text_lines.specs.Lines.{Line, lines_from, lines_of, gather}
use Rattle.text_lines.proofs.Lines.{lines_left, lines_over, lines_start, line_none, line_tolerance, line_curve, line_point}

-- the lines before place i gave `done`, at most twice as many elements as bytes
pub record Gathering {A : Type 0} (f : Line → List A) (s : List ℕ) (done : List A) (i : ℕ) : Type 0 where
  pub split : gather f (lines_of s) ≡ done ++ gather f (lines_from (length s - i) s i)
  pub few : length done ≤ 2 * i
  pub inside : i ≤ length s

module _ {A : Type 0} (f : Line → List A) (s : List ℕ) where
  pub gathering_start : Gathering f s [] 0
  gathering_start = record { split = ap (gather f) (lines_start s); few = omega arith; inside = omega arith }

  module _ (done : List A) (i : ℕ) (r : Gathering f s done i) where
    remaining : (ls : List Line) → lines_left s i ≡ ls → gather f (lines_of s) ≡ done ++ gather f ls
    remaining ls e = r.split ∙ ap (λ (l : List Line). done ++ gather f l) e

    -- all lines are read
    pub gathered_over : length s ≤ i → gather f (lines_of s) ≡ done
    unfolding gather
    gathered_over h = remaining [] (lines_over (length s - i) s i h) ∙ append-nil done

    module _ (h : i < length s) (x : Line) (e : x ≡ form_at s i) where
      pub gathered_no_form : x ≡ None → f None ≡ [] → gather f (lines_of s) ≡ done
      unfolding gather
      gathered_no_form q z = remaining (None ∷ []) (line_none s i h x e q) ∙ ap (λ (l : List A). done ++ (l ++ [])) z ∙ append-nil done

      -- a line that ends at place j
      onto : (y : Line) (j : ℕ) → lines_left s i ≡ y ∷ lines_left s j → Ended i (length s) j → length (f y) ≤ 18 → Gathering f s (done ++ f y) j
      unfolding gather
      onto y j g n l = record {
        split = remaining (y ∷ lines_left s j) g ∙ sym (append_assoc done (f y) (gather f (lines_left s j)));
        few = omega (arith, r.few, n.past, length-append done (f y));
        inside = n.inside;
      }

      pub gathered_tolerance : (t : ℤ) (j : ℕ) → x ≡ Some (Tolerance t j) → length (f (Some (Tolerance t j))) ≤ 18
          → Gathering f s (done ++ f (Some (Tolerance t j))) j
      gathered_tolerance t j q = onto (Some (Tolerance t j)) j (line_tolerance s i h x e t j q) (tolerance_ended s i x e t j q)

      pub gathered_curve : (p : Points) (j : ℕ) → x ≡ Some (Curve p j) → length (f (Some (Curve p j))) ≤ 18
          → Gathering f s (done ++ f (Some (Curve p j))) j
      gathered_curve p j q = onto (Some (Curve p j)) j (line_curve s i h x e p j q) (curve_ended s i x e p j q)

      pub gathered_point : (u v : ℤ) (j : ℕ) → x ≡ Some (Point u v j) → length (f (Some (Point u v j))) ≤ 18
          → Gathering f s (done ++ f (Some (Point u v j))) j
      gathered_point u v j q = onto (Some (Point u v j)) j (line_point s i h x e u v j q) (point_ended s i x e u v j q)
