-- Checks 14 and 15 from line to line: what the check of a line answers, and what holds after it.
use mathlib.Core.Path.{◌≡◌, refl, sym, subst}
use mathlib.Core.Bool.{Bool, true, false, cond}
use mathlib.Core.List.{List}
use Prim.Native.Nat.{ℕ, ◌+◌, ◌-◌, ◌<◌}
use lib.ListN.{length}
use Rattle.std.specs.Prelude.{Some, None, Result, Ok, Err, MatchResult}
use Rattle.std.proofs.lemmas.Result.{MatchResult-at_ok, MatchResult-at_err}
use Rattle.refusals.specs.declared.Refusal.{Refusal}
use Rattle.refusals.specs.declared.Refusal.TheVariants.{OutOfOrder}
use Rattle.text_forms.specs.declared.forms.Points.{Points}
use Rattle.text_forms.specs.declared.forms.Form.TheVariants.{Tolerance, Curve, Point}
use Rattle.text_forms.specs.Forms.{form_at}
use Rattle.text_reader.specs.Reading.{place_after}
use Rattle.text_lines.specs.Lines.{Line}
use Rattle.text_lines.specs.Inside.{after_line}
use Rattle.text_lines.proofs.Lines.{curve_less, point_less}
use Rattle.text_lines.proofs.Faults.{Checking, ordered, rest_no_form, rest_tolerance, rest_late, rest_curve, rest_point}

module _ (s : List ℕ) (at : ℕ) (late : Bool) (i line : ℕ) (r : Checking s at late i line) (h : i < length s) where
  -- the line was in order, and the next starts at place j, which leaves less of the text
  pub record Passed (next : Bool) (j : ℕ) : Type 0 where
    pub checking : Checking s at next j (line + 1)
    pub less : length s - j < length s - i

  -- what the check of a line that ends at place j may answer
  abbrev Answered : Result Bool Refusal → ℕ → Type 0
  Answered a j = MatchResult a (λ next. Passed next j) (λ fault. Err fault ≡ ordered s at)

  at_curve : (p : Points) (j : ℕ) → Some (Curve p j) ≡ form_at s i → (t : Bool) → late ≡ t → Answered (cond t (Err (OutOfOrder line)) (Ok false)) j
  at_curve p j e true d = rest_late s at late i line r h (Some (Curve p j)) e p j refl d
  at_curve p j e false d = record {
    checking = subst (λ (t : Bool). Checking s at t j (line + 1)) d (rest_curve s at late i line r h (Some (Curve p j)) e p j refl d);
    less = curve_less s i h (Some (Curve p j)) e p j refl;
  }

  line_answered : (f : Line) → f ≡ form_at s i → Answered (after_line late line f) (place_after f i)
  unfolding after_line
  line_answered None e = rest_no_form s at late i line r h None e refl
  line_answered (Some (Tolerance t j)) e = rest_tolerance s at late i line r h (Some (Tolerance t j)) e t j refl
  line_answered (Some (Curve p j)) e = at_curve p j e late refl
  line_answered (Some (Point x y j)) e = record {
    checking = rest_point s at late i line r h (Some (Point x y j)) e x y j refl;
    less = point_less s i h (Some (Point x y j)) e x y j refl;
  }

  module _ (f : Line) (e : f ≡ form_at s i) where
    pub line_passed : (next : Bool) → Ok next ≡ after_line late line f → Passed next (place_after f i)
    line_passed next a = MatchResult-at_ok (λ n. Passed n (place_after f i)) (λ fault. Err fault ≡ ordered s at) next (sym a) (line_answered f e)

    pub line_refused : (fault : Refusal) → Err fault ≡ after_line late line f → Err fault ≡ ordered s at
    line_refused fault a = MatchResult-at_err (λ n. Passed n (place_after f i)) (λ r. Err r ≡ ordered s at) fault (sym a) (line_answered f e)
