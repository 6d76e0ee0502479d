-- Checks 14 and 15 line by line: what each way through `check_rest` and `check_lines` answers.
use mathlib.Core.Path.{◌≡◌, refl, sym, ap, ◌∙◌}
use mathlib.Core.Bool.{Bool, true, false}
use mathlib.Core.List.{List, [], ◌∷◌}
use mathlib.Core.Option.{Option, none, some}
use Prim.Native.Nat.{ℕ, ◌+◌, ◌-◌, ◌*◌, ◌^◌, ◌≤◌, ◌<◌}
use native.Mathlib.Omega.{arith}
use borrow.Author.Tests.{lt-ltb, le-ltb}
use lib.ListN.{length}
use lib.IntN.{ℤ}
use lib.Signed.{mag}
use mir.Syntax.{w32}
use Rattle.integers.proofs.Ranges.{stored, read_again}
use Rattle.std.specs.Prelude.{Some, None, Result, Ok, Err}
use Rattle.refusals.specs.declared.Refusal.{Refusal}
use Rattle.refusals.specs.declared.Refusal.TheVariants.{NotAForm, OutOfOrder, TextTooLong}
use Rattle.text_forms.specs.declared.forms.Points.{Points}
use Rattle.text_forms.specs.declared.forms.Form.TheVariants.{Tolerance, Curve, Point}
use Rattle.text_forms.specs.Forms.{form_at}
use Rattle.text_forms.proofs.FormReach.{curve_ended, point_ended}
use Rattle.text_lines.specs.Lines.{Line, lines_from, lines_of, gather}
use Rattle.text_lines.specs.Meaning.{curve_numbers, point_of, fault_from, meaning_of, meaning, means, fault_or}
use Rattle.text_lines.specs.Inside.{text_check_of, lines_check_of}
use Rattle.text_lines.proofs.Lines.{lines_left, lines_over, lines_start, line_none, line_tolerance, line_curve, line_point}

-- ---- `check_rest`: the lines from place i on, numbered from `line` on, have the fault that those from place `at` on have, numbered from 2 on
pub record Checking (s : List ℕ) (at : ℕ) (late : Bool) (i line : ℕ) : Type 0 where
  pub few : 9 * line ≤ i + 18
  pub same : fault_from late line (lines_from (length s - i) s i) ≡ fault_from false 2 (lines_from (length s - at) s at)

module _ (s : List ℕ) (at : ℕ) where
  -- the answer for the lines from place `at` on
  abbrev pub ordered : Result Unit Refusal
  ordered = lines_check_of (fault_from false 2 (lines_from (length s - at) s at))

  pub checking_start : Checking s at false at 2
  checking_start = record { few = omega arith; same = refl }

  module _ (late : Bool) (i line : ℕ) (r : Checking s at late i line) where
    fault_is : (ls : List Line) → lines_left s i ≡ ls → (o : Option Refusal) → fault_from late line ls ≡ o → lines_check_of o ≡ ordered
    fault_is ls e o g = ap lines_check_of (sym g ∙ ap (fault_from late line) (sym e) ∙ r.same)

    pub rest_over : length s ≤ i → Ok tt ≡ ordered
    unfolding fault_from
    rest_over h = fault_is [] (lines_over (length s - i) s i h) none refl

    module _ (h : i < length s) (f : Line) (e : f ≡ form_at s i) where
      pub rest_no_form : f ≡ None → Err (NotAForm line) ≡ ordered
      unfolding fault_from
      rest_no_form q = fault_is (None ∷ []) (line_none s i h f e q) (some (NotAForm line)) refl

      pub rest_tolerance : (t : ℤ) (j : ℕ) → f ≡ Some (Tolerance t j) → Err (OutOfOrder line) ≡ ordered
      unfolding fault_from
      rest_tolerance t j q = fault_is (Some (Tolerance t j) ∷ lines_left s j) (line_tolerance s i h f e t j q) (some (OutOfOrder line)) refl

      pub rest_late : (p : Points) (j : ℕ) → f ≡ Some (Curve p j) → late ≡ true → Err (OutOfOrder line) ≡ ordered
      unfolding fault_from
      rest_late p j q d = fault_is (Some (Curve p j) ∷ lines_left s j) (line_curve s i h f e p j q) (some (OutOfOrder line)) (rw (fault_from, d))

      pub rest_curve : (p : Points) (j : ℕ) → f ≡ Some (Curve p j) → late ≡ false → Checking s at late j (line + 1)
      unfolding fault_from
      rest_curve p j q d = record {
        few = omega (arith, r.few, (curve_ended s i f e p j q).past);
        same = sym (rw (line_curve s i h f e p j q, fault_from, d)) ∙ r.same;
      }

      pub rest_point : (x y : ℤ) (j : ℕ) → f ≡ Some (Point x y j) → Checking s at true j (line + 1)
      unfolding fault_from
      rest_point x y j q = record {
        few = omega (arith, r.few, (point_ended s i f e x y j q).past);
        same = ap (fault_from late line) (sym (line_point s i h f e x y j q)) ∙ r.same;
      }

-- ---- `check_lines`
module _ (s : List ℕ) where
  pub lines_none : length s ≡ 0 → Err (OutOfOrder 1) ≡ text_check_of (meaning_of (lines_of s))
  unfolding meaning_of
  lines_none h = ap (λ (ls : List Line). text_check_of (meaning_of ls)) (sym (lines_start s ∙ lines_over (length s - 0) s 0 (omega arith)))

  module _ (h : length s ≡ 0 → ⊥) (f : Line) (e : f ≡ form_at s 0) where
    inside : 0 < length s
    inside = omega arith

    answer_is : (ls : List Line) → lines_left s 0 ≡ ls → text_check_of (meaning_of ls) ≡ text_check_of (meaning_of (lines_of s))
    answer_is ls g = ap (λ (l : List Line). text_check_of (meaning_of l)) (sym (lines_start s ∙ g))

    pub first_no_form : f ≡ None → Err (NotAForm 1) ≡ text_check_of (meaning_of (lines_of s))
    unfolding meaning_of
    first_no_form q = answer_is (None ∷ []) (line_none s 0 inside f e q)

    pub first_curve : (p : Points) (j : ℕ) → f ≡ Some (Curve p j) → Err (OutOfOrder 1) ≡ text_check_of (meaning_of (lines_of s))
    unfolding meaning_of
    first_curve p j q = answer_is (Some (Curve p j) ∷ lines_left s j) (line_curve s 0 inside f e p j q)

    pub first_point : (x y : ℤ) (j : ℕ) → f ≡ Some (Point x y j) → Err (OutOfOrder 1) ≡ text_check_of (meaning_of (lines_of s))
    unfolding meaning_of
    first_point x y j q = answer_is (Some (Point x y j) ∷ lines_left s j) (line_point s 0 inside f e x y j q)

    module _ (t : ℤ) (j : ℕ) (q : f ≡ Some (Tolerance t j)) (o : Result Unit Refusal)
        (k : o ≡ lines_check_of (fault_from false 2 (lines_from (length s - j) s j))) where
      rest_fault : (x : Option Refusal) → lines_check_of x ≡ lines_check_of (fault_from false 2 (lines_from (length s - j) s j))
          → text_check_of (fault_or x (means t (gather curve_numbers (lines_left s j)) (gather point_of (lines_left s j))))
          ≡ text_check_of (meaning_of (lines_of s))
      unfolding meaning_of
      rest_fault x g =
          ap (λ (y : Option Refusal). text_check_of (fault_or y (means t (gather curve_numbers (lines_left s j)) (gather point_of (lines_left s j)))))
          (same x (fault_from false 2 (lines_from (length s - j) s j)) g)
          ∙ answer_is (Some (Tolerance t j) ∷ lines_left s j) (line_tolerance s 0 inside f e t j q)
        where
          same : (x y : Option Refusal) → lines_check_of x ≡ lines_check_of y → x ≡ y
          same none none g = refl
          same (some a) (some b) g = cc
          same none (some b) g = let z : ◌≡◌ {A = ℕ} 0 1 = cc in absurd (omega arith)
          same (some a) none g = let z : ◌≡◌ {A = ℕ} 0 1 = cc in absurd (omega arith)

      pub rest_refused : (r : Refusal) → o ≡ Err r → Err r ≡ text_check_of (meaning_of (lines_of s))
      rest_refused r g = rest_fault (some r) (sym g ∙ k)

      pub rest_fine : o ≡ Ok tt → mag t < 2 ^ 31 → Ok (stored w32 t) ≡ text_check_of (meaning_of (lines_of s))
      rest_fine g m = rw (read_again w32 t m) (rest_fault none (sym g ∙ k))

-- ---- `check_text`
module _ (s : List ℕ) where
  pub text_too_long : 16384 < length s → Err (TextTooLong 16385) ≡ text_check_of (meaning s)
  unfolding meaning
  text_too_long h = simp (lt-ltb _ _ h)

  pub text_lines : (r : Result ℤ Refusal) → length s ≤ 16384 → r ≡ text_check_of (meaning_of (lines_of s)) → r ≡ text_check_of (meaning s)
  unfolding meaning
  text_lines r h e = simp (le-ltb _ _ h) e
