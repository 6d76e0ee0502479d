-- How far a line reaches: at least nine bytes past its start, and not past the text. And a curve's degree is 1, 2 or 3.
use mathlib.Core.Path.{◌≡◌, refl, sym, ◌∙◌, subst}
use mathlib.Core.Bool.{true}
use mathlib.Core.List.{List}
use Prim.Native.Nat.{ℕ, ◌+◌, ◌≤◌}
use native.Mathlib.Omega.{arith}
use lib.ListN.{length}
use lib.IntN.{ℤ, pos}
use Rattle.std.specs.Prelude.{Option, Some, None}
use Rattle.std.proofs.lemmas.Grind.{common_steps}
use Rattle.text_forms.specs.declared.forms.Points.{Points}
use Rattle.text_forms.specs.declared.forms.Form.{Form}
use Rattle.text_forms.specs.declared.forms.Form.TheVariants.{Tolerance, Curve, Point}
use Rattle.text_forms.specs.Pairs.{word_at}
use Rattle.text_forms.specs.Forms.{closing, tolerance_form_at, point_form_at, curve_end, curve_fourth, curve_third, curve_form_at, form_at}
use Rattle.text_forms.proofs.PairWords.{word_inside}
use Rattle.text_forms.proofs.PairReach.{number_from, spaced_from}

-- ---- lines: one that starts at place i of a text of n bytes ends at place j
pub record Ended (i n j : ℕ) : Type 0 where
  pub past : i + 9 ≤ j
  pub inside : j ≤ n

pub record OneToThree (d : ℤ) : Type 0 where
  pub natural : ℕ
  pub is : d ≡ pos natural
  pub least : 1 ≤ natural
  pub most : natural ≤ 3

abbrev pub Reaches : ℕ → ℕ → Option Form → Type 0
Reaches i n (Some (Tolerance t j)) = Ended i n j
Reaches i n (Some (Curve p j)) = Ended i n j × OneToThree p.degree
Reaches i n (Some (Point x y j)) = Ended i n j
Reaches i n None = Unit

degree : (d : ℕ) → 1 ≤ d → d ≤ 3 → OneToThree (pos d)
degree d l h = record { natural = d; is = refl; least = l; most = h }

module _ (s : List ℕ) (i : ℕ) where
  closed : (j : ℕ) → i + 9 ≤ j + 2 → word_at closing s j ≡ true → Ended i (length s) (j + 2)
  closed j h e = record { past = h; inside = word_inside closing s j (omega arith) e }

  end_reaches : (p : Points) (j : ℕ) → OneToThree p.degree → i + 9 ≤ j + 2 → Reaches i (length s) (curve_end s j p)
  unfolding curve_end
  end_reaches p j d h = grind (arith, common_steps, closed)

  fourth_reaches : (p : Points) (j : ℕ) → OneToThree p.degree → i + 9 ≤ j + 2 → Reaches i (length s) (curve_fourth s j p)
  unfolding curve_fourth
  fourth_reaches p j d h = grind (arith, common_steps, end_reaches, spaced_from s j, degree)

  third_reaches : (p : Points) (j : ℕ) → OneToThree p.degree → i + 9 ≤ j + 2 → Reaches i (length s) (curve_third s j p)
  unfolding curve_third
  third_reaches p j d h = grind (arith, common_steps, end_reaches, fourth_reaches, spaced_from s j, degree)

  curve_reaches : Reaches i (length s) (curve_form_at s (i + 6))
  unfolding curve_form_at
  curve_reaches = grind (arith, common_steps, third_reaches, spaced_from, degree)

  point_reaches : Reaches i (length s) (point_form_at s (i + 6))
  unfolding point_form_at
  point_reaches = grind (arith, common_steps, closed, spaced_from)

  tolerance_reaches : Reaches i (length s) (tolerance_form_at s (i + 11))
  unfolding tolerance_form_at
  tolerance_reaches = grind (arith, common_steps, closed, number_from)

  pub form_reaches : Reaches i (length s) (form_at s i)
  unfolding form_at
  form_reaches = grind (arith, common_steps, tolerance_reaches, curve_reaches, point_reaches)

  -- how far a form reaches that was read
  module _ (f : Option Form) (e : f ≡ form_at s i) where
    pub tolerance_ended : (t : ℤ) (j : ℕ) → f ≡ Some (Tolerance t j) → Ended i (length s) j
    tolerance_ended t j g = subst (Reaches i (length s)) (sym e ∙ g) form_reaches

    curve_reached : (p : Points) (j : ℕ) → f ≡ Some (Curve p j) → Ended i (length s) j × OneToThree p.degree
    curve_reached p j g = subst (Reaches i (length s)) (sym e ∙ g) form_reaches

    pub curve_ended : (p : Points) (j : ℕ) → f ≡ Some (Curve p j) → Ended i (length s) j
    curve_ended p j g = (curve_reached p j g).0

    pub curve_degree : (p : Points) (j : ℕ) → f ≡ Some (Curve p j) → OneToThree p.degree
    curve_degree p j g = (curve_reached p j g).1

    pub point_ended : (x y : ℤ) (j : ℕ) → f ≡ Some (Point x y j) → Ended i (length s) j
    point_ended x y j g = subst (Reaches i (length s)) (sym e ∙ g) form_reaches
