-- The lines of a text one by one: what is read from a place on does not depend on how many lines are allowed, as long as there are as many as bytes.
use mathlib.Core.Path.{◌≡◌, refl, sym, ap, ◌∙◌, subst}
use mathlib.Core.Bool.{Bool, true, false}
use mathlib.Core.List.{List, [], ◌∷◌}
use Prim.Native.Nat.{ℕ, zero, suc, ◌+◌, ◌-◌, ◌≤◌, ◌<◌}
use native.Mathlib.Omega.{arith}
use borrow.Author.Tests.{lt-ltb, le-ltb, ltb-true, ltb-false}
use lib.Dec.{ltb}
use lib.ListN.{length}
use lib.IntN.{ℤ}
use Rattle.std.specs.Prelude.{Some, None}
use Rattle.text_forms.specs.declared.forms.Points.{Points}
use Rattle.std.proofs.lemmas.Grind.{common_steps}
use Rattle.text_forms.specs.declared.forms.Form.{Form}
use Rattle.text_forms.specs.declared.forms.Form.TheVariants.{Tolerance, Curve, Point}
use Rattle.text_forms.specs.Forms.{form_at}
use Rattle.text_forms.proofs.FormReach.{Ended, Reaches, form_reaches}
use Rattle.text_lines.specs.Lines.{Line, lines_after, lines_from, lines_of}

-- ---- the text is over, or a line follows
pub lines_over : (n : ℕ) (s : List ℕ) (i : ℕ) → length s ≤ i → lines_from n s i ≡ []
unfolding lines_from
lines_over zero s i h = refl
lines_over (suc n) s i h = simp (le-ltb _ _ h)

pub lines_more : (n : ℕ) (s : List ℕ) (i : ℕ) → i < length s → lines_from (suc n) s i ≡ form_at s i ∷ lines_after (form_at s i) (lines_from n s)
unfolding lines_from
lines_more n s i h = simp (lt-ltb _ _ h)

-- ---- as many lines as bytes are left are enough
module _ (s : List ℕ) where
  lines_after_same : (i n m : ℕ) (f : Line) → Reaches i (length s) f → ((j : ℕ) → i + 9 ≤ j → lines_from n s j ≡ lines_from m s j)
      → lines_after f (lines_from n s) ≡ lines_after f (lines_from m s)
  lines_after_same i n m (Some (Tolerance t j)) r h = h j r.past
  lines_after_same i n m (Some (Curve p j)) r h = h j r.0.past
  lines_after_same i n m (Some (Point x y j)) r h = h j r.past
  lines_after_same i n m None r h = refl

  lines_enough : (n m i : ℕ) → length s - i ≤ n → length s - i ≤ m → lines_from n s i ≡ lines_from m s i
  lines_enough zero m i h k = lines_over 0 s i (omega arith) ∙ sym (lines_over m s i (omega arith))
  lines_enough (suc n) zero i h k = lines_over (suc n) s i (omega arith) ∙ sym (lines_over 0 s i (omega arith))
  lines_enough (suc n) (suc m) i h k = either (λ j l p. lines_enough n m j (omega arith) (omega arith)) (ltb i (length s)) refl
    where
      either : ((j : ℕ) → i < length s → i + 9 ≤ j → lines_from n s j ≡ lines_from m s j) → (b : Bool) → ltb i (length s) ≡ b
          → lines_from (suc n) s i ≡ lines_from (suc m) s i
      either again false e = let l = ltb-false _ _ e in lines_over (suc n) s i l ∙ sym (lines_over (suc m) s i l)
      either again true e =
          let l = ltb-true _ _ e in
          lines_more n s i l
          ∙ ap (λ (ls : List Line). form_at s i ∷ ls) (lines_after_same i n m (form_at s i) (form_reaches s i) (λ j p. again j l p))
          ∙ sym (lines_more m s i l)

-- the lines from place i on, all of them
abbrev pub lines_left : List ℕ → ℕ → List Line
lines_left s i = lines_from (length s - i) s i

pub lines_start : (s : List ℕ) → lines_of s ≡ lines_left s 0
unfolding lines_of
lines_start s = ap (λ (n : ℕ). lines_from n s 0) (omega arith)

-- ---- the line that was read at place i, and the lines from its end on
module _ (s : List ℕ) (i : ℕ) (h : i < length s) (f : Line) (e : f ≡ form_at s i) where
  first : lines_left s i ≡ f ∷ lines_after f (lines_from (length s - i - 1) s)
  first =
      let n : length s - i ≡ suc (length s - i - 1) = omega arith in
      ap (λ (m : ℕ). lines_from m s i) n ∙ lines_more (length s - i - 1) s i h
      ∙ ap (λ (g : Line). g ∷ lines_after g (lines_from (length s - i - 1) s)) (sym e)

  rest : (j : ℕ) → Ended i (length s) j → lines_from (length s - i - 1) s j ≡ lines_left s j
  rest j r = let p = r.past in lines_enough s (length s - i - 1) (length s - j) j (omega arith) (omega arith)

  reached : (g : Line) → f ≡ g → Reaches i (length s) g
  reached g q = subst (Reaches i (length s)) (sym e ∙ q) (form_reaches s i)

  at_form : (g : Line) → f ≡ g → lines_left s i ≡ g ∷ lines_after g (lines_from (length s - i - 1) s)
  at_form g q = subst (λ (x : Line). lines_left s i ≡ x ∷ lines_after x (lines_from (length s - i - 1) s)) q first

  pub line_none : f ≡ None → lines_left s i ≡ None ∷ []
  line_none q = at_form None q

  pub line_tolerance : (t : ℤ) (j : ℕ) → f ≡ Some (Tolerance t j) → lines_left s i ≡ Some (Tolerance t j) ∷ lines_left s j
  line_tolerance t j q =
      at_form (Some (Tolerance t j)) q ∙ ap (λ (ls : List Line). Some (Tolerance t j) ∷ ls) (rest j (reached (Some (Tolerance t j)) q))

  pub line_curve : (p : Points) (j : ℕ) → f ≡ Some (Curve p j) → lines_left s i ≡ Some (Curve p j) ∷ lines_left s j
  line_curve p j q = at_form (Some (Curve p j)) q ∙ ap (λ (ls : List Line). Some (Curve p j) ∷ ls) (rest j (reached (Some (Curve p j)) q).0)

  pub line_point : (x y : ℤ) (j : ℕ) → f ≡ Some (Point x y j) → lines_left s i ≡ Some (Point x y j) ∷ lines_left s j
  line_point x y j q = at_form (Some (Point x y j)) q ∙ ap (λ (ls : List Line). Some (Point x y j) ∷ ls) (rest j (reached (Some (Point x y j)) q))

  -- each line leaves less of the text
  less : (j : ℕ) → Ended i (length s) j → length s - j < length s - i
  less j r = let p = r.past in omega arith

  pub tolerance_less : (t : ℤ) (j : ℕ) → f ≡ Some (Tolerance t j) → length s - j < length s - i
  tolerance_less t j q = less j (reached (Some (Tolerance t j)) q)

  pub curve_less : (p : Points) (j : ℕ) → f ≡ Some (Curve p j) → length s - j < length s - i
  curve_less p j q = less j (reached (Some (Curve p j)) q).0

  pub point_less : (x y : ℤ) (j : ℕ) → f ≡ Some (Point x y j) → length s - j < length s - i
  point_less x y j q = less j (reached (Some (Point x y j)) q)

-- a line that has a form starts inside the text
pub form_inside : (s : List ℕ) (i : ℕ) (f : Form) → form_at s i ≡ Some f → i < length s
form_inside s i f e = grind (arith, common_steps, form_reaches s i)

-- the step past a line that has a form
module _ (s : List ℕ) (i : ℕ) (x : Form) (e : Some x ≡ form_at s i) where
  starts : i < length s
  starts = form_inside s i x (sym e)

  pub past_tolerance : (t : ℤ) (j : ℕ) → x ≡ Tolerance t j → length s - j < length s - i
  past_tolerance t j q = tolerance_less s i starts (Some x) e t j (ap Some q)

  pub past_curve : (p : Points) (j : ℕ) → x ≡ Curve p j → length s - j < length s - i
  past_curve p j q = curve_less s i starts (Some x) e p j (ap Some q)

  pub past_point : (u v : ℤ) (j : ℕ) → x ≡ Point u v j → length s - j < length s - i
  past_point u v j q = point_less s i starts (Some x) e u v j (ap Some q)

pub ruleset line-less = (past_tolerance, past_curve, past_point)
