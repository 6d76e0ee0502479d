-- Keeping the outline of a text: what each step of `keep_outline` and of the functions below it leaves in the list.
use mathlib.Core.Path.{◌≡◌, refl, sym, ap, ◌∙◌, subst}
use mathlib.Core.Bool.{Bool, true, false, cond}
use mathlib.Core.List.{List, [], ◌∷◌, ◌++◌, append_assoc, append-nil}
use Prim.Native.Nat.{ℕ, suc, ◌+◌, ◌-◌, ◌*◌, ◌^◌, ◌≤◌, ◌<◌}
use native.Mathlib.Omega.{arith}
use borrow.Author.Tests.{leb-true, leb-false}
use lib.Dec.{leb, lit≤}
use lib.ListN.{length}
use lib.IntN.{ℤ, pos}
use lib.Signed.{mag, lt_z}
use mir.Syntax.{w32}
use mir.Val.{SFits}
use mir.Facts.{to_z-of_z}
use Rattle.integers.proofs.Ranges.{stored, read_again}
use Rattle.text_forms.specs.declared.forms.Points.{Points}
use Rattle.std.specs.Prelude.{Some, None}
use Rattle.text_forms.specs.declared.forms.Form.{Form}
use Rattle.text_forms.specs.declared.forms.Form.TheVariants.{Tolerance, Curve, Point}
use Rattle.text_forms.specs.Forms.{form_at}
use Rattle.write_numbers.specs.Appends.{Appended}
use Rattle.write_numbers.proofs.Appends.{append_none, append_both, appended_length}
use Rattle.text_lines.specs.Lines.{Line, lines_from, lines_of}
use Rattle.text_lines.specs.Meaning.{numbers_of_curve}
use Rattle.text_outline.specs.Outlines.{kept}
use Rattle.text_outline.specs.Inside.{first_numbers}
use Rattle.text_lines.proofs.Lines.{lines_left, lines_over, lines_start, line_none, line_tolerance, line_curve, line_point, form_inside}

-- ---- a pair, and a pair after other numbers
pub put_both : (d o u : List ℤ) (i j k : ℕ) (x y : ℤ) → Appended d i (stored w32 x ∷ []) o j → Appended o j (stored w32 y ∷ []) u k → SFits w32 x
    → SFits w32 y
    → Appended d i (x ∷ y ∷ []) u k
put_both d o u i j k x y p q hx hy =
    append_both d o u (x ∷ []) (y ∷ []) i j k (subst (λ (z : ℤ). Appended d i (z ∷ []) o j) (to_z-of_z hx) p)
    (subst (λ (z : ℤ). Appended o j (z ∷ []) u k) (to_z-of_z hy) q)

then_pair : (d o u : List ℤ) (i j k : ℕ) (xs : List ℤ) (x y : ℤ) → Appended d i xs o j → Appended o j (stored w32 x ∷ stored w32 y ∷ []) u k
    → mag x < 2 ^ 31 → mag y < 2 ^ 31
    → Appended d i (xs ++ (x ∷ y ∷ [])) u k
then_pair d o u i j k xs x y p q hx hy = append_both d o u xs (x ∷ y ∷ []) i j k p (rw (read_again w32 x hx, read_again w32 y hy) at q)

-- ---- the numbers of a curve
module _ (d o u v : List ℤ) (i j k l : ℕ) (p : Points) where
  pub put_first_numbers : Appended d i (stored w32 p.degree ∷ []) o j → Appended o j (stored w32 p.x0 ∷ stored w32 p.y0 ∷ []) u k
      → Appended u k (stored w32 p.x1 ∷ stored w32 p.y1 ∷ []) v l
      → mag p.degree < 2 ^ 31 → mag p.x0 < 2 ^ 31 → mag p.y0 < 2 ^ 31 → mag p.x1 < 2 ^ 31 → mag p.y1 < 2 ^ 31
      → Appended d i (first_numbers p) v l
  put_first_numbers a b c hd h0 g0 h1 g1 =
      then_pair d u v i k l (p.degree ∷ p.x0 ∷ p.y0 ∷ []) p.x1 p.y1
      (then_pair d o u i j k (p.degree ∷ []) p.x0 p.y0 (rw (read_again w32 p.degree hd) at a) b h0 g0) c h1 g1

-- the degree as a test reads it
degree_test : (p : Points) (m : ℤ) (b : Bool) → mag p.degree < 2 ^ 31 → lt_z (stored w32 p.degree) m ≡ b → lt_z p.degree m ≡ b
degree_test p m b h e = rw (read_again w32 p.degree h) at e

module _ (d o : List ℤ) (i j : ℕ) (p : Points) (a : Appended d i (first_numbers p) o j) (m : mag p.degree < 2 ^ 31) where
  pub put_line : lt_z (stored w32 p.degree) (pos 2) ≡ true → Appended d i (numbers_of_curve p) o j
  unfolding numbers_of_curve
  put_line h = rw (numbers_of_curve, degree_test p (pos 2) true m h) a

  module _ (h : lt_z (stored w32 p.degree) (pos 2) ≡ false) (u : List ℤ) (k : ℕ)
      (b : Appended o j (stored w32 p.x2 ∷ stored w32 p.y2 ∷ []) u k)
      (hx : mag p.x2 < 2 ^ 31) (hy : mag p.y2 < 2 ^ 31) where
    three : Appended d i (first_numbers p ++ (p.x2 ∷ p.y2 ∷ [])) u k
    three = then_pair d o u i j k (first_numbers p) p.x2 p.y2 a b hx hy

    pub put_quadratic : lt_z (stored w32 p.degree) (pos 3) ≡ true → Appended d i (numbers_of_curve p) u k
    unfolding numbers_of_curve
    put_quadratic l = rw (numbers_of_curve, degree_test p (pos 2) false m h, degree_test p (pos 3) true m l) three

    pub put_cubic : lt_z (stored w32 p.degree) (pos 3) ≡ false → (v : List ℤ) (n : ℕ)
        → Appended u k (stored w32 p.x3 ∷ stored w32 p.y3 ∷ []) v n
        → mag p.x3 < 2 ^ 31 → mag p.y3 < 2 ^ 31 → Appended d i (numbers_of_curve p) v n
    unfolding numbers_of_curve
    put_cubic l v n c hx' hy' = rw (numbers_of_curve, degree_test p (pos 2) false m h, degree_test p (pos 3) false m l)
        (then_pair d u v i k n (first_numbers p ++ (p.x2 ∷ p.y2 ∷ [])) p.x3 p.y3 three c hx' hy')

-- ---- `keep_outline`: of the lines from place i on, `left` curves are to be kept; what the lines before them gave stands in the list, which was d
-- and is o
pub record Keeping (s : List ℕ) (d o : List ℤ) (at i left : ℕ) : Type 0 where
  pub done : List ℤ
  pub split : kept 64 (lines_of s) ≡ done ++ kept left (lines_from (length s - i) s i)
  pub put : Appended d 0 done o at
  pub size : length o ≡ length d
  pub room : at + 9 * left + 1 ≤ length d

pub few_numbers : (p : Points) → length (numbers_of_curve p) ≤ 9
unfolding numbers_of_curve
few_numbers p = either (lt_z p.degree (pos 2)) (lt_z p.degree (pos 3))
  where
    either : (a b : Bool) → length (first_numbers p ++ cond {A = List ℤ} a [] (p.x2 ∷ p.y2 ∷ cond {A = List ℤ} b [] (p.x3 ∷ p.y3 ∷ []))) ≤ 9
    either true b = lit≤ tt
    either false true = lit≤ tt
    either false false = lit≤ tt

module _ (s : List ℕ) (d : List ℤ) where
  -- what is kept of the whole text
  abbrev pub all : List ℤ
  all = kept 64 (lines_of s)

  pub keeping_start : 577 ≤ length d → Keeping s d d 0 0 64
  keeping_start h = record { done = []; split = ap (kept 64) (lines_start s); put = append_none d 0; size = refl; room = omega arith }

  module _ (o : List ℤ) (at i left : ℕ) (r : Keeping s d o at i left) where
    -- what is left to keep, where the lines from place i on are ls
    remaining : (ls : List Line) → lines_left s i ≡ ls → all ≡ r.done ++ kept left ls
    remaining ls e = r.split ∙ ap (λ (l : List Line). r.done ++ kept left l) e

    nothing_more : all ≡ r.done ++ [] → Appended d 0 all o at
    nothing_more e = subst (λ (xs : List ℤ). Appended d 0 xs o at) (sym (e ∙ append-nil r.done)) r.put

    -- the text is over, or a line that is no form follows
    pub keep_none : None ≡ form_at s i → Appended d 0 all o at
    unfolding kept
    keep_none e = either (leb (length s) i) refl
      where
        either : (b : Bool) → leb (length s) i ≡ b → Appended d 0 all o at
        either true h = nothing_more (remaining [] (lines_over (length s - i) s i (leb-true _ _ h)))
        either false h = nothing_more (remaining (None ∷ []) (line_none s i (leb-false _ _ h) None e refl))

    module _ (x : Form) (e : Some x ≡ form_at s i) where
      starts : i < length s
      starts = form_inside s i x (sym e)

      moved : (j : ℕ) → all ≡ r.done ++ kept left (lines_left s j) → Keeping s d o at j left
      moved j g = record { done = r.done; split = g; put = r.put; size = r.size; room = r.room }

      pub keep_tolerance : (t : ℤ) (j : ℕ) → x ≡ Tolerance t j → Keeping s d o at j left
      unfolding kept
      keep_tolerance t j q = moved j (remaining (Some (Tolerance t j) ∷ lines_left s j) (line_tolerance s i starts (Some x) e t j (ap Some q)))

      pub keep_point : (u v : ℤ) (j : ℕ) → x ≡ Point u v j → Keeping s d o at j left
      unfolding kept
      keep_point u v j q = moved j (remaining (Some (Point u v j) ∷ lines_left s j) (line_point s i starts (Some x) e u v j (ap Some q)))

      module _ (p : Points) (j : ℕ) (q : x ≡ Curve p j) (u : List ℤ) (k : ℕ) where
        found : all ≡ r.done ++ kept left (Some (Curve p j) ∷ lines_left s j)
        found = remaining (Some (Curve p j) ∷ lines_left s j) (line_curve s i starts (Some x) e p j (ap Some q))

        -- one curve too many begins
        pub keep_last : left ≡ 0 → Appended o at (stored w32 p.degree ∷ []) u k → mag p.degree < 2 ^ 31 → Appended d 0 all u k
        unfolding kept
        keep_last z a m =
            subst (λ (xs : List ℤ). Appended d 0 xs u k)
            (sym (found ∙ ap (λ (n : ℕ). r.done ++ kept n (Some (Curve p j) ∷ lines_left s j)) z))
            (append_both d o u r.done (p.degree ∷ []) 0 at k r.put (rw (read_again w32 p.degree m) at a))

        pub keep_curve : (left ≡ 0 → ⊥) → Appended o at (numbers_of_curve p) u k → Keeping s d u k j (left - 1)
        unfolding kept
        keep_curve z a = record {
          done = r.done ++ numbers_of_curve p;
          split =
              found ∙ ap (λ (n : ℕ). r.done ++ kept n (Some (Curve p j) ∷ lines_left s j)) one_less
              ∙ sym (append_assoc r.done (numbers_of_curve p) (kept (left - 1) (lines_left s j)));
          put = append_both d o u r.done (numbers_of_curve p) 0 at k r.put a;
          size = appended_length o at (numbers_of_curve p) u k a ∙ r.size;
          room = omega (arith, a.next, few_numbers p, r.room);
        }
          where
            one_less : left ≡ suc (left - 1)
            one_less = omega arith

-- ---- a turn of the loop goes on past a line, or stops
pub ruleset keep-past = (keep_tolerance, keep_curve, keep_point)

pub ruleset keep-stops = (keep_none, keep_last)
