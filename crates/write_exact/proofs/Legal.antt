-- Every form that is read is legal: its numbers have 32 bits signed, and a curve has two to four points.
use mathlib.Core.Path.{◌≡◌, refl}
use mathlib.Core.Bool.{Bool, true, false, ◌&&◌, cond}
use mathlib.Core.List.{List, [], ◌∷◌}
use Prim.Native.Nat.{ℕ, zero, suc, ◌+◌, ◌≤◌}
use native.Mathlib.Omega.{arith}
use borrow.Author.Tests.{leb-true}
use lib.Dec.{leb, eqb}
use lib.ListN.{drop}
use lib.IntN.{ℤ, pos, neg_ℤ}
use Rattle.std.specs.Prelude.{Option, Some, None}
use Rattle.text_numbers.specs.Numerals.{byte, value_from, digit_count, natural_at, plus, minus, number_at}
use Rattle.text_forms.specs.Pairs.{word_at, number_then, pair_at, spaced_pair_at}
use Rattle.text_forms.specs.declared.forms.Points.{Points}
use Rattle.text_forms.specs.declared.forms.Form.TheVariants.{Tolerance, Curve, Point}
use Rattle.text_forms.specs.Forms.{tolerance_word, curve_word, point_word, closing, points, tolerance_form_at, point_form_at, curve_end, curve_fourth}
use Rattle.text_forms.specs.Forms.{curve_third, curve_form_at, form_at}
use Rattle.text_lines.specs.Lines.{Line}
use Rattle.write_exact.specs.Texts.{In32, PointsIn32, Legal, tolerance, two, three, four, point}

-- ---- what is read, where there is something
abbrev NaturalIn32 : Option (ℕ × ℕ) → Type 0
NaturalIn32 (Some (n, j)) = n ≤ 2147483648
NaturalIn32 None = Unit

abbrev NumberIn32 : Option (ℤ × ℕ) → Type 0
NumberIn32 (Some (z, j)) = In32 z
NumberIn32 None = Unit

abbrev PairIn32 : Option (ℤ × ℤ × ℕ) → Type 0
PairIn32 (Some (x, y, j)) = In32 x × In32 y
PairIn32 None = Unit

abbrev pub LegalRead : Line → Type 0
LegalRead (Some (Tolerance T j)) = Legal (Tolerance T j)
LegalRead (Some (Curve p j)) = Legal (Curve p j)
LegalRead (Some (Point x y j)) = Legal (Point x y j)
LegalRead None = Unit

-- ---- numbers
natural_in_32 : (s : List ℕ) (i : ℕ) → NaturalIn32 (natural_at s i)
unfolding natural_at
natural_in_32 s i = either (leb 49 (byte s i)) (leb (byte s i) 57) (leb (value_from 0 (drop i s)) 2147483648) refl
  where
    either : (a b t : Bool) → leb (value_from 0 (drop i s)) 2147483648 ≡ t
        → NaturalIn32 (cond (a && b && t) (Some (value_from 0 (drop i s), i + digit_count (drop i s))) None)
    either true true true e = leb-true (value_from 0 (drop i s)) 2147483648 e
    either true true false e = tt
    either true false t e = tt
    either false b t e = tt

number_in_32 : (s : List ℕ) (i : ℕ) → NumberIn32 (number_at s i)
unfolding number_at
number_in_32 s i = either (eqb (byte s i) 48) (eqb (byte s i) 45) (natural_at s (i + 1)) (natural_in_32 s (i + 1)) (natural_at s i)
  where
    negated : (n : ℕ) → n ≤ 2147483648 → In32 (neg_ℤ (pos n))
    negated zero h = omega arith
    negated (suc n) h = omega arith

    signed : (a : Option (ℕ × ℕ)) → NaturalIn32 a → NumberIn32 (minus a)
    signed (Some (n, j)) h = negated n h
    signed None h = tt

    below : (n j : ℕ) (t : Bool) → leb n 2147483647 ≡ t → NumberIn32 (cond t (Some (pos n, j)) None)
    below n j true e = let h = leb-true n 2147483647 e in omega arith
    below n j false e = tt

    plain : (b : Option (ℕ × ℕ)) → NumberIn32 (plus b)
    plain (Some (n, j)) = below n j (leb n 2147483647) refl
    plain None = tt

    either : (t u : Bool) (a : Option (ℕ × ℕ)) → NaturalIn32 a → (b : Option (ℕ × ℕ))
        → NumberIn32 (cond t (Some (pos 0, i + 1)) (cond u (minus a) (plus b)))
    either true u a h b = omega arith
    either false true a h b = signed a h
    either false false a h b = plain b

then_in_32 : (b : ℕ) (s : List ℕ) (i : ℕ) → NumberIn32 (number_then b s i)
unfolding number_then
then_in_32 b s i = either (number_at s i) (number_in_32 s i)
  where
    closed : (t : Bool) (z : ℤ) (j : ℕ) → In32 z → NumberIn32 (cond t (Some (z, j)) None)
    closed true z j h = h
    closed false z j h = tt

    either : (n : Option (ℤ × ℕ)) → NumberIn32 n
        → NumberIn32 (elim n [ Some (z, j) ↦ cond (eqb (byte s j) b) (Some (z, j + 1)) None | None ↦ None ])
    either (Some (z, j)) h = closed (eqb (byte s j) b) z (j + 1) h
    either None h = tt

-- ---- pairs
pair_in_32 : (s : List ℕ) (i : ℕ) → PairIn32 (spaced_pair_at s i)
unfolding spaced_pair_at pair_at
pair_in_32 s i = either (eqb (byte s i) 32) (eqb (byte s (i + 1)) 40) (number_then 32 s (i + 1 + 1)) (then_in_32 32 s (i + 1 + 1))
  where
    second : (x : ℤ) → In32 x → (n : Option (ℤ × ℕ)) → NumberIn32 n → PairIn32 (elim n [ Some (y, k) ↦ Some (x, y, k) | None ↦ None ])
    second x h (Some (y, k)) g = (h, g)
    second x h None g = tt

    either : (t u : Bool) (m : Option (ℤ × ℕ)) → NumberIn32 m → PairIn32 (cond t (cond u (elim m [
      | Some (x, j) ↦ elim (number_then 41 s j) [ Some (y, k) ↦ Some (x, y, k) | None ↦ None ]
      | None ↦ None
    ]) None) None)
    either true true (Some (x, j)) h = second x h (number_then 41 s j) (then_in_32 41 s j)
    either true true None h = tt
    either true false m h = tt
    either false u m h = tt

-- ---- lines
module _ (s : List ℕ) where
  closed : (f : ℕ → Line) (j : ℕ) → LegalRead (f (j + 2)) → (t : Bool) → LegalRead (cond t (f (j + 2)) None)
  closed f j h true = h
  closed f j h false = tt

  with_pair : (i : ℕ) (f : ℤ → ℤ → ℕ → Line) (g : Line) → ((x y : ℤ) (k : ℕ) → In32 x → In32 y → LegalRead (f x y k)) → LegalRead g
      → LegalRead (elim (spaced_pair_at s i) [ Some (x, y, k) ↦ f x y k | None ↦ g ])
  with_pair i f g a b = either (spaced_pair_at s i) (pair_in_32 s i)
    where
      either : (q : Option (ℤ × ℤ × ℕ)) → PairIn32 q → LegalRead (elim q [ Some (x, y, k) ↦ f x y k | None ↦ g ])
      either (Some (x, y, k)) h = a x y k h.0 h.1
      either None h = b

  end_legal : (p : Points) (i : ℕ) → ((j : ℕ) → Legal (Curve p j)) → LegalRead (curve_end s i p)
  unfolding curve_end
  end_legal p i h = closed (λ (k : ℕ). Some (Curve p k)) i (h (i + 2)) (word_at closing s i)

  fourth_legal : (x0 y0 x1 y1 x2 y2 : ℤ) → PointsIn32 ((x0, y0) ∷ (x1, y1) ∷ (x2, y2) ∷ []) → (i : ℕ)
      → LegalRead (curve_fourth s i (points (pos 2) x0 y0 x1 y1 x2 y2 (pos 0) (pos 0)))
  unfolding curve_fourth
  fourth_legal x0 y0 x1 y1 x2 y2 h i =
      with_pair i (λ x y k. curve_end s k (points (pos 3) x0 y0 x1 y1 x2 y2 x y)) (curve_end s i (points (pos 2) x0 y0 x1 y1 x2 y2 (pos 0) (pos 0)))
      (λ x y k hx hy. end_legal _ k (λ j. four (h.0, h.1, (h.2.0, h.2.1, (h.2.2.0, h.2.2.1, (hx, hy, tt))))))
      (end_legal _ i (λ j. three h))

  third_legal : (x0 y0 x1 y1 : ℤ) → PointsIn32 ((x0, y0) ∷ (x1, y1) ∷ []) → (i : ℕ)
      → LegalRead (curve_third s i (points (pos 1) x0 y0 x1 y1 (pos 0) (pos 0) (pos 0) (pos 0)))
  unfolding curve_third
  third_legal x0 y0 x1 y1 h i =
      with_pair i (λ x y k. curve_fourth s k (points (pos 2) x0 y0 x1 y1 x y (pos 0) (pos 0)))
      (curve_end s i (points (pos 1) x0 y0 x1 y1 (pos 0) (pos 0) (pos 0) (pos 0)))
      (λ x y k hx hy. fourth_legal x0 y0 x1 y1 x y (h.0, h.1, (h.2.0, h.2.1, (hx, hy, tt))) k)
      (end_legal _ i (λ j. two h))

  curve_legal : (i : ℕ) → LegalRead (curve_form_at s i)
  unfolding curve_form_at
  curve_legal i =
      with_pair i _ None
      (λ x0 y0 j h k. with_pair j (λ x1 y1 l. curve_third s l (points (pos 1) x0 y0 x1 y1 (pos 0) (pos 0) (pos 0) (pos 0))) None
      (λ x1 y1 l m n. third_legal x0 y0 x1 y1 (h, k, (m, n, tt)) l) tt) tt

  point_legal : (i : ℕ) → LegalRead (point_form_at s i)
  unfolding point_form_at
  point_legal i =
      with_pair i (λ x y j. cond (word_at closing s j) (Some (Point x y (j + 2))) None) None
      (λ x y j hx hy. closed (λ (k : ℕ). Some (Point x y k)) j (point hx hy) (word_at closing s j)) tt

  tolerance_legal : (i : ℕ) → LegalRead (tolerance_form_at s i)
  unfolding tolerance_form_at
  tolerance_legal i = either (number_at s i) (number_in_32 s i)
    where
      either : (n : Option (ℤ × ℕ)) → NumberIn32 n
          → LegalRead (elim n [ Some (t, j) ↦ cond (word_at closing s j) (Some (Tolerance t (j + 2))) None | None ↦ None ])
      either (Some (t, j)) h = closed (λ (k : ℕ). Some (Tolerance t k)) j (tolerance h) (word_at closing s j)
      either None h = tt

  pub form_legal : (i : ℕ) → LegalRead (form_at s i)
  unfolding form_at
  form_legal i = either (word_at tolerance_word s i) (word_at curve_word s i) (word_at point_word s i)
    where
      either : (a b d : Bool) → LegalRead (cond a (tolerance_form_at s (i + 11))
          (cond b (curve_form_at s (i + 6)) (cond d (point_form_at s (i + 6)) None)))
      either true b d = tolerance_legal (i + 11)
      either false true d = curve_legal (i + 6)
      either false false true = point_legal (i + 6)
      either false false false = tt
