-- A line is read as a form only where its bytes are those of the form: no leading zeros, no other spaces, no other end.
use mathlib.Core.Path.{◌≡◌, refl, sym, ap, ◌∙◌, subst}
use mathlib.Core.Bool.{Bool, true, false, cond}
use mathlib.Core.List.{List, [], ◌∷◌, ◌++◌, append-nil}
use Prim.Native.Nat.{ℕ, ◌+◌, ◌<◌}
use native.Mathlib.Omega.{arith}
use borrow.Author.Tests.{eqb-true}
use lib.Dec.{eqb}
use lib.ListN.{length, drop}
use lib.Seq.{drop-drop}
use lib.IntN.{ℤ, pos}
use Rattle.std.proofs.lemmas.Option.{some_pair_parts}
use Rattle.std.specs.Prelude.{Option, Some, None}
use Rattle.integers.proofs.Clash.{clash}
use Rattle.text_numbers.specs.Numerals.{byte, number_at}
use Rattle.text_forms.specs.declared.forms.Points.{Points}
use Rattle.text_forms.specs.declared.forms.Form.TheVariants.{Tolerance, Curve, Point}
use Rattle.text_forms.specs.Pairs.{starts_with, word_at, number_then, pair_at, spaced_pair_at}
use Rattle.text_forms.specs.Forms.{tolerance_word, curve_word, point_word, closing, points, tolerance_form_at, point_form_at, curve_end, curve_fourth}
use Rattle.text_forms.specs.Forms.{curve_third, curve_form_at, form_at}
use Rattle.text_lines.specs.Lines.{Line}
use Rattle.write_numbers.specs.Decimals.{decimal}
use Rattle.write_exact.specs.Written.{Written, pair_bytes, tolerance_line, point_line, curve_line, LineWritten}
use Rattle.write_exact.proofs.Decimals.{written_both, byte_written, number_written}

-- ---- words
starts : (w bs : List ℕ) → starts_with w bs ≡ true → bs ≡ w ++ drop (length w) bs
unfolding starts_with
starts [] bs e = refl
starts (k ∷ ks) [] e = clash (cc)
starts (k ∷ ks) (b ∷ bs) e = either (eqb b k) refl e (starts ks bs)
  where
    either : (t : Bool) → eqb b k ≡ t → cond t (starts_with ks bs) false ≡ true → (starts_with ks bs ≡ true → bs ≡ ks ++ drop (length ks) bs)
        → b ∷ bs ≡ k ∷ ks ++ drop (length ks) bs
    either false f g again = clash (cc)
    either true f g again = ap (λ (c : ℕ). c ∷ bs) (eqb-true b k f) ∙ ap (λ (l : List ℕ). k ∷ l) (again g)

word_written : (w s : List ℕ) (i : ℕ) → word_at w s i ≡ true → Written s i (i + length w) w
word_written w s i e = record { bytes_there = starts w (drop i s) e ∙ ap (λ (l : List ℕ). w ++ l) (drop-drop (length w) i s); end_there = refl }

-- ---- pairs
then_written : (b : ℕ) (s : List ℕ) (i : ℕ) → 0 < b → (z : ℤ) (j : ℕ) → number_then b s i ≡ Some (z, j) → Written s i j (decimal z ++ (b ∷ []))
unfolding number_then
then_written b s i h z j e = either (number_at s i) refl e
  where
    either : (n : Option (ℤ × ℕ)) → number_at s i ≡ n
        → ◌≡◌ {A = Option (ℤ × ℕ)} (elim n [ Some (y, k) ↦ cond (eqb (byte s k) b) (Some (y, k + 1)) None | None ↦ None ]) (Some (z, j))
        → Written s i j (decimal z ++ (b ∷ []))
    either None f g = clash (cc)
    either (Some (y, k)) f g = more (eqb (byte s k) b) refl g
      where
        more : (t : Bool) → eqb (byte s k) b ≡ t → ◌≡◌ {A = Option (ℤ × ℕ)} (cond t (Some (y, k + 1)) None) (Some (z, j))
            → Written s i j (decimal z ++ (b ∷ []))
        more false p q = clash (cc)
        more true p q =
            let parts = some_pair_parts y z (k + 1) j q in
            let v = parts.0 in
            let x = parts.1 in
            subst (λ (m : ℕ). Written s i m (decimal z ++ (b ∷ []))) x (subst (λ (u : ℤ). Written s i (k + 1) (decimal u ++ (b ∷ []))) v
            (written_both s i k (k + 1) (decimal y) (b ∷ []) (number_written s i y k f) (byte_written s k b h (eqb-true (byte s k) b p))))

same_pair : (u v x y : ℤ) (l j : ℕ) → ◌≡◌ {A = Option (ℤ × ℤ × ℕ)} (Some (u, v, l)) (Some (x, y, j)) → (u ≡ x) × (v ≡ y) × (l ≡ j)
same_pair u v x y l j e = let t : ◌≡◌ {A = ℤ × ℤ × ℕ} (u, v, l) (x, y, j) = cc in (ap (λ p. p.0) t, ap (λ p. p.1) t, ap (λ p. p.2) t)

pair_written : (s : List ℕ) (i : ℕ) (x y : ℤ) (j : ℕ) → pair_at s i ≡ Some (x, y, j)
    → Written s i j (40 ∷ (decimal x ++ (32 ∷ []) ++ (decimal y ++ (41 ∷ []))))
unfolding pair_at
pair_written s i x y j e = either (eqb (byte s i) 40) refl (number_then 32 s (i + 1)) refl e
  where
    second : (u : ℤ) (k : ℕ) → byte s i ≡ 40 → number_then 32 s (i + 1) ≡ Some (u, k) → (n : Option (ℤ × ℕ)) → number_then 41 s k ≡ n
        → ◌≡◌ {A = Option (ℤ × ℤ × ℕ)} (elim n [ Some (v, l) ↦ Some (u, v, l) | None ↦ None ]) (Some (x, y, j))
        → Written s i j (40 ∷ (decimal x ++ (32 ∷ []) ++ (decimal y ++ (41 ∷ []))))
    second u k f g None p q = clash (cc)
    second u k f g (Some (v, l)) p q =
        let parts = same_pair u v x y l j q in
        let a = parts.0 in
        let b = parts.1 in
        let c = parts.2 in
        written_both s i (i + 1) j (40 ∷ []) (decimal x ++ (32 ∷ []) ++ (decimal y ++ (41 ∷ []))) (byte_written s i 40 (omega arith) f)
        (written_both s (i + 1) k j (decimal x ++ (32 ∷ [])) (decimal y ++ (41 ∷ []))
        (then_written 32 s (i + 1) (omega arith) x k (g ∙ ap (λ (w : ℤ). Some (w, k)) a))
        (then_written 41 s k (omega arith) y j (p ∙ ap (λ (w : ℤ). Some (w, l)) b ∙ ap (λ (k : ℕ). Some (y, k)) c)))

    either : (t : Bool) → eqb (byte s i) 40 ≡ t → (m : Option (ℤ × ℕ)) → number_then 32 s (i + 1) ≡ m → ◌≡◌ {A = Option (ℤ × ℤ × ℕ)} (cond t (elim m [
      | Some (u, k) ↦ elim (number_then 41 s k) [ Some (v, l) ↦ Some (u, v, l) | None ↦ None ]
      | None ↦ None
    ]) None) (Some (x, y, j)) → Written s i j (40 ∷ (decimal x ++ (32 ∷ []) ++ (decimal y ++ (41 ∷ []))))
    either false f m g h = clash (cc)
    either true f None g h = clash (cc)
    either true f (Some (u, k)) g h = second u k (eqb-true (byte s i) 40 f) g (number_then 41 s k) refl h

spaced_written : (s : List ℕ) (i : ℕ) (x y : ℤ) (j : ℕ) → spaced_pair_at s i ≡ Some (x, y, j) → Written s i j (pair_bytes x y)
unfolding spaced_pair_at pair_bytes
spaced_written s i x y j e = either (eqb (byte s i) 32) refl e
  where
    either : (t : Bool) → eqb (byte s i) 32 ≡ t → cond t (pair_at s (i + 1)) None ≡ Some (x, y, j)
        → Written s i j (32 ∷ 40 ∷ (decimal x ++ (32 ∷ []) ++ (decimal y ++ (41 ∷ []))))
    either false f g = clash (cc)
    either true f g =
        written_both s i (i + 1) j (32 ∷ []) (40 ∷ (decimal x ++ (32 ∷ []) ++ (decimal y ++ (41 ∷ []))))
        (byte_written s i 32 (omega arith) (eqb-true (byte s i) 32 f)) (pair_written s (i + 1) x y j g)

-- ---- lines, of which what stands before place i is written from place `start` on
module _ (s : List ℕ) (start : ℕ) where
  closed : (front : List ℕ) (i : ℕ) → Written s start i front → word_at closing s i ≡ true → Written s start (i + 2) (front ++ closing)
  closed front i w e = written_both s start i (i + 2) front closing w (word_written closing s i e)

  with_pair : (i : ℕ) (f : ℤ → ℤ → ℕ → Line) (g : Line) → ((x y : ℤ) (k : ℕ) → Written s i k (pair_bytes x y) → LineWritten s start (f x y k))
      → LineWritten s start g
      → LineWritten s start (elim (spaced_pair_at s i) [ Some (x, y, k) ↦ f x y k | None ↦ g ])
  with_pair i f g a b = either (spaced_pair_at s i) refl
    where
      either : (r : Option (ℤ × ℤ × ℕ)) → spaced_pair_at s i ≡ r → LineWritten s start (elim r [ Some (x, y, k) ↦ f x y k | None ↦ g ])
      either (Some (x, y, k)) e = a x y k (spaced_written s i x y k e)
      either None e = b

  end_written : (p : Points) (front : List ℕ) (i : ℕ) → curve_line p ≡ front ++ closing → Written s start i front
      → LineWritten s start (curve_end s i p)
  unfolding curve_end
  end_written p front i l w = either (word_at closing s i) refl
    where
      either : (t : Bool) → word_at closing s i ≡ t → LineWritten s start (cond t (Some (Curve p (i + 2))) None)
      either false f = tt
      either true f = subst (Written s start (i + 2)) (sym l) (closed front i w f)

  module _ (x0 y0 x1 y1 : ℤ) where
    abbrev two : List ℕ
    two = curve_word ++ pair_bytes x0 y0 ++ pair_bytes x1 y1

    fourth_written : (x2 y2 : ℤ) (i : ℕ) → Written s start i (two ++ pair_bytes x2 y2)
        → LineWritten s start (curve_fourth s i (points (pos 2) x0 y0 x1 y1 x2 y2 (pos 0) (pos 0)))
    unfolding curve_fourth curve_line
    fourth_written x2 y2 i w =
        with_pair i (λ x y k. curve_end s k (points (pos 3) x0 y0 x1 y1 x2 y2 x y)) (curve_end s i (points (pos 2) x0 y0 x1 y1 x2 y2 (pos 0) (pos 0)))
        (λ x y k v. end_written (points (pos 3) x0 y0 x1 y1 x2 y2 x y) (two ++ pair_bytes x2 y2 ++ pair_bytes x y) k refl
        (written_both s start i k (two ++ pair_bytes x2 y2) (pair_bytes x y) w v))
        (end_written (points (pos 2) x0 y0 x1 y1 x2 y2 (pos 0) (pos 0)) (two ++ pair_bytes x2 y2) i
        (ap (λ (l : List ℕ). l ++ closing) (append-nil (two ++ pair_bytes x2 y2))) w)

    third_written : (i : ℕ) → Written s start i two
        → LineWritten s start (curve_third s i (points (pos 1) x0 y0 x1 y1 (pos 0) (pos 0) (pos 0) (pos 0)))
    unfolding curve_third curve_line
    third_written i w =
        with_pair i (λ x y k. curve_fourth s k (points (pos 2) x0 y0 x1 y1 x y (pos 0) (pos 0)))
        (curve_end s i (points (pos 1) x0 y0 x1 y1 (pos 0) (pos 0) (pos 0) (pos 0)))
        (λ x y k v. fourth_written x y k (written_both s start i k two (pair_bytes x y) w v))
        (end_written (points (pos 1) x0 y0 x1 y1 (pos 0) (pos 0) (pos 0) (pos 0)) two i
        (ap (λ (l : List ℕ). l ++ closing) (append-nil (two ++ []) ∙ append-nil two)) w)

  curve_written : (i : ℕ) → Written s start i curve_word → LineWritten s start (curve_form_at s i)
  unfolding curve_form_at
  curve_written i w =
      with_pair i _ None
      (λ x0 y0 j v. with_pair j (λ x1 y1 k. curve_third s k (points (pos 1) x0 y0 x1 y1 (pos 0) (pos 0) (pos 0) (pos 0))) None
      (λ x1 y1 k u. third_written x0 y0 x1 y1 k (written_both s start j k (curve_word ++ pair_bytes x0 y0) (pair_bytes x1 y1)
      (written_both s start i j curve_word (pair_bytes x0 y0) w v) u)) tt) tt

  point_written : (i : ℕ) → Written s start i point_word → LineWritten s start (point_form_at s i)
  unfolding point_form_at point_line
  point_written i w =
      with_pair i (λ x y j. cond (word_at closing s j) (Some (Point x y (j + 2))) None) None (λ x y j v. either x y j v (word_at closing s j) refl) tt
    where
      either : (x y : ℤ) (j : ℕ) → Written s i j (pair_bytes x y) → (t : Bool) → word_at closing s j ≡ t
          → LineWritten s start (cond t (Some (Point x y (j + 2))) None)
      either x y j v false f = tt
      either x y j v true f = closed (point_word ++ pair_bytes x y) j (written_both s start i j point_word (pair_bytes x y) w v) f

  tolerance_written : (i : ℕ) → Written s start i tolerance_word → LineWritten s start (tolerance_form_at s i)
  unfolding tolerance_form_at tolerance_line
  tolerance_written i w = either (number_at s i) refl
    where
      more : (T : ℤ) (j : ℕ) → number_at s i ≡ Some (T, j) → (t : Bool) → word_at closing s j ≡ t
          → LineWritten s start (cond t (Some (Tolerance T (j + 2))) None)
      more T j e false f = tt
      more T j e true f = closed (tolerance_word ++ decimal T) j (written_both s start i j tolerance_word (decimal T) w (number_written s i T j e)) f

      either : (n : Option (ℤ × ℕ)) → number_at s i ≡ n
          → LineWritten s start (elim n [ Some (T, j) ↦ cond (word_at closing s j) (Some (Tolerance T (j + 2))) None | None ↦ None ])
      either (Some (T, j)) e = more T j e (word_at closing s j) refl
      either None e = tt

-- ---- whatever form is read at place i, its line stands there byte for byte
pub form_written : (s : List ℕ) (i : ℕ) → LineWritten s i (form_at s i)
unfolding form_at
form_written s i = either (word_at tolerance_word s i) refl (word_at curve_word s i) refl (word_at point_word s i) refl
  where
    either : (a : Bool) → word_at tolerance_word s i ≡ a → (b : Bool) → word_at curve_word s i ≡ b → (c : Bool) → word_at point_word s i ≡ c
        → LineWritten s i (cond a (tolerance_form_at s (i + 11)) (cond b (curve_form_at s (i + 6)) (cond c (point_form_at s (i + 6)) None)))
    either true e b f c g = tolerance_written s i (i + 11) (word_written tolerance_word s i e)
    either false e true f c g = curve_written s i (i + 6) (word_written curve_word s i f)
    either false e false f true g = point_written s i (i + 6) (word_written point_word s i g)
    either false e false f false g = tt
