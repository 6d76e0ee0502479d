-- What is written is read, line by line: where the line of a legal form stands, this form is read. With `form_written` this says exactly which forms
-- are read.
use mathlib.Core.Path.{◌≡◌, refl, sym, ap, ◌∙◌, subst}
use mathlib.Core.Bool.{true, false}
use mathlib.Core.List.{List, [], ◌∷◌, ◌++◌, append_assoc, append-nil}
use mathlib.Core.Logic.{◌↔◌}
use Prim.Native.Nat.{ℕ, ◌+◌}
use native.Mathlib.Omega.{arith}
use borrow.Author.Tests.{eq-eqb, ne_eqb}
use lib.ListN.{length, drop, length-append}
use lib.Seq.{drop-drop, drop-append_seam}
use lib.IntN.{ℤ, pos}
use Rattle.std.specs.Prelude.{Some, None}
use Rattle.text_numbers.specs.Numerals.{byte, is_digit, number_at}
use Rattle.text_forms.specs.Pairs.{starts_with, word_at, number_then, pair_at, spaced_pair_at}
use Rattle.text_forms.specs.declared.forms.Points.{Points}
use Rattle.text_forms.specs.declared.forms.Form.{Form}
use Rattle.text_forms.specs.declared.forms.Form.TheVariants.{Tolerance, Curve, Point}
use Rattle.text_forms.specs.Forms.{tolerance_word, curve_word, point_word, closing, points, tolerance_form_at, point_form_at, curve_end, curve_fourth}
use Rattle.text_forms.specs.Forms.{curve_third, curve_form_at, form_at}
use Rattle.write_numbers.specs.Decimals.{decimal}
use Rattle.write_exact.specs.Written.{Written, pair_bytes, tolerance_line, point_line, curve_line, LineWritten}
use Rattle.write_exact.specs.Texts.{In32, Legal, tolerance, two, three, four, point}
use Rattle.write_exact.proofs.Written.{form_written}
use Rattle.write_exact.proofs.Read.{byte_of, number_read}

-- ---- the parts of what is written
module _ (s : List ℕ) (i j : ℕ) (xs ys : List ℕ) (w : Written s i j (xs ++ ys)) where
  from_middle : drop (i + length xs) s ≡ ys ++ drop j s
  from_middle =
      sym (drop-drop (length xs) i s) ∙ ap (drop (length xs)) (w.bytes_there ∙ append_assoc xs ys (drop j s))
      ∙ drop-append_seam xs (ys ++ drop j s)

  front : Written s i (i + length xs) xs
  front = record { bytes_there = w.bytes_there ∙ append_assoc xs ys (drop j s) ∙ ap (λ (l : List ℕ). xs ++ l) (sym from_middle); end_there = refl }

  back : Written s (i + length xs) j ys
  back = record { bytes_there = from_middle; end_there = omega (arith, w.end_there, length-append xs ys) }

-- ---- words
starts_itself : (w r : List ℕ) → starts_with w (w ++ r) ≡ true
unfolding starts_with
starts_itself [] r = refl
starts_itself (b ∷ bs) r = simp (eq-eqb b b refl) (starts_itself bs r)

word_read : (w s : List ℕ) (i j : ℕ) → Written s i j w → word_at w s i ≡ true
word_read w s i j h = ap (starts_with w) h.bytes_there ∙ starts_itself w (drop j s)

-- ---- pairs
then_read : (b : ℕ) (s : List ℕ) (i : ℕ) (z : ℤ) (j : ℕ) → is_digit b ≡ false → In32 z → Written s i j (decimal z ++ (b ∷ []))
    → number_then b s i ≡ Some (z, j)
unfolding number_then
then_read b s i z j d h w =
    let k = i + length (decimal z) in
    let last = back s i j (decimal z) (b ∷ []) w in
    let e : byte s k ≡ b = byte_of s k b (drop j s) last.bytes_there in
    let n : number_at s i ≡ Some (z, k) = number_read s i z k h (front s i j (decimal z) (b ∷ []) w) (ap is_digit e ∙ d) in
    rw (number_then, n, eq-eqb (byte s k) b e) (ap (λ (k : ℕ). Some (z, k)) (sym last.end_there))

pair_read : (s : List ℕ) (i : ℕ) (x y : ℤ) (j : ℕ) → In32 x → In32 y → Written s i j (pair_bytes x y) → spaced_pair_at s i ≡ Some (x, y, j)
unfolding spaced_pair_at pair_at pair_bytes
pair_read s i x y j hx hy w =
    let first = decimal x ++ (32 ∷ []) in
    let second = decimal y ++ (41 ∷ []) in
    let inner = back s i j (32 ∷ []) (40 ∷ (first ++ second)) w in
    let numbers = back s (i + 1) j (40 ∷ []) (first ++ second) inner in
    let k = i + 1 + 1 + length first in
    let ex : number_then 32 s (i + 1 + 1) ≡ Some (x, k) = then_read 32 s (i + 1 + 1) x k refl hx (front s (i + 1 + 1) j first second numbers) in
    let ey : number_then 41 s k ≡ Some (y, j) = then_read 41 s k y j refl hy (back s (i + 1 + 1) j first second numbers) in
    simp (
      eq-eqb (byte s i) 32 (byte_of s i 32 (40 ∷ (first ++ second) ++ drop j s) w.bytes_there),
      eq-eqb (byte s (i + 1)) 40 (byte_of s (i + 1) 40 (first ++ second ++ drop j s) inner.bytes_there),
      ex,
      ey,
    )

no_pair : (s : List ℕ) (i j : ℕ) → Written s i j closing → spaced_pair_at s i ≡ None
unfolding spaced_pair_at
no_pair s i j w =
    let b = byte_of s i 41 (10 ∷ drop j s) w.bytes_there in
    simp (ne_eqb (byte s i) 32 (λ e. omega arith))

-- ---- lines
closed : (s : List ℕ) (i j : ℕ) → Written s i j closing → (word_at closing s i ≡ true) × (i + 2 ≡ j)
closed s i j w = (word_read closing s i j w, sym w.end_there)

tolerance_read : (s : List ℕ) (i : ℕ) (T : ℤ) (j : ℕ) → In32 T → Written s i j (tolerance_line T) → form_at s i ≡ Some (Tolerance T j)
unfolding tolerance_line form_at tolerance_form_at
tolerance_read s i T j h w =
    let k = i + length (tolerance_word ++ decimal T) in
    let head = front s i j (tolerance_word ++ decimal T) closing w in
    let end = back s i j (tolerance_word ++ decimal T) closing w in
    let e = closed s k j end in
    let d : byte s k ≡ 41 = byte_of s k 41 (10 ∷ drop j s) end.bytes_there in
    let n : number_at s (i + 11) ≡ Some (T, k) = number_read s (i + 11) T k h (back s i k tolerance_word (decimal T) head) (ap is_digit d) in
    simp (word_read tolerance_word s i (i + 11) (front s i k tolerance_word (decimal T) head))
    (rw (tolerance_form_at, n, e.0) (ap (λ (k : ℕ). Some (Tolerance T k)) e.1))

-- the word of a line is that of no other form
curve_word_law : (s : List ℕ) (i : ℕ) → Written s i (i + 6) curve_word → form_at s i ≡ curve_form_at s (i + 6)
unfolding form_at starts_with
curve_word_law s i w =
    let other : word_at tolerance_word s i ≡ false = ap (starts_with tolerance_word) w.bytes_there in
    simp (other, word_read curve_word s i (i + 6) w)

point_word_law : (s : List ℕ) (i : ℕ) → Written s i (i + 6) point_word → form_at s i ≡ point_form_at s (i + 6)
unfolding form_at starts_with
point_word_law s i w =
    let other : word_at tolerance_word s i ≡ false = ap (starts_with tolerance_word) w.bytes_there in
    let another : word_at curve_word s i ≡ false = ap (starts_with curve_word) w.bytes_there in
    simp (other, another, word_read point_word s i (i + 6) w)

point_read : (s : List ℕ) (i : ℕ) (x y : ℤ) (j : ℕ) → In32 x → In32 y → Written s i j (point_line x y) → form_at s i ≡ Some (Point x y j)
unfolding point_line point_form_at
point_read s i x y j hx hy w =
    let k = i + length (point_word ++ pair_bytes x y) in
    let head = front s i j (point_word ++ pair_bytes x y) closing w in
    let e = closed s k j (back s i j (point_word ++ pair_bytes x y) closing w) in
    let p = pair_read s (i + 6) x y k hx hy (back s i k point_word (pair_bytes x y) head) in
    point_word_law s i (front s i k point_word (pair_bytes x y) head) ∙ rw (point_form_at, p, e.0) (ap (λ (k : ℕ). Some (Point x y k)) e.1)

-- ---- curve lines, from place `start` on
module _ (s : List ℕ) (start : ℕ) where
  end_read : (p : Points) (i j : ℕ) → Written s i j closing → curve_end s i p ≡ Some (Curve p j)
  unfolding curve_end
  end_read p i j w = let e = closed s i j w in simp e.0 (ap (λ (k : ℕ). Some (Curve p k)) e.1)

  fourth_end : (p : Points) (i j : ℕ) → Written s i j closing → curve_fourth s i p ≡ Some (Curve p j)
  unfolding curve_fourth
  fourth_end p i j w = rw (curve_fourth, no_pair s i j w) (end_read p i j w)

  third_end : (p : Points) (i j : ℕ) → Written s i j closing → curve_third s i p ≡ Some (Curve p j)
  unfolding curve_third
  third_end p i j w = rw (curve_third, no_pair s i j w) (end_read p i j w)

  module _ (x0 y0 x1 y1 : ℤ) (hx0 : In32 x0) (hy0 : In32 y0) (hx1 : In32 x1) (hy1 : In32 y1) where
    abbrev first : List ℕ
    first = curve_word ++ pair_bytes x0 y0

    abbrev both : List ℕ
    both = first ++ pair_bytes x1 y1

    -- two points, and what follows them
    pub past_two : (i : ℕ) → Written s start i both → form_at s start ≡ curve_third s i (points (pos 1) x0 y0 x1 y1 (pos 0) (pos 0) (pos 0) (pos 0))
    unfolding curve_form_at
    past_two i w =
        let k = start + length first in
        let head = front s start i first (pair_bytes x1 y1) w in
        let p = pair_read s (start + 6) x0 y0 k hx0 hy0 (back s start k curve_word (pair_bytes x0 y0) head) in
        let q = pair_read s k x1 y1 i hx1 hy1 (back s start i first (pair_bytes x1 y1) w) in
        curve_word_law s start (front s start k curve_word (pair_bytes x0 y0) head) ∙ rw (curve_form_at, p, q)

    module _ (x2 y2 : ℤ) (hx2 : In32 x2) (hy2 : In32 y2) where
      abbrev all_three : List ℕ
      all_three = both ++ pair_bytes x2 y2

      pub past_three : (i : ℕ) → Written s start i all_three → form_at s start ≡ curve_fourth s i (points (pos 2) x0 y0 x1 y1 x2 y2 (pos 0) (pos 0))
      unfolding curve_third
      past_three i w =
          let k = start + length both in
          let p = pair_read s k x2 y2 i hx2 hy2 (back s start i both (pair_bytes x2 y2) w) in
          past_two k (front s start i both (pair_bytes x2 y2) w) ∙ rw (curve_third, p)

      pub past_four : (x3 y3 : ℤ) → In32 x3 → In32 y3 → (i : ℕ) → Written s start i (all_three ++ pair_bytes x3 y3)
          → form_at s start ≡ curve_end s i (points (pos 3) x0 y0 x1 y1 x2 y2 x3 y3)
      unfolding curve_fourth
      past_four x3 y3 hx3 hy3 i w =
          let k = start + length all_three in
          let p = pair_read s k x3 y3 i hx3 hy3 (back s start i all_three (pair_bytes x3 y3) w) in
          past_three k (front s start i all_three (pair_bytes x3 y3) w) ∙ rw (curve_fourth, p)

-- ---- where the line of a legal form stands, this form is read
pub form_read : (s : List ℕ) (i : ℕ) {f : Form} → Legal f → LineWritten s i (Some f) → form_at s i ≡ Some f
unfolding curve_line
form_read s i (tolerance {T} {j} h) w = tolerance_read s i T j h w
form_read s i (point {x} {y} {j} hx hy) w = point_read s i x y j hx hy w
form_read s i (two {x0} {y0} {x1} {y1} {j} h) w =
    let all = curve_word ++ pair_bytes x0 y0 ++ pair_bytes x1 y1 in
    let v = subst (λ (l : List ℕ). Written s i j (l ++ closing)) (append-nil (all ++ []) ∙ append-nil all) w in
    let k = i + length all in
    past_two s i x0 y0 x1 y1 h.0 h.1 h.2.0 h.2.1 k (front s i j all closing v) ∙ third_end s i _ k j (back s i j all closing v)
form_read s i (three {x0} {y0} {x1} {y1} {x2} {y2} {j} h) w =
    let all = curve_word ++ pair_bytes x0 y0 ++ pair_bytes x1 y1 ++ pair_bytes x2 y2 in
    let v = subst (λ (l : List ℕ). Written s i j (l ++ closing)) (append-nil all) w in
    let k = i + length all in
    past_three s i x0 y0 x1 y1 h.0 h.1 h.2.0 h.2.1 x2 y2 h.2.2.0 h.2.2.1 k (front s i j all closing v)
    ∙ fourth_end s i _ k j (back s i j all closing v)
form_read s i (four {x0} {y0} {x1} {y1} {x2} {y2} {x3} {y3} {j} h) w =
    let all = curve_word ++ pair_bytes x0 y0 ++ pair_bytes x1 y1 ++ pair_bytes x2 y2 ++ pair_bytes x3 y3 in
    let k = i + length all in
    past_four s i x0 y0 x1 y1 h.0 h.1 h.2.0 h.2.1 x2 y2 h.2.2.0 h.2.2.1 x3 y3 h.2.2.2.0 h.2.2.2.1 k
    (front s i j all closing w)
    ∙ end_read s i _ k j (back s i j all closing w)

-- so where a legal form is read, and only there, its line stands; `form_legal` says that no other form is read
pub form_exactly : (s : List ℕ) (i : ℕ) {f : Form} → Legal f → (form_at s i ≡ Some f) ↔ LineWritten s i (Some f)
form_exactly s i l = (λ e. subst (LineWritten s i) e (form_written s i), form_read s i l)
