-- What is kept of the outline of a text is enough: the checks of an outline of at most so many curves find the same in it as in the whole.
use mathlib.Core.Path.{◌≡◌, refl, sym, ap, ap₂, ◌∙◌, subst}
use mathlib.Core.Bool.{Bool, true, false, ◌&&◌, ◌||◌, cond}
use mathlib.Core.List.{List, [], ◌∷◌, ◌++◌, append_assoc}
use mathlib.Core.Option.{Option, none, some}
use Prim.Native.Nat.{ℕ, zero, suc, ◌+◌, ◌-◌, ◌*◌, ◌≤◌, ◌<◌}
use native.Mathlib.Omega.{arith}
use borrow.Author.Tests.{leb-true}
use lib.Dec.{leb, ltb}
use lib.ListN.{length, length-append, get_or-append}
use lib.Seq.{get_or-append_seam}
use lib.IntN.{ℤ, pos, nat_abs}
use lib.Signed.{lt_z}
use Rattle.setting.specs.Setting.{control_values, degree_pieces}
use Rattle.integers.specs.Entry.{entry}
use Rattle.refusals.specs.declared.Refusal.{Refusal}
use Rattle.refusals.specs.declared.Refusal.TheVariants.{TooManyCurves}
use Rattle.curve_halves.proofs.Values.{listed_ext}
use Rattle.outline.specs.Curves.{degree_fine, coordinates, degree_at, next_at, values, curve_at}
use Rattle.integers.specs.Equal.{equal}
use Rattle.integers.specs.First.{first_bad}
use Rattle.outline.specs.Faults.{coordinate_fine, first_beyond, meets_before, fault_at}
use Rattle.outline.specs.Inside.{found_of, fault_of}
use Rattle.outline.specs.Checks.{faulty, with_curve, outline_from, outlined}
use Rattle.outline.proofs.Faultless.{last_fault, fault_degree, fault_pieces, fault_last}
use Rattle.outline.proofs.Steps.{outline_full, outline_faulty, outline_step}
use Rattle.text_forms.specs.declared.forms.Points.{Points}
use Rattle.std.specs.Prelude.{Some, None}
use Rattle.text_forms.specs.declared.forms.Form.TheVariants.{Tolerance, Curve as CurveLine, Point}
use Rattle.text_forms.specs.Forms.{form_at}
use Rattle.text_forms.proofs.FormReach.{OneToThree, Reaches, form_reaches}
use Rattle.text_lines.specs.Lines.{Line, lines_after, lines_from, lines_of, gather}
use Rattle.text_lines.specs.Meaning.{numbers_of_curve, curve_numbers, means, meaning}
use Rattle.text_outline.specs.Outlines.{kept}
use Rattle.text_outline.proofs.Filling.{few_numbers}
use Rattle.text_lines.proofs.Accepted.{accepted}

-- ---- two lists with the same numbers before index e
record Agree (ns ms : List ℤ) (e : ℕ) : Type 0 where
  same : (k : ℕ) → k < e → entry ns k ≡ entry ms k
  first : e ≤ length ns
  second : e ≤ length ms

same_fault : (o p : Option Refusal) → fault_of o ≡ fault_of p → o ≡ p
same_fault none none e = refl
same_fault (some a) (some b) e = cc
same_fault none (some b) e = let z : ◌≡◌ {A = ℕ} 0 1 = cc in absurd (omega arith)
same_fault (some a) none e = let z : ◌≡◌ {A = ℕ} 0 1 = cc in absurd (omega arith)

module _ {ns ms : List ℤ} {e : ℕ} (a : Agree ns ms e) where
  beyond_same : (n i : ℕ) → i + n ≤ e → first_beyond ns n i ≡ first_beyond ms n i
  unfolding first_bad
  beyond_same zero i h = refl
  beyond_same (suc n) i h =
      ap₂ (λ (z : ℤ) (o : Option ℕ). elim (coordinate_fine z) [ true ↦ o | false ↦ some i ]) (a.same i (omega arith))
      (beyond_same n (i + 1) (omega arith))

  -- a curve whose degree stands at index `at`, all of it before index e
  module _ (at : ℕ) (h : next_at ns at ≤ e) where
    degree_same : entry ns at ≡ entry ms at
    degree_same = a.same at (omega arith)

    next_same : next_at ns at ≡ next_at ms at
    next_same = ap (λ (z : ℤ). at + 1 + coordinates (nat_abs z)) degree_same

    meets_same : meets_before ns at ≡ meets_before ms at
    meets_same =
        ap₂ (λ (x y : Bool). ltb at 2 || (x && y))
        (ap₂ equal (a.same (at - 2) (omega arith)) (a.same (at + 1) (omega arith)))
        (ap₂ equal (a.same (at - 1) (omega arith)) (a.same (at + 2) (omega arith)))

    fault_same : (m : ℕ) → fault_at m ns at ≡ fault_at m ms at
    fault_same m = either (degree_fine (entry ns at)) refl (degree_pieces (degree_at ns at) m) refl
      where
        fine_same : degree_fine (entry ms at) ≡ degree_fine (entry ns at)
        fine_same = ap degree_fine (sym degree_same)

        pieces_same : degree_pieces (degree_at ms at) m ≡ degree_pieces (degree_at ns at) m
        pieces_same = ap (λ (z : ℤ). degree_pieces (nat_abs z) m) (sym degree_same)

        either : (b : Bool) → degree_fine (entry ns at) ≡ b → (q : Bool) → degree_pieces (degree_at ns at) m ≡ q → fault_at m ns at ≡ fault_at m ms at
        either false f q g = fault_degree m ns at f ∙ sym (fault_degree m ms at (fine_same ∙ f))
        either true f false g = fault_pieces m ns at f g ∙ sym (fault_pieces m ms at (fine_same ∙ f) (pieces_same ∙ g))
        either true f true g =
            same_fault (fault_at m ns at) (fault_at m ms at)
            (fault_last m ns at f g (omega (arith, a.first))
            ∙ ap₂ (λ (t : Bool) (o : Option ℕ). last_fault at t (found_of o)) meets_same
            (beyond_same (next_at ns at - (at + 1)) (at + 1) (omega arith) ∙ ap (λ (n : ℕ). first_beyond ms (n - (at + 1)) (at + 1)) next_same)
            ∙ sym (fault_last m ms at (fine_same ∙ f) (pieces_same ∙ g) (omega (arith, a.second, next_same))))

    -- i is 1 for x and 2 for y
    values_same : (i : ℕ) → i ≤ 2 → values ns (degree_at ns at) (at + i) ≡ values ms (degree_at ns at) (at + i)
    values_same i l = listed_ext control_values _ _ (λ k m. either k (leb k (degree_at ns at)) refl)
      where
        either : (k : ℕ) (b : Bool) → leb k (degree_at ns at) ≡ b
            → cond b (entry ns (at + i + 2 * k)) (pos 0) ≡ cond b (entry ms (at + i + 2 * k)) (pos 0)
        either k true f = a.same (at + i + 2 * k) (omega (arith, leb-true k (degree_at ns at) f))
        either k false f = refl

    curve_same : curve_at ns at ≡ curve_at ms at
    unfolding curve_at
    curve_same =
        ap₂ (λ (x y : List ℤ). record { degree = degree_at ns at; x = x; y = y }) (values_same 1 (omega arith)) (values_same 2 (omega arith))
        ∙ ap (λ (z : ℤ). record { degree = nat_abs z; x = values ms (nat_abs z) (at + 1); y = values ms (nat_abs z) (at + 2) }) degree_same

-- ---- the curves of lines have degrees 1 to 3
abbrev Degrees : List Line → Type 0
Degrees [] = Unit
Degrees (Some (CurveLine p j) ∷ ls) = OneToThree p.degree × Degrees ls
Degrees (Some (Tolerance t j) ∷ ls) = Degrees ls
Degrees (Some (Point x y j) ∷ ls) = Degrees ls
Degrees (None ∷ ls) = Degrees ls

lines_degrees : (n : ℕ) (s : List ℕ) (i : ℕ) → Degrees (lines_from n s i)
unfolding lines_from
lines_degrees zero s i = tt
lines_degrees (suc n) s i = either (ltb i (length s)) (form_at s i) (form_reaches s i) (lines_degrees n s)
  where
    either : (b : Bool) (f : Line) → Reaches i (length s) f → ((j : ℕ) → Degrees (lines_from n s j))
        → Degrees (cond b (f ∷ lines_after f (lines_from n s)) [])
    either false f r again = tt
    either true (Some (Tolerance t j)) r again = again j
    either true (Some (CurveLine p j)) r again = (r.1, again j)
    either true (Some (Point x y j)) r again = again j
    either true None r again = tt

-- ---- a curve's numbers are its degree and d + 1 points
abbrev numbers_by : Points → ℤ → List ℤ
numbers_by p z =
    z ∷ p.x0 ∷ p.y0 ∷ p.x1 ∷ p.y1 ∷ cond {A = List ℤ} (lt_z z (pos 2)) []
    (p.x2 ∷ p.y2 ∷ cond {A = List ℤ} (lt_z z (pos 3)) [] (p.x3 ∷ p.y3 ∷ []))

numbers_length : (p : Points) → OneToThree p.degree → length (numbers_of_curve p) ≡ 1 + coordinates (nat_abs p.degree)
unfolding numbers_of_curve
numbers_length p r = subst (λ (z : ℤ). length (numbers_by p z) ≡ 1 + coordinates (nat_abs z)) (sym r.is) (each r.natural r.least r.most)
  where
    each : (d : ℕ) → 1 ≤ d → d ≤ 3 → length (numbers_by p (pos d)) ≡ 1 + coordinates d
    each zero l h = absurd (omega arith)
    each (suc zero) l h = refl
    each (suc (suc zero)) l h = refl
    each (suc (suc (suc zero))) l h = refl
    each (suc (suc (suc (suc d)))) l h = absurd (omega arith)

-- ---- a curve after the numbers `front`, and whatever follows it
module _ (m : ℕ) (front : List ℤ) (p : Points) (d : OneToThree p.degree) (xs ys : List ℤ) where
  abbrev whole : List ℤ → List ℤ
  whole zs = front ++ (numbers_of_curve p ++ zs)

  degree_there : (zs : List ℤ) → entry (whole zs) (length front) ≡ p.degree
  unfolding numbers_of_curve
  degree_there zs = get_or-append_seam front p.degree _ (pos 0)

  inside : (zs : List ℤ) (k : ℕ) → k < length (front ++ numbers_of_curve p) → entry (whole zs) k ≡ entry (front ++ numbers_of_curve p) k
  inside zs k h =
      ap (λ (l : List ℤ). entry l k) (sym (append_assoc front (numbers_of_curve p) zs)) ∙ get_or-append (front ++ numbers_of_curve p) zs (pos 0) k h

  reaches : (zs : List ℤ) → length (front ++ numbers_of_curve p) ≤ length (whole zs)
  reaches zs = omega (arith, ap length (append_assoc front (numbers_of_curve p) zs), length-append (front ++ numbers_of_curve p) zs)

  agree : Agree (whole xs) (whole ys) (length (front ++ numbers_of_curve p))
  agree = record { same = λ k h. inside xs k h ∙ sym (inside ys k h); first = reaches xs; second = reaches ys }

  next_there : (zs : List ℤ) → next_at (whole zs) (length front) ≡ length (front ++ numbers_of_curve p)
  next_there zs =
      ap (λ (z : ℤ). length front + 1 + coordinates (nat_abs z)) (degree_there zs)
      ∙ omega (arith, numbers_length p d, length-append front (numbers_of_curve p))

  -- the checks of this curve are the same, and then those of the rest
  after_curve : (most : ℕ) → outline_from most m ((front ++ numbers_of_curve p) ++ xs) (length (front ++ numbers_of_curve p))
      ≡ outline_from most m ((front ++ numbers_of_curve p) ++ ys) (length (front ++ numbers_of_curve p))
      → outline_from (suc most) m (whole xs) (length front) ≡ outline_from (suc most) m (whole ys) (length front)
  after_curve most again = either (fault_at m (whole xs) (length front)) refl
    where
      reach : next_at (whole xs) (length front) ≤ length (front ++ numbers_of_curve p)
      reach = omega (arith, next_there xs)

      within : (zs : List ℤ) → length front < length (whole zs)
      within zs = omega (arith, reaches zs, length-append front (numbers_of_curve p), numbers_length p d)

      moved : (zs : List ℤ) → outline_from most m (whole zs) (next_at (whole zs) (length front))
          ≡ outline_from most m ((front ++ numbers_of_curve p) ++ zs) (length (front ++ numbers_of_curve p))
      moved zs = ap₂ (outline_from most m) (sym (append_assoc front (numbers_of_curve p) zs)) (next_there zs)

      either : (o : Option Refusal) → fault_at m (whole xs) (length front) ≡ o
          → outline_from (suc most) m (whole xs) (length front) ≡ outline_from (suc most) m (whole ys) (length front)
      either (some r) e =
          outline_faulty m (whole xs) (length front) most r (within xs) e
          ∙ sym (outline_faulty m (whole ys) (length front) most r (within ys) (sym (fault_same agree (length front) reach m) ∙ e))
      either none e =
          outline_step m (whole xs) (length front) most e
          ∙ ap₂ with_curve (curve_same agree (length front) reach) (moved xs ∙ again ∙ sym (moved ys))
          ∙ sym (outline_step m (whole ys) (length front) most (sym (fault_same agree (length front) reach m) ∙ e))

-- ---- line by line
kept_from : (m : ℕ) (ls : List Line) → Degrees ls → (most : ℕ) (front : List ℤ)
    → outline_from most m (front ++ kept most ls) (length front) ≡ outline_from most m (front ++ gather curve_numbers ls) (length front)
unfolding kept gather
kept_from m [] d most front = refl
kept_from m (Some (Tolerance t j) ∷ ls) d most front = kept_from m ls d most front
kept_from m (Some (Point x y j) ∷ ls) d most front = kept_from m ls d most front
kept_from m (None ∷ ls) d most front = kept_from m ls d most front
kept_from m (Some (CurveLine p j) ∷ ls) d zero front =
    begins (p.degree ∷ []) (omega arith) ∙ sym (begins (numbers_of_curve p ++ gather curve_numbers ls) some_there)
  where
    begins : (zs : List ℤ) → 0 < length zs → outline_from 0 m (front ++ zs) (length front) ≡ faulty (TooManyCurves (length front))
    begins zs h = outline_full m (front ++ zs) (length front) (omega (arith, length-append front zs))

    some_there : 0 < length (numbers_of_curve p ++ gather curve_numbers ls)
    some_there = omega (arith, length-append (numbers_of_curve p) (gather curve_numbers ls), numbers_length p d.0)
kept_from m (Some (CurveLine p j) ∷ ls) d (suc most) front =
    after_curve m front p d.0 (kept most ls) (gather curve_numbers ls) most (kept_from m ls d.1 most (front ++ numbers_of_curve p))

-- ---- what is kept of the lines of a text
not_empty : (most m : ℕ) (ns : List ℤ) → 0 < length ns → outlined most m ns ≡ outline_from most m ns 0
unfolding outlined
not_empty most m [] h = absurd (omega arith)
not_empty most m (z ∷ ns) h = refl

module _ (p : Points) (j : ℕ) (ls : List Line) (d : OneToThree p.degree) where
  curve_some : (xs : List ℤ) → 0 < length (numbers_of_curve p ++ xs)
  curve_some xs = omega (arith, length-append (numbers_of_curve p) xs, numbers_length p d)

  kept_some : (most : ℕ) → 0 < length (kept most (Some (CurveLine p j) ∷ ls))
  unfolding kept
  kept_some zero = omega arith
  kept_some (suc most) = curve_some (kept most ls)

kept_lines : (m : ℕ) (ls : List Line) → Degrees ls → (most : ℕ) → outlined most m (kept most ls) ≡ outlined most m (gather curve_numbers ls)
unfolding kept gather
kept_lines m [] d most = refl
kept_lines m (Some (Tolerance t j) ∷ ls) d most = kept_lines m ls d most
kept_lines m (Some (Point x y j) ∷ ls) d most = kept_lines m ls d most
kept_lines m (None ∷ ls) d most = kept_lines m ls d most
kept_lines m (Some (CurveLine p j) ∷ ls) d most =
    not_empty most m (kept most (Some (CurveLine p j) ∷ ls)) (kept_some p j ls d.0 most)
    ∙ kept_from m (Some (CurveLine p j) ∷ ls) d most []
    ∙ sym (not_empty most m (numbers_of_curve p ++ gather curve_numbers ls) (curve_some p j ls d.0 (gather curve_numbers ls)))

-- ---- and of a text that is accepted: the checks of its outline, and so banding, find the same
pub outline_kept : (most m : ℕ) (s : List ℕ) (T : ℤ) (outline : List ℤ) (points : List (ℤ × ℤ)) → meaning s ≡ means T outline points
    → outlined most m (kept most (lines_of s)) ≡ outlined most m outline
unfolding lines_of
outline_kept most m s T outline points e =
    kept_lines m (lines_of s) (lines_degrees (length s) s 0) most ∙ ap (outlined most m) (sym (accepted s T outline points e).outline)

-- ---- and it is no more than nine numbers a curve, and one
pub kept_few : (most : ℕ) (ls : List Line) → length (kept most ls) ≤ 9 * most + 1
unfolding kept
kept_few most [] = omega arith
kept_few most (Some (Tolerance t j) ∷ ls) = kept_few most ls
kept_few most (Some (Point x y j) ∷ ls) = kept_few most ls
kept_few most (None ∷ ls) = kept_few most ls
kept_few zero (Some (CurveLine p j) ∷ ls) = omega arith
kept_few (suc most) (Some (CurveLine p j) ∷ ls) = omega (arith, length-append (numbers_of_curve p) (kept most ls), few_numbers p, kept_few most ls)
