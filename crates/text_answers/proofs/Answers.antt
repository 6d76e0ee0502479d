-- The whole answer: a refusal, or the lines of the band and then of the points.
use mathlib.Core.Path.{◌≡◌, refl, sym, ◌∙◌, ap, ap₂, subst}
use mathlib.Core.Bool.{Bool, true, false, cond}
use mathlib.Core.List.{List, [], ◌∷◌, ◌++◌}
use mathlib.Core.Option.{Option, none, some}
use Prim.Native.Nat.{ℕ, ◌+◌, ◌*◌, ◌≤◌}
use native.Mathlib.Nat.{le_of_eq}
use native.Mathlib.Omega.{arith}
use lib.Dec.{ltb, lit≤}
use borrow.Author.Tests.{ltb-false}
use lib.ListN.{length, take, replicate, length-replicate}
use lib.IntN.{ℤ, pos}
use mir.Syntax.{w64}
use mir.Val.{Fits}
use Rattle.integers.proofs.Clash.{clash}
use Rattle.refusals.specs.declared.Refusal.{Refusal}
use Rattle.refusals.specs.declared.Refusal.TheVariants.{TextTooLong}
use Rattle.setting.specs.Setting.{standard, texts, record_length}
use Rattle.band_banded.specs.declared.banding.Banded.{Banded}
use Rattle.band_banded.specs.Banding.{done as reports, written}
use Rattle.band_banded.proofs.Theorems.{done_exactly, written_some, written_sound}
use Rattle.band_banded.proofs.Station.{done_listed, written_listed}
use Rattle.engine.proofs.Outcomes.{done_room}
use Rattle.demand_3.proofs.Passing.{length_fine_law, no_bad_number}
use Rattle.write_numbers.specs.Appends.{Appended, PutWithin}
use Rattle.write_numbers.proofs.Appends.{append_both, within}
use Rattle.std.specs.Prelude.{Some, None, Result, Err}
use Rattle.text_forms.specs.declared.forms.Form.TheVariants.{Tolerance, Curve, Point}
use Rattle.text_lines.specs.Lines.{Line, lines_of, gather}
use Rattle.text_lines.specs.Meaning.{Meaning, refused, means, meaning, meaning_of, most_bytes, fault_or, fault_from, curve_numbers, point_of}
use Rattle.write_lines.specs.Answers.{refused_line}
use Rattle.text_answers.specs.Bands.{band_of, records_after}
use Rattle.write_lines.specs.BandLines.{band_lines}
use Rattle.write_lines.specs.Inside.{RoomFor}
use Rattle.text_answers.specs.Points.{point_answers}
use Rattle.text_answers.specs.Inside.{LeavesFine, line_answer}
use Rattle.text_answers.proofs.Judging.{points_gathered}
use Rattle.text_answers.specs.Answers.{lent, points_of, lines, answer_to, answer_of}

-- ---- where a band is done
module _ (m : Meaning) (old : List ℤ) (c l n : ℕ) (e : band_of m (length old) ≡ reports c l n) where
  pub leaves_stand : record_length standard * l ≤ length old
  leaves_stand = go m e
    where
      go : (m : Meaning) → band_of m (length old) ≡ reports c l n → record_length standard * l ≤ length old
      go (refused r) f = clash (cc)
      go (means T outline points) f = done_room texts T outline (length old) f

  -- the leaves written pass checks 9 and 10
  pub leaves_fine : length old ≤ lent → LeavesFine (take (record_length standard * l) (records_after m old))
  leaves_fine short = go m e
    where
      go : (m : Meaning) → band_of m (length old) ≡ reports c l n → LeavesFine (take (record_length standard * l) (records_after m old))
      go (refused r) f = clash (cc)
      go (means T outline points) f =
          let h = (done_exactly standard T outline (length old) c l n).0 (done_listed texts (lit≤ tt) T outline (length old) f) in
          let sound = written_sound standard T outline old h.1 h.2 in
          let some = written_some standard T outline old h.1 h.2 in
          let rs = take (record_length standard * l) (written standard T outline old) in
          subst (λ (ns : List ℤ). LeavesFine (take (record_length standard * l) ns)) (sym (written_listed texts (lit≤ tt) T outline old f))
          record {
            passed = record { whole = length_fine_law standard (length rs) l some sound.whole; numbers = no_bad_number sound };
            few = omega (arith, sound.whole, done_room texts T outline (length old) f);
          }

-- ---- a text that is not refused is short
pub text_short : (s : List ℕ) (room c l n : ℕ) → band_of (meaning s) room ≡ reports c l n → length s ≤ most_bytes
unfolding meaning
text_short s room c l n e = go (ltb most_bytes (length s)) refl e
  where
    le : ltb most_bytes (length s) ≡ false → length s ≤ most_bytes
    le f = ltb-false most_bytes (length s) f

    go : (b : Bool) → ltb most_bytes (length s) ≡ b
        → band_of (cond b (refused (TextTooLong (most_bytes + 1))) (meaning_of (lines_of s))) room ≡ reports c l n → length s ≤ most_bytes
    go true f g = clash (cc)
    go false f g = le f

-- ---- the lines of the points of a text that has a meaning
module _ (leaves : List ℤ) where
  points_of_lines : (ls : List Line) (room c l n : ℕ) → band_of (meaning_of ls) room ≡ reports c l n
      → gather (line_answer leaves) ls ≡ point_answers leaves (points_of (meaning_of ls))
  unfolding meaning_of gather
  points_of_lines [] room c l n e = clash (cc)
  points_of_lines (None ∷ ls) room c l n e = clash (cc)
  points_of_lines (Some (Curve p next) ∷ ls) room c l n e = clash (cc)
  points_of_lines (Some (Point x y next) ∷ ls) room c l n e = clash (cc)
  points_of_lines (Some (Tolerance T next) ∷ ls) room c l n e = go (fault_from false 2 ls) e
    where
      go : (o : Option Refusal) → band_of (fault_or o (means T (gather curve_numbers ls) (gather point_of ls))) room ≡ reports c l n
          → gather (line_answer leaves) ls ≡ point_answers leaves (points_of (fault_or o (means T (gather curve_numbers ls) (gather point_of ls))))
      go none f = points_gathered leaves ls
      go (some r) f = clash (cc)

  pub points_of_text : (s : List ℕ) (room c l n : ℕ) → band_of (meaning s) room ≡ reports c l n
      → gather (line_answer leaves) (lines_of s) ≡ point_answers leaves (points_of (meaning s))
  unfolding meaning
  points_of_text s room c l n e = go (ltb most_bytes (length s)) e
    where
      go : (b : Bool) → band_of (cond b (refused (TextTooLong (most_bytes + 1))) (meaning_of (lines_of s))) room ≡ reports c l n
          → gather (line_answer leaves) (lines_of s) ≡ point_answers leaves
          (points_of (cond b (refused (TextTooLong (most_bytes + 1))) (meaning_of (lines_of s))))
      go true f = clash (cc)
      go false f = points_of_lines (lines_of s) room c l n f

-- ---- the whole
pub zeros_length : (old : List ℤ) → old ≡ replicate lent (pos 0) → length old ≡ lent
zeros_length old z = ap length z ∙ length-replicate lent (pos 0)

module _ (s : List ℕ) (old : List ℤ) (zeros : old ≡ replicate lent (pos 0)) (b : Result Banded Refusal)
    (said : b ≡ band_of (meaning s) (length old)) where
  band_is : band_of (meaning s) lent ≡ b
  band_is = sym (said ∙ ap (band_of (meaning s)) (zeros_length old zeros))

  pub answer_refused : (r : Refusal) → b ≡ Err r → (d o : List ℕ) (k : ℕ) → PutWithin d 0 52 (refused_line r) o k
      → PutWithin d 0 243100 (answer_of s) o k
  unfolding answer_of answer_to
  answer_refused r e d o k a =
      within (subst (λ l. Appended d 0 l o k) (sym (ap (λ x. lines x (records_after (meaning s) (replicate lent (pos 0))) (points_of (meaning s)))
      (band_is ∙ e))) a.put) (omega (arith, a.small))

  module _ (c l n : ℕ) (e : b ≡ reports c l n) where
    done_is : band_of (meaning s) (length old) ≡ reports c l n
    done_is = sym said ∙ e

    done_leaves : record_length standard * l ≤ lent
    done_leaves = omega (arith, leaves_stand (meaning s) old c l n done_is, zeros_length old zeros)

    done_short : length s ≤ most_bytes
    done_short = text_short s (length old) c l n done_is

    pub done_fits : Fits w64 (record_length standard * l)
    done_fits = record { fits = omega (arith, done_leaves) }

    -- the leaves stand in the records, and there is room for their lines, and for those of the points after them
    pub done_inside : (new : List ℤ) → length new ≡ length old → record_length standard * l ≤ length new
    done_inside new z = omega (arith, done_leaves, zeros_length old zeros)

    pub lines_room : (new : List ℤ) (out : List ℕ) → length new ≡ length old → 243100 ≤ length out → RoomFor l (length new) (length out)
    lines_room new out z h = record { stand = done_inside new z; room = omega (arith, done_leaves) }

    pub points_room : (d xs o : List ℕ) (at : ℕ) → 243100 ≤ length d → length o ≡ length d → PutWithin d 0 (231 * l + 70) xs o at
        → at + 2 * length s + 52 ≤ length o
    points_room d xs o at h z a = omega (arith, done_leaves, done_short, a.small)

    pub done_fine : (new : List ℤ) → new ≡ records_after (meaning s) old → LeavesFine (take (record_length standard * l) new)
    done_fine new w =
        subst (λ ns. LeavesFine (take (record_length standard * l) ns)) (sym w) (leaves_fine (meaning s) old c l n done_is (le_of_eq (zeros_length old zeros)))

    pub answer_done : (new : List ℤ) → new ≡ records_after (meaning s) old → (d o u : List ℕ) (j k : ℕ)
        → PutWithin d 0 (231 * l + 70) (band_lines c l n new) o j
        → PutWithin o j (2 * length s) (gather (line_answer (take (record_length standard * l) new)) (lines_of s)) u k → PutWithin d 0 243100 (answer_of s) u k
    unfolding answer_of answer_to
    answer_done new w d o u j k p q =
        let rs = take (record_length standard * l) new in
        let f : lines (band_of (meaning s) lent) (records_after (meaning s) (replicate lent (pos 0))) (points_of (meaning s)) ≡ band_lines c l n new
        ++ gather (line_answer rs) (lines_of s) =
        ap₂ (λ x ns. lines x ns (points_of (meaning s))) (band_is ∙ e) (sym (w ∙ ap (records_after (meaning s)) zeros))
        ∙ ap (λ r. band_lines c l n new ++ r) (sym (points_of_text rs s (length old) c l n done_is)) in
        within
        (subst (λ r. Appended d 0 r u k) (sym f) (append_both d o u (band_lines c l n new) (gather (line_answer rs) (lines_of s)) 0 j k p.put
        q.put))
        (omega (arith, p.small, q.small, done_leaves, done_short))
