-- A text that is accepted: its size, and its outline and points over all of its lines.
use mathlib.Core.Path.{◌≡◌, refl}
use mathlib.Core.Bool.{Bool, true, false, cond}
use mathlib.Core.List.{List, [], ◌∷◌}
use mathlib.Core.Option.{Option, none, some}
use Prim.Native.Nat.{ℕ, ◌+◌, ◌≤◌}
use borrow.Author.Tests.{ltb-false}
use lib.Dec.{ltb}
use lib.ListN.{length}
use lib.IntN.{ℤ}
use Rattle.integers.proofs.Clash.{clash}
use Rattle.refusals.specs.declared.Refusal.{Refusal}
use Rattle.refusals.specs.declared.Refusal.TheVariants.{TextTooLong}
use Rattle.std.specs.Prelude.{Some, None}
use Rattle.text_forms.specs.declared.forms.Form.TheVariants.{Tolerance, Curve, Point}
use Rattle.text_lines.specs.Lines.{Line, lines_of, gather}
use Rattle.text_lines.specs.Meaning.{curve_numbers, point_of, fault_from, refused, means, fault_or, meaning_of, most_bytes, meaning}

pub record AcceptedText (s : List ℕ) (ns : List ℤ) (ps : List (ℤ × ℤ)) : Type 0 where
  pub size : length s ≤ most_bytes
  pub outline : ns ≡ gather curve_numbers (lines_of s)
  pub points : ps ≡ gather point_of (lines_of s)

accepted_lines_or : (o : Option Refusal) (T U : ℤ) (xs ys : List ℤ) (ps qs : List (ℤ × ℤ)) → fault_or o (means T xs ps) ≡ means U ys qs
    → (ys ≡ xs) × (qs ≡ ps)
accepted_lines_or none T U xs ys ps qs e = (cc, cc)
accepted_lines_or (some r) T U xs ys ps qs e = clash (cc)

accepted_lines : (ls : List Line) (T : ℤ) (outline : List ℤ) (points : List (ℤ × ℤ)) → meaning_of ls ≡ means T outline points
    → (outline ≡ gather curve_numbers ls) × (points ≡ gather point_of ls)
unfolding meaning_of gather
accepted_lines [] T outline points e = clash (cc)
accepted_lines (None ∷ ls) T outline points e = clash (cc)
accepted_lines (Some (Tolerance t j) ∷ ls) T outline points e =
    accepted_lines_or (fault_from false 2 ls) t T (gather curve_numbers ls) outline (gather point_of ls) points e
accepted_lines (Some (Curve p j) ∷ ls) T outline points e = clash (cc)
accepted_lines (Some (Point x y j) ∷ ls) T outline points e = clash (cc)

pub accepted : (s : List ℕ) (T : ℤ) (outline : List ℤ) (points : List (ℤ × ℤ)) → meaning s ≡ means T outline points → AcceptedText s outline points
unfolding meaning
accepted s T outline points e = either (ltb most_bytes (length s)) refl e
  where
    either : (b : Bool) → ltb most_bytes (length s) ≡ b
        → cond b (refused (TextTooLong (most_bytes + 1))) (meaning_of (lines_of s)) ≡ means T outline points → AcceptedText s outline points
    either true f g = clash (cc)
    either false f g =
        let r = accepted_lines (lines_of s) T outline points g in record { size = ltb-false most_bytes (length s) f; outline = r.0; points = r.1 }
