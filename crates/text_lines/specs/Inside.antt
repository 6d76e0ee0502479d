-- Only contracts of private functions cite this page, and of `check_text`, a step of the answer to a text: the checks
-- of a text and of its lines, as the code makes them.
use Rattle.std.specs.Prelude.{Bool, true, false, cond, ℕ, ℤ, Some, None, Result, Ok, Err}
use Rattle.std.proofs.Math.Option.{Option, none, some}
use Rattle.refusals.specs.declared.Refusal.{Refusal}
use Rattle.refusals.specs.declared.Refusal.TheVariants.{NotAForm, OutOfOrder}
use Rattle.text_forms.specs.declared.forms.Form.TheVariants.{Tolerance, Curve, Point}
use Rattle.text_lines.specs.Lines.{Line}
use Rattle.text_lines.specs.Meaning.{Meaning, refused, means}

-- ---- what the checks answer, of a text and of its lines after the first
abbrev pub text_check_of : Meaning → Result ℤ Refusal
text_check_of (refused r) = Err r
text_check_of (means T outline points) = Ok T

abbrev pub lines_check_of : Option Refusal → Result Unit Refusal
lines_check_of none = Ok tt
lines_check_of (some r) = Err r

-- ---- checks 14 and 15 of line n, where `late` says whether a point came before it: whether the line after it is late
unfoldable pub after_line : Bool → ℕ → Line → Result Bool Refusal
after_line late n None = Err (NotAForm n)
after_line late n (Some (Tolerance t next)) = Err (OutOfOrder n)
after_line late n (Some (Curve p next)) = cond late (Err (OutOfOrder n)) (Ok false)
after_line late n (Some (Point x y next)) = Ok true
