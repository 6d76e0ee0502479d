-- The lines of a text, each read where the one before it ended, up to the first that is no form.
use Rattle.std.specs.Prelude.{cond, List, [], ◌∷◌, ◌++◌, ℕ, zero, suc, ltb, length, Option, Some, None}
use Rattle.text_forms.specs.declared.forms.Form.{Form}
use Rattle.text_forms.specs.declared.forms.Form.TheVariants.{Tolerance, Curve, Point}
use Rattle.text_forms.specs.Forms.{form_at}

-- a line of a text: its form, where it has one
abbrev pub Line : Type 0
Line = Option Form

-- what is read from the place after a form
abbrev pub lines_after : Line → (ℕ → List Line) → List Line
lines_after (Some (Tolerance t next)) read = read next
lines_after (Some (Curve p next)) read = read next
lines_after (Some (Point x y next)) read = read next
lines_after None read = []

-- the lines from place i on, n at most
unfoldable pub lines_from : ℕ → List ℕ → ℕ → List Line
lines_from zero s i = []
lines_from (suc n) s i = cond (ltb i (length s)) (form_at s i ∷ lines_after (form_at s i) (lines_from n s)) []

-- a text has no more lines than bytes
unfoldable pub lines_of : List ℕ → List Line
lines_of s = lines_from (length s) s 0

-- what a function gives of each line, one after the other
unfoldable pub gather : {A : Type 0} → (Line → List A) → List Line → List A
gather f [] = []
gather f (l ∷ ls) = f l ++ gather f ls
