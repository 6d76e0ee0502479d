-- How far a line reader has read once it has read a line (document 01, "Text program": the line reader carries the
-- text it was lent and how far it has read).
use Rattle.std.specs.Prelude.{ℕ, Option, Some, None}
use Rattle.text_forms.specs.declared.forms.Form.{Form}
use Rattle.text_forms.specs.declared.forms.Form.TheVariants.{Tolerance, Curve, Point}

-- the place after a form that was read from place i on; a line that is no form has no end, and the reader stays
abbrev pub place_after : Option Form → ℕ → ℕ
place_after (Some (Tolerance t next)) i = next
place_after (Some (Curve p next)) i = next
place_after (Some (Point x y next)) i = next
place_after None i = i
