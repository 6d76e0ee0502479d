-- What the program keeps of the outline of a text, where `most` curves are allowed: the numbers of as many curves, and
-- the degree of one more, with which it begins. The checks of an outline look no further (`outline_kept` of
-- crates/text_outline/proofs/Kept.antt).
use Rattle.std.specs.Prelude.{List, [], ◌∷◌, ◌++◌, ℕ, zero, suc, ℤ, Some, None}
use Rattle.text_forms.specs.declared.forms.Form.TheVariants.{Tolerance, Curve, Point}
use Rattle.text_lines.specs.Lines.{Line}
use Rattle.text_lines.specs.Meaning.{numbers_of_curve}

unfoldable pub kept : ℕ → List Line → List ℤ
kept most [] = []
kept most (Some (Tolerance t next) ∷ ls) = kept most ls
kept most (Some (Point x y next) ∷ ls) = kept most ls
kept most (None ∷ ls) = kept most ls
kept zero (Some (Curve p next) ∷ ls) = p.degree ∷ []
kept (suc most) (Some (Curve p next) ∷ ls) = numbers_of_curve p ++ kept most ls
