-- Only contracts of private functions cite this page: that of the first part of a curve.
use Rattle.std.specs.Prelude.{List, [], ◌∷◌, ℤ}
use Rattle.text_forms.specs.declared.forms.Points.{Points}

-- the numbers that every curve has
abbrev pub first_numbers : Points → List ℤ
first_numbers p = p.degree ∷ p.x0 ∷ p.y0 ∷ p.x1 ∷ p.y1 ∷ []
