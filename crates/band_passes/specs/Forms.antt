-- For contracts inside the engine alone, no part of a public promise: the forms of a list that gives curves, an outline
-- in integers or in binary64, or the points of a B-spline.
pub data Form : Type 0 where
  Outline : Form
  Binary64 : Form
  Spline : Form
