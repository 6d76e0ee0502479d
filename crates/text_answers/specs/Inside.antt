-- Only contracts of private functions cite this page: that of the loop over the lines of a text, which answers points.
use Rattle.std.specs.Prelude.{List, [], ℕ, ◌≤◌, length, ℤ, Some, None}
use Rattle.text_forms.specs.declared.forms.Form.TheVariants.{Tolerance, Curve, Point}
use Rattle.text_lines.specs.Lines.{Line}
use Rattle.setting.specs.Setting.{standard}
use Rattle.judge.specs.Judging.{Passed}
use Rattle.text_answers.specs.Points.{point_answer}

-- what a line of the text adds to the answer
abbrev pub line_answer : List ℤ → Line → List ℕ
line_answer leaves (Some (Point x y next)) = point_answer leaves x y
line_answer leaves (Some (Tolerance t next)) = []
line_answer leaves (Some (Curve p next)) = []
line_answer leaves None = []

-- leaves that pass checks 9 and 10, no more than a text can have
pub record LeavesFine (leaves : List ℤ) : Type 0 where
  pub passed : Passed standard leaves
  pub few : length leaves ≤ 16380
