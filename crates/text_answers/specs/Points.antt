-- The line of a point (document 01, "Text program", and request 01 of document 02): (on record cover), (off), or the
-- point's refusal. It is judged against the leaves written, and nothing else.
use Rattle.std.specs.Prelude.{List, [], ◌∷◌, ◌++◌, ℕ, ℤ, Some, None, Ok, Err}
use Rattle.setting.specs.Setting.{standard}
use Rattle.judge.specs.Judging.{Judgement}
use Rattle.judge.specs.Judgements.{judgement}
use Rattle.write_lines.specs.Answers.{refused_line, on_line, off_line}

-- the line of an answer of judging
abbrev pub line_of : Judgement → List ℕ
line_of (Ok (Some h)) = on_line h.leaf h.cover
line_of (Ok None) = off_line
line_of (Err r) = refused_line r

unfoldable pub point_answer : List ℤ → (x y : ℤ) → List ℕ
point_answer leaves x y = line_of (judgement standard leaves x y)

unfoldable pub point_answers : List ℤ → List (ℤ × ℤ) → List ℕ
point_answers leaves [] = []
point_answers leaves (p ∷ ps) = point_answer leaves p.0 p.1 ++ point_answers leaves ps
