-- `text_outline::put_curve` meets its contract: one law a return.
use Rattle.text_outline.proofs.Filling.{put_line, put_quadratic, put_cubic}
use Rattle.text_outline.proofs.put_curve.Goals as goal

pub returns-then-degree-lt2 : goal.returns-then-degree-lt2
returns-then-degree-lt2 c = search put_line

pub returns-then-degree-lt3 : goal.returns-then-degree-lt3
returns-then-degree-lt3 c = search put_quadratic

pub returns : goal.returns
returns c = search put_cubic
