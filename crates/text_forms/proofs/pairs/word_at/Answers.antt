-- `text_forms::pairs::word_at` meets its contract: the comparison of slices is the definition's, over what is left of the text.
use Rattle.std.proofs.Common.{◌≡◌, ◌-◌, ◌∙◌, arith, length, take, drop, length-drop}
use Rattle.std.proofs.lemmas.List.{drop_min, take_all}
use Rattle.text_forms.proofs.PairWords.{starts_as}
use Rattle.text_forms.proofs.pairs.word_at.Goals as goal

pub returns : goal.returns
returns c =
    let s = c.args.text.now in
    let m = c.min.result in
    let whole : take (length s - m) (drop m s) ≡ drop m s = take_all _ _ (omega (arith, length-drop m s)) in
    let rest : drop m s ≡ drop c.args.at s = rw c.min.ensures (drop_min c.args.at s) in
    rw (whole, rest) at c.starts_with.ensures.value ∙ starts_as c.args.word.now (drop c.args.at s)
