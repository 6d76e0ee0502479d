-- `text_outline::put_pair` meets its contract: one law a return.
use Rattle.text_outline.proofs.Filling.{put_both}
use Rattle.text_outline.proofs.put_pair.Goals as goal

pub returns : goal.returns
returns c = search put_both
