-- `text_outline::put_first` meets its contract: one law a return.
use Rattle.text_outline.proofs.Filling.{put_first_numbers}
use Rattle.text_outline.proofs.put_first.Goals as goal

pub returns : goal.returns
returns c = search put_first_numbers
