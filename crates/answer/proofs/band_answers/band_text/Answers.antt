-- `answer::band_answers::band_text` meets its contract. What was kept of the outline is what banding is lent, and it answers as for the whole.
use Rattle.text_answers.proofs.Bands.{kept_inside, kept_length, text_band, text_records_law}
use Rattle.answer.proofs.band_answers.band_text.Goals as goal

pub slice_bounds-band_most-end : goal.slice_bounds-band_most-end
slice_bounds-band_most-end c = search kept_inside

pub slice_bounds-band_most-end-2 : goal.slice_bounds-band_most-end-2
slice_bounds-band_most-end-2 c = search kept_length

pub returns : goal.returns
returns c = (search (text_band, c.in_ok-tolerance.was), search (text_records_law, c.in_ok-tolerance.was))
