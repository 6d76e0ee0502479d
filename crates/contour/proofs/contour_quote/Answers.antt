-- A quote for programs in other languages.
use mathlib.Core.Path.{◌∙◌, ap}
use Rattle.contour.specs.Quotes.{quote_answer_of}
use Rattle.contour.proofs.contour_quote.Goals as goal

pub returns : goal.returns
returns c = c.quote_in_numbers.ensures ∙ ap quote_answer_of c.quote-quoted.ensures
