-- What a quote answers, in numbers: 0 and 0 and the total in cents, or a refusal's number and spot.
use Rattle.std.specs.Prelude.{ℕ, Result, Ok, Err}
use Rattle.refusals.specs.declared.Refusal.{Refusal}
use Rattle.refusals.specs.Refusals.{number_of, spot_of}
use Rattle.contour.specs.declared.c_answers.QuoteAnswer.{QuoteAnswer}

abbrev pub quote_answer_of : Result ℕ Refusal → QuoteAnswer
quote_answer_of (Ok t) = record { refusal = 0; spot = 0; cents = t }
quote_answer_of (Err r) = record { refusal = number_of r; spot = spot_of r; cents = 0 }
