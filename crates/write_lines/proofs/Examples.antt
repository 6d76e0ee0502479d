-- Document 01's answer but for its leaves, each line by computation.
use mathlib.Core.Path.{◌≡◌, refl}
use mathlib.Core.List.{[], ◌∷◌}
use Rattle.refusals.specs.declared.Refusal.TheVariants.{PointX, TextTooLong, TooWide}
use Rattle.write_numbers.specs.Digits.{digits}
use Rattle.write_numbers.specs.Decimals.{spaced_natural}
use Rattle.write_lines.specs.Answers.{done_line, refused_line, on_line}

-- "(done 1 1 1)"
pub listing_done : done_line 1 1 1 ≡ 40 ∷ 100 ∷ 111 ∷ 110 ∷ 101 ∷ 32 ∷ 49 ∷ 32 ∷ 49 ∷ 32 ∷ 49 ∷ 41 ∷ 10 ∷ []
unfolding done_line spaced_natural digits
listing_done = refl

-- "(on 0 1)"
pub listing_on : on_line 0 1 ≡ 40 ∷ 111 ∷ 110 ∷ 32 ∷ 48 ∷ 32 ∷ 49 ∷ 41 ∷ 10 ∷ []
unfolding on_line spaced_natural digits
listing_on = refl

-- "(refused 16 16385)", "(refused 11 0)", "(refused 7 256)"
pub refused_size : refused_line (TextTooLong 16385) ≡ 40 ∷ 114 ∷ 101 ∷ 102 ∷ 117 ∷ 115 ∷ 101 ∷ 100 ∷ 32 ∷ 49 ∷ 54 ∷ 32 ∷ 49 ∷ 54 ∷ 51 ∷ 56 ∷ 53 ∷ 41
    ∷ 10 ∷ []
unfolding refused_line spaced_natural digits
refused_size = refl

pub refused_point : refused_line PointX ≡ 40 ∷ 114 ∷ 101 ∷ 102 ∷ 117 ∷ 115 ∷ 101 ∷ 100 ∷ 32 ∷ 49 ∷ 49 ∷ 32 ∷ 48 ∷ 41 ∷ 10 ∷ []
unfolding refused_line spaced_natural digits
refused_point = refl

pub refused_node : refused_line (TooWide 0 256) ≡ 40 ∷ 114 ∷ 101 ∷ 102 ∷ 117 ∷ 115 ∷ 101 ∷ 100 ∷ 32 ∷ 55 ∷ 32 ∷ 50 ∷ 53 ∷ 54 ∷ 41 ∷ 10 ∷ []
unfolding refused_line spaced_natural digits
refused_node = refl
