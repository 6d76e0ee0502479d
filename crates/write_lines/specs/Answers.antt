-- The lines of the answer as bytes (document 01, "Text program", and request 01 of document 02): (done curves leaves
-- nodes), (on record cover), (off) and (refused number spot), each with byte 10 at its end. That a word below has the
-- bytes that it should is seen where the code, which spells it, is proved.
use Rattle.std.specs.Prelude.{List, [], ◌∷◌, ◌++◌, ℕ}
use Rattle.refusals.specs.declared.Refusal.{Refusal}
use Rattle.refusals.specs.Refusals.{number_of, spot_of}
use Rattle.write_numbers.specs.Decimals.{spaced_natural}
use Rattle.write_leaves.specs.Leaves.{line_end}

-- "(done"
abbrev pub done_word : List ℕ
done_word = 40 ∷ 100 ∷ 111 ∷ 110 ∷ 101 ∷ []

-- two or three numbers and the end of the line
abbrev pub two_numbers : ℕ → ℕ → List ℕ
two_numbers a b = spaced_natural a ++ spaced_natural b ++ line_end

abbrev pub three_numbers : ℕ → ℕ → ℕ → List ℕ
three_numbers a b c = spaced_natural a ++ spaced_natural b ++ spaced_natural c ++ line_end

unfoldable pub done_line : ℕ → ℕ → ℕ → List ℕ
done_line curves leaves nodes = done_word ++ three_numbers curves leaves nodes

-- "(refused"
abbrev pub refused_word : List ℕ
refused_word = 40 ∷ 114 ∷ 101 ∷ 102 ∷ 117 ∷ 115 ∷ 101 ∷ 100 ∷ []

unfoldable pub refused_line : Refusal → List ℕ
refused_line r = refused_word ++ two_numbers (number_of r) (spot_of r)

-- "(on", and the record and the cover
abbrev pub on_word : List ℕ
on_word = 40 ∷ 111 ∷ 110 ∷ []

unfoldable pub on_line : ℕ → ℕ → List ℕ
on_line leaf cover = on_word ++ two_numbers leaf cover

-- "(off)"
abbrev pub off_line : List ℕ
off_line = 40 ∷ 111 ∷ 102 ∷ 102 ∷ 41 ∷ 10 ∷ []
