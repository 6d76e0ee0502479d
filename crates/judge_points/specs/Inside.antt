-- For contracts of private functions: the numbers of an answer, as the code hands them on.
use Rattle.std.specs.Prelude.{List, [], ◌∷◌, ℤ}
use Rattle.judge_points.specs.declared.answers.Three.{Three}

abbrev pub three_numbers : Three → List ℤ
three_numbers t = t.first ∷ t.second ∷ t.third ∷ []
