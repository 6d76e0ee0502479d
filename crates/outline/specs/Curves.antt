-- The curves of an outline (document 01, "Outline and tolerance"): a list of numbers, for each curve its degree d, then
-- x and y of its d + 1 control points. `at` is the index of a curve's degree.
use Rattle.std.specs.Prelude.{Bool, cond, List, ℕ, ◌+◌, ◌*◌, leb, ℤ, pos, nat_abs}
use Rattle.setting.specs.Setting.{most_degree, control_values}
use Rattle.integers.specs.Entry.{entry}
use Rattle.integers.specs.Between.{between}
use Rattle.curve_nodes.specs.declared.Curve.{Curve}
use Rattle.curve_halves.specs.Halves.{listed}

-- 2: a degree is 1 to 5
abbrev pub degree_fine : ℤ → Bool
degree_fine z = between (pos 1) (pos most_degree) z

-- how many numbers follow a degree d, and where the next curve begins
abbrev pub coordinates : ℕ → ℕ
coordinates d = 2 * (d + 1)

abbrev pub degree_at : List ℤ → ℕ → ℕ
degree_at ns at = nat_abs (entry ns at)

abbrev pub next_at : List ℤ → ℕ → ℕ
next_at ns at = at + 1 + coordinates (degree_at ns at)

-- every other number from index i on, d + 1 of them, and zeros up to the number of control values
abbrev pub values : List ℤ → ℕ → ℕ → List ℤ
values ns d i = listed control_values (λ k. cond (leb k d) (entry ns (i + 2 * k)) (pos 0))

unfoldable pub curve_at : List ℤ → ℕ → Curve
curve_at ns at =
    let d = degree_at ns at in
    record { degree = d; x = values ns d (at + 1); y = values ns d (at + 2) }
