-- The sizes of three or four second differences.
use mathlib.Core.Path.{◌≡◌, ◌∙◌, ap}
use mathlib.Core.List.{List, [], ◌∷◌}
use Prim.Native.Nat.{ℕ, ◌-◌}
use native.Mathlib.Omega.{arith}
use lib.IntN.{ℤ, nat_abs}
use Rattle.curve_nodes.specs.Differences.{difference}
use Rattle.bound_tolerance.proofs.SpreadLaws.{size_is}
use Rattle.bound_tolerance_higher.proofs.sizes_of.Goals as goal
use Rattle.bound_tolerance_higher.proofs.sizes_of.Goals.{After-size-a, After-size-b, After-size-d}

-- the sizes of the first three
first_is : (c : After-size-a) → c.size-a.result ≡ nat_abs (difference c.args.c 0)
first_is c = size_is c.difference_at.ensures c.size-a.ensures.0

second_is : (c : After-size-b) → c.size-b.result ≡ nat_abs (difference c.args.c 1)
second_is c = size_is c.difference_at-2.ensures c.size-b.ensures.0

third-is : (c : After-size-d) → c.size-d.result ≡ nat_abs (difference c.args.c 2)
third-is c = size_is c.difference_at-3.ensures c.size-d.ensures.0

-- counted from the last
counted : (cs : List ℤ) (j k : ℕ) {n : ℕ} → n ≡ nat_abs (difference cs j) → j ≡ k → n ≡ nat_abs (difference cs k)
counted cs j k e f = e ∙ ap (λ k. nat_abs (difference cs k)) f

pub returns-then-degree-lt5 : goal.returns-then-degree-lt5
returns-then-degree-lt5 c =
    let a = c.args in
    λ j. first_is (goal.at.returns-then-degree-lt5 c).After-size-a j ∷ second_is (goal.at.returns-then-degree-lt5 c).After-size-b j ∷ counted a.c 1 (a.degree - 3) (second_is (goal.at.returns-then-degree-lt5 c).After-size-b) (omega arith) j
    ∷ counted a.c 2 (a.degree - 2) (third-is (goal.at.returns-then-degree-lt5 c).After-size-d) (omega arith) j ∷ []

pub returns : goal.returns
returns c =
    let a = c.args in
    let fourth = size_is c.difference_at-4.ensures c.size.ensures.0 in
    λ j. first_is (goal.at.returns c).After-size-a j ∷ second_is (goal.at.returns c).After-size-b j ∷ counted a.c 2 (a.degree - 3) (third-is (goal.at.returns c).After-size-d) (omega arith) j
    ∷ counted a.c 3 (a.degree - 2) fourth (omega arith) j ∷ []
