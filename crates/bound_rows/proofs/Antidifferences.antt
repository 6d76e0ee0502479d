-- The polynomials that the rows bound, in document 01's own words: with u = p / (p + r) they are −u(1−u), −u(1−u)(2−u) and −u(1−u)(1+u). Both sides
-- are multiplied by d (p + r)^d.
use mathlib.Core.Path.{◌≡◌, refl}
use mathlib.Core.Bool.{Bool, cond, ◌&&◌}
use mathlib.Core.List.{[], ◌∷◌}
use Prim.Native.Nat.{ℕ, ◌-◌, ◌≤◌, ◌<◌, suc-le-suc}
use lib.Dec.{T, eqb}
use lib.IntN.{ℤ, pos, ◌*ℤ◌, pow, one}
use lib.Signed.{le_z, le_z_yes}
use Rattle.integers.specs.Entry.{entry}
use Rattle.integers.proofs.Ring.{ring, sides}
use Rattle.integers.proofs.Order.{≤ℤ_antisymm}
use Rattle.integers.proofs.Table.{and_left, and_right, every_below, below}
use Rattle.curve_bernstein.specs.Value.{choose, sum, value}
use Rattle.curve_nodes.specs.Differences.{difference}
use Rattle.bound_rows.specs.Antidifferences.{antidifference}
use Rattle.bound_rows.specs.Claim.{polynomial2_first, polynomial3_first, polynomial3_second}

module _ (p r : ℤ) where
  pub antidifference_2_first : value p r 2 (antidifference 2 0) ≡ pos 2 *ℤ polynomial2_first p r
  unfolding antidifference value sum choose pow one
  antidifference_2_first = ring (p ∷ r ∷ []) (search sides depth 40 fits 9999) refl

  pub antidifference_3_first : value p r 3 (antidifference 3 0) ≡ pos 3 *ℤ polynomial3_first p r
  unfolding antidifference value sum choose pow one
  antidifference_3_first = ring (p ∷ r ∷ []) (search sides depth 40 fits 9999) refl

  pub antidifference_3_second : value p r 3 (antidifference 3 1) ≡ pos 3 *ℤ polynomial3_second p r
  unfolding antidifference value sum choose pow one
  antidifference_3_second = ring (p ∷ r ∷ []) (search sides depth 40 fits 9999) refl

-- The ends are 0, and the second differences, times d, are d at place k and 0 elsewhere: tested for the degrees to 5.
abbrev same : ℤ → ℤ → Bool
same x y = le_z x y && le_z y x

abbrev as_said : ℕ → ℕ → Bool
as_said d k = same (entry (antidifference d k) 0) (pos 0) && same (entry (antidifference d k) d) (pos 0)
    && every_below (d - 1) (λ l. same (difference (antidifference d k) l) (cond (eqb k l) (pos d) (pos 0)))

pub antidifferences_tested : T (every_below 6 (λ d. every_below (d - 1) (as_said d)))
unfolding antidifference
antidifferences_tested = tt

-- so each second difference of each of them
pub antidifference_second : (d k l : ℕ) → d ≤ 5 → k < d - 1 → l < d - 1 → difference (antidifference d k) l ≡ cond (eqb k l) (pos d) (pos 0)
antidifference_second d k l hd hk hl =
    let ends = same (entry (antidifference d k) 0) (pos 0) && same (entry (antidifference d k) d) (pos 0) in
    let differs : ℕ → Bool = λ l. same (difference (antidifference d k) l) (cond (eqb k l) (pos d) (pos 0)) in
    let x = difference (antidifference d k) l in
    let y = cond (eqb k l) (pos d) (pos 0) in
    let said = below (d - 1) (as_said d) (below 6 (λ d. every_below (d - 1) (as_said d)) antidifferences_tested d (suc-le-suc hd)) k hk in
    let t = below (d - 1) differs (and_right ends (every_below (d - 1) differs) said) l hl in
    ≤ℤ_antisymm (le_z_yes (and_left (le_z x y) (le_z y x) t)) (le_z_yes (and_right (le_z x y) (le_z y x) t))
