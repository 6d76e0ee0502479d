-- The second-difference form of a value: the chord, and for each second difference its polynomial times it. A degree costs one `ring` line.
use mathlib.Core.Path.{◌≡◌, refl}
use mathlib.Core.List.{List, [], ◌∷◌}
use Prim.Native.Nat.{ℕ, zero, suc, ◌-◌}
use lib.IntN.{ℤ, pos, ◌+ℤ◌, ◌*ℤ◌, pow, one}
use Rattle.integers.specs.Entry.{entry}
use Rattle.integers.proofs.Ring.{ring, sides}
use Rattle.curve_bernstein.specs.Value.{choose, sum, value}
use Rattle.curve_nodes.specs.Differences.{difference}
use Rattle.bound_rows.specs.Antidifferences.{antidifference}

-- polynomial × difference, summed over n differences from place k on
unfoldable pub hat_sum : (p r : ℤ) (d n k : ℕ) → List ℤ → ℤ
hat_sum p r d zero k cs = pos 0
hat_sum p r d (suc n) k cs = value p r d (antidifference d k) *ℤ difference cs k +ℤ hat_sum p r d n (suc k) cs

-- d times the value of a coordinate of degree d
abbrev pub Form : ℕ → Type 0
Form d = (p r : ℤ) (cs : List ℤ)
    → pos d *ℤ value p r d cs ≡ pos d *ℤ pow (p +ℤ r) (d - 1) *ℤ (r *ℤ entry cs 0 +ℤ p *ℤ entry cs d) +ℤ hat_sum p r d (d - 1) 0 cs

pub form_1 : Form 1
unfolding hat_sum antidifference value sum choose pow one
form_1 p r cs = ring (p ∷ r ∷ entry cs 0 ∷ entry cs 1 ∷ []) (search sides depth 40 fits 9999) refl

pub form_2 : Form 2
unfolding hat_sum antidifference value sum choose pow one
form_2 p r cs = ring (p ∷ r ∷ entry cs 0 ∷ entry cs 1 ∷ entry cs 2 ∷ []) (search sides depth 40 fits 9999) refl

pub form_3 : Form 3
unfolding hat_sum antidifference value sum choose pow one
form_3 p r cs = ring (p ∷ r ∷ entry cs 0 ∷ entry cs 1 ∷ entry cs 2 ∷ entry cs 3 ∷ []) (search sides depth 40 fits 9999) refl

pub form_4 : Form 4
unfolding hat_sum antidifference value sum choose pow one
form_4 p r cs = ring (p ∷ r ∷ entry cs 0 ∷ entry cs 1 ∷ entry cs 2 ∷ entry cs 3 ∷ entry cs 4 ∷ []) (search sides depth 40 fits 9999) refl

pub form_5 : Form 5
unfolding hat_sum antidifference value sum choose pow one
form_5 p r cs = ring (p ∷ r ∷ entry cs 0 ∷ entry cs 1 ∷ entry cs 2 ∷ entry cs 3 ∷ entry cs 4 ∷ entry cs 5 ∷ [])
    (search sides depth 40 fits 99999) refl
