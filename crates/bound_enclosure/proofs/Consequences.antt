-- The enclosure by document 01's own rows: three pieces, degrees 1 to 3. It uses that the table has them, so that a weaker law of it is seen here.
use mathlib.Core.Path.{subst}
use mathlib.Core.List.{List}
use Prim.Native.Nat.{ℕ, ◌≤◌, ◌<◌}
use native.Mathlib.Omega.{arith}
use lib.Dec.{lit≤}
use lib.IntN.{ℤ, pos}
use lib.Signed.{◌<ℤ◌}
use Rattle.bound_rows.specs.Rows.{pieces, thirds}
use Rattle.bound_rows.specs.Joined.{Place}
use Rattle.bound_rows.proofs.Rule.{pieces_have_rows, rows_thirds}
use Rattle.setting.proofs.Pieces.{degree_takes}
use Rattle.bound_enclosure.specs.Enclosed.{Encloses}
use Rattle.bound_enclosure.proofs.Enclosure.{enclosure}

pub thirds_enclose : (d : ℕ) → 1 ≤ d → d ≤ 3 → (D : ℤ) → pos 0 <ℤ D → (cs : List ℤ) (i a b p r : ℕ) → i < pieces → Place pieces i a b p r
    → Encloses pieces (thirds d) D d cs i a b p r
thirds_enclose d least most D positive cs i a b p r hi w = subst (λ ρs. Encloses pieces ρs D d cs i a b p r) (rows_thirds d least most)
    (enclosure pieces d pieces_have_rows least (omega (arith, most)) ((degree_takes d pieces).1 (λ h. lit≤ tt)) D positive cs i a b p r hi w)
