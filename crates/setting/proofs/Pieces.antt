-- Check 18 passes exactly where there are rows for the number of pieces; what check 20 asks of it; and how many numbers a record has, as code
-- computes it.
use mathlib.Core.Path.{◌≡◌, refl}
use mathlib.Core.Bool.{Bool, true, false, ◌&&◌, ◌||◌}
use mathlib.Core.Logic.{◌↔◌}
use Prim.Native.Nat.{ℕ, ◌+◌, ◌*◌, ◌≤◌, ◌<◌}
use native.Mathlib.Omega.{arith}
use borrow.Author.Tests.{leb-true, leb-false, le-leb}
use lib.Dec.{leb}
use Rattle.setting.specs.Setting.{lists, HasRows, pieces_fine, degree_pieces, record_length}

both : (a b : Bool) → (a && b) ≡ true → (a ≡ true) × (b ≡ true)
both true b e = (refl, e)
both false b e = let z : ◌≡◌ {A = ℕ} 0 1 = cc in absurd (omega arith)

pub fine_has_rows : (m : ℕ) → pieces_fine m ≡ true → HasRows m
fine_has_rows m e = let h = both (leb 1 m) (leb m 8) e in record { least = leb-true 1 m h.0; most = leb-true m 8 h.1 }

pub has_rows_fine : (m : ℕ) → HasRows m → pieces_fine m ≡ true
has_rows_fine m h = rw (le-leb 1 m h.least, le-leb m 8 h.most)

-- 20: what it asks, in words
pub degree_takes : (d m : ℕ) → (degree_pieces d m ≡ true) ↔ (3 < d → 3 ≤ m)
degree_takes d m = go (leb d 3) refl
  where
    go : (b : Bool) → leb d 3 ≡ b → ((b || leb 3 m) ≡ true) ↔ (3 < d → 3 ≤ m)
    go true e = (λ f h. absurd (omega (arith, leb-true d 3 e)), λ f. refl)
    go false e = (λ f h. leb-true 3 m f, λ f. le-leb 3 m (f (leb-false d 3 e)))

pub record_length_is : (m : ℕ) → 6 + 4 * m ≡ record_length (lists m)
record_length_is m = omega arith
