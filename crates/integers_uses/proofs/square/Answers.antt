-- `integers_uses::square` meets its contract: each entry of the table passes a computed test.
use mathlib.Core.Path.{◌≡◌, ◌∙◌}
use mathlib.Core.Bool.{Bool, ◌&&◌}
use Prim.Native.Nat.{ℕ, ◌*◌, ◌^◌}
use lib.Dec.{T, ltb, ltb→lt}
use lib.IntN.{ℤ, pos}
use lib.Signed.{mag, le_z, le_z_yes}
use mir.Syntax.{w64}
use mir.Val.{to_z, of_z}
use mir.Facts.{to_z-of_z}
use Rattle.integers.specs.Entry.{entry}
use Rattle.integers.proofs.Order.{≤ℤ_antisymm}
use Rattle.integers.proofs.Table.{at, and_left, and_right}
use Rattle.integers_uses.specs.Uses.{squares}
use Rattle.integers_uses.proofs.square.Goals as goal

-- x is the square of k, and fits
abbrev square? : ℕ → ℤ → Bool
square? k x = (le_z x (pos (k * k)) && le_z (pos (k * k)) x) && ltb (mag x) (2 ^ 63)

is-square : (k : ℕ) (x : ℤ) → T (square? k x) → to_z w64 (of_z w64 x) ≡ pos (k * k)
is-square k x t =
    let u = and_left (le_z x (pos (k * k)) && le_z (pos (k * k)) x) (ltb (mag x) (2 ^ 63)) t in
    to_z-of_z {w = w64} {z = x} (record {
      sfits = ltb→lt (mag x) (2 ^ 63) (and_right (le_z x (pos (k * k)) && le_z (pos (k * k)) x) (ltb (mag x) (2 ^ 63)) t);
    })
    ∙ ≤ℤ_antisymm (le_z_yes (and_left (le_z x (pos (k * k))) (le_z (pos (k * k)) x) u))
    (le_z_yes (and_right (le_z x (pos (k * k))) (le_z (pos (k * k)) x) u))

pub returns : goal.returns
returns c = let n = c.args.n in is-square n (entry squares n) (at square? squares (pos 0) tt n c.requires)
