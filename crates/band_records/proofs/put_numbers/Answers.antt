-- Two numbers, stored one after the other: each fits 32 bits.
use mathlib.Core.Path.{◌∙◌, ap₂}
use Prim.Native.Nat.{◌+◌}
use native.Mathlib.Numerals.{add-one}
use native.Mathlib.Omega.{arith}
use lib.ListN.{set, length-set}
use mir.Syntax.{w32}
use mir.Facts.{to_z_pos}
use Rattle.band_records.proofs.put_numbers.Goals as goal

pub returns : goal.returns
returns c =
    let a = c.args in
    ap₂ (λ x y. set (set a.records.now a.at x) (a.at + 1) y) (to_z_pos w32 c.requires.1) (to_z_pos w32 c.requires.2) ∙ rw add-one

pub bounds-records-at-2 : goal.bounds-records-at-2
bounds-records-at-2 c = simp length-set (omega arith)
