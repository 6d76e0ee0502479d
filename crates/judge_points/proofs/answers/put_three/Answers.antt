-- `judge_points::answers::put_three` meets its contract: three stores.
use mathlib.Core.Path.{◌≡◌}
use Prim.Native.Nat.{◌^◌, ◌<◌}
use native.Mathlib.Numerals.{add-one, add-two}
use native.Mathlib.Omega.{arith}
use lib.ListN.{length-set}
use lib.IntN.{ℤ}
use lib.Signed.{mag}
use mir.Syntax.{w64}
use mir.Facts.{to_z-of_z}
use borrow.Author.Rules.{sfits_of}
use Rattle.integers.proofs.Ranges.{stored}
use Rattle.judge_points.proofs.answers.put_three.Goals as goal

-- a number as it was read is the number
kept : (z : ℤ) → mag z < 2 ^ 63 → stored w64 z ≡ z
kept z h = to_z-of_z {w = w64} (sfits_of {z = z} h)

pub returns : goal.returns
returns c =
    let t = c.args.three in
    let f = c.struct_told-3-1.given in
    rw (kept t.first f.0.1, kept t.second f.1.0.1, kept t.third f.1.1.0.1, add-one, add-two)

pub bounds-answers-at-2 : goal.bounds-answers-at-2
bounds-answers-at-2 c = simp length-set (omega arith)

pub bounds-answers-at-3 : goal.bounds-answers-at-3
bounds-answers-at-3 c = simp length-set (omega arith)
