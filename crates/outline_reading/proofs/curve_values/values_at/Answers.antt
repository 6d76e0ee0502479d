-- `outline_reading::curve_values::values_at` meets its contract: the degree is 1 to 5, and each return is the list of one of them.
use mathlib.Core.Path.{◌≡◌}
use Prim.Native.Nat.{◌^◌, ◌<◌}
use native.Mathlib.Nat.{add-zero}
use native.Mathlib.Omega.{arith}
use lib.IntN.{ℤ}
use lib.Signed.{mag}
use mir.Syntax.{w32}
use Rattle.integers.proofs.Ranges.{stored}
use Rattle.integers.proofs.Machine.{Held, held_stored, held_parameter, held_pos, fits! }
use Rattle.curve_halves.proofs.Halving.{held_none, held_more, are! }
use Rattle.outline_reading.proofs.curve_values.values_at.Goals as goal

-- an element as it was read
abbrev held-read : (z : ℤ) → mag z < 2 ^ 31 → Held (stored w32 z)
held-read z h = held_parameter w32 z (record { sfits = h })

ruleset read = (held_more, held_none, held_stored, held-read, held_pos)

pub returns-then-degree-lt2 : goal.returns-then-degree-lt2
returns-then-degree-lt2 c =
    let s = c.args in
    let e : s.degree ≡ 1 = omega arith in
    rw (e, add-zero s.from) (are! (search read depth 40 fits 9999) tt)

pub returns-then-degree-lt3 : goal.returns-then-degree-lt3
returns-then-degree-lt3 c =
    let s = c.args in
    let e : s.degree ≡ 2 = omega arith in
    rw (e, add-zero s.from) (are! (search read depth 40 fits 9999) tt)

pub returns-then-degree-lt4 : goal.returns-then-degree-lt4
returns-then-degree-lt4 c =
    let s = c.args in
    let e : s.degree ≡ 3 = omega arith in
    rw (e, add-zero s.from) (are! (search read depth 40 fits 9999) tt)

pub returns-then-degree-lt5 : goal.returns-then-degree-lt5
returns-then-degree-lt5 c =
    let s = c.args in
    let e : s.degree ≡ 4 = omega arith in
    rw (e, add-zero s.from) (are! (search read depth 40 fits 9999) tt)

pub returns : goal.returns
returns c =
    let s = c.args in
    let e : s.degree ≡ 5 = omega arith in
    rw (e, add-zero s.from) (are! (search read depth 40 fits 9999) tt)

pub overflow_cast-c0 : goal.overflow_cast-c0
overflow_cast-c0 c = fits! (search read depth 40 fits 9999) tt

pub overflow_cast-c1 : goal.overflow_cast-c1
overflow_cast-c1 c = fits! (search read depth 40 fits 9999) tt

pub overflow_cast-c2 : goal.overflow_cast-c2
overflow_cast-c2 c = fits! (search read depth 40 fits 9999) tt

pub overflow_cast-c3 : goal.overflow_cast-c3
overflow_cast-c3 c = fits! (search read depth 40 fits 9999) tt

pub overflow_cast-c4 : goal.overflow_cast-c4
overflow_cast-c4 c = fits! (search read depth 40 fits 9999) tt

pub overflow_cast-c5 : goal.overflow_cast-c5
overflow_cast-c5 c = fits! (search read depth 40 fits 9999) tt
