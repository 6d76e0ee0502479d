-- Where the rows of a second difference begin, by the degree.
use mathlib.Core.Path.{◌≡◌}
use mathlib.Core.Bool.{Bool, true, false, cond}
use Prim.Native.Nat.{◌+◌, ◌*◌}
use native.Mathlib.Omega.{arith}
use lib.Dec.{ltb}
use borrow.Author.Tests.{lt-ltb, le-ltb}
use Rattle.bound_row_table.specs.Inside.{row_place}
use Rattle.bound_pieces.proofs.start_of.Goals as goal
use Rattle.bound_pieces.proofs.start_of.Goals.{Else-degree-lt4}

pub returns-then-degree-lt3 : goal.returns-then-degree-lt3
returns-then-degree-lt3 c =
    let a = c.args in
    (simp (lt-ltb (a.k + 1) a.degree (omega arith), lt-ltb _ _ c.if-degree-lt3.true) (omega arith), omega arith)

pub returns-then-degree-lt4 : goal.returns-then-degree-lt4
returns-then-degree-lt4 c =
    let a = c.args in
    (simp (lt-ltb (a.k + 1) a.degree (omega arith), le-ltb _ _ c.if-degree-lt3.false, lt-ltb _ _ c.if-degree-lt4.true) (omega arith), omega arith)

-- those of degrees 4 and 5 stand behind the others
higher : (f : Else-degree-lt4) (b : Bool) → let a = f.args in
    ltb a.degree 5 ≡ b → cond b 108 189 + 27 * a.k ≡ row_place a.degree a.k
higher f b e =
    let a = f.args in
    simp (lt-ltb (a.k + 1) a.degree (omega arith), le-ltb _ _ f.if-degree-lt3.false, le-ltb _ _ f.if-degree-lt4.false, e)

pub overflow_mul-result : goal.overflow_mul-result
overflow_mul-result c = omega arith

pub overflow_mul-result-then-degree-lt5 : goal.overflow_mul-result-then-degree-lt5
overflow_mul-result-then-degree-lt5 c = omega arith

pub overflow_add-result : goal.overflow_add-result
overflow_add-result c = omega arith

pub overflow_mul-result-else-degree-lt5 : goal.overflow_mul-result-else-degree-lt5
overflow_mul-result-else-degree-lt5 c = omega arith

pub overflow_add-result-else-degree-lt5 : goal.overflow_add-result-else-degree-lt5
overflow_add-result-else-degree-lt5 c = omega arith

pub returns-then-degree-lt5 : goal.returns-then-degree-lt5
returns-then-degree-lt5 c = (higher (goal.at.returns-then-degree-lt5 c).Else-degree-lt4 true (lt-ltb _ _ c.if-degree-lt5.true), omega arith)

pub returns-else-degree-lt5 : goal.returns-else-degree-lt5
returns-else-degree-lt5 c = (higher (goal.at.returns-else-degree-lt5 c).Else-degree-lt4 false (le-ltb _ _ c.if-degree-lt5.false), omega arith)
