-- The rows of m pieces: degrees 3 and 2, the zeros, and for three pieces and more degrees 4 and 5.
use native.Mathlib.Omega.{arith}
use borrow.Author.Rules.{rules}
use Rattle.bound_row_table.proofs.Copying.{fewer_small, fewer_some, begun, few_copied, all_copied}
use Rattle.bound_row_table.proofs.put_rows.Goals as goal

pub returns-then-m-ge3 : goal.returns-then-m-ge3
returns-then-m-ge3 c =
    let p = c.requires in
    all_copied p.0
    (begun p.0 p.2 p.1 c.put_degree.ensures c.put_degree-2.ensures c.put_zeros.ensures)
    c.put_degree-then-m-ge3.ensures c.put_degree-then-m-ge3-2.ensures

pub returns-else-m-ge3 : goal.returns-else-m-ge3
returns-else-m-ge3 c =
    let p = c.requires in
    few_copied (omega arith)
    (begun p.0 p.2 p.1 c.put_degree.ensures c.put_degree-2.ensures c.put_zeros.ensures)

pub overflow_mul-fewer : goal.overflow_mul-fewer
overflow_mul-fewer c = omega (arith, fewer_small)

pub overflow_mul-fewer-2 : goal.overflow_mul-fewer-2
overflow_mul-fewer-2 c = omega (arith, fewer_small)

pub overflow_add-fewer-2 : goal.overflow_add-fewer-2
overflow_add-fewer-2 c = omega (arith, fewer_small)

pub put_degree-requires : goal.put_degree-requires
put_degree-requires c = (search rules, omega (arith, fewer_small), search rules, search rules)

pub put_degree-requires-2 : goal.put_degree-requires-2
put_degree-requires-2 c = (search rules, omega (arith, fewer_small), search rules, search rules)

pub overflow_sub-fewer-then-m-ge3 : goal.overflow_sub-fewer-then-m-ge3
overflow_sub-fewer-then-m-ge3 c = omega (arith, fewer_some c.if-m-ge3.true)

pub overflow_mul-fewer-then-m-ge3 : goal.overflow_mul-fewer-then-m-ge3
overflow_mul-fewer-then-m-ge3 c = omega (arith, fewer_small)

pub overflow_add-fewer-then-m-ge3 : goal.overflow_add-fewer-then-m-ge3
overflow_add-fewer-then-m-ge3 c = omega (arith, fewer_small)

pub put_degree-requires-then-m-ge3 : goal.put_degree-requires-then-m-ge3
put_degree-requires-then-m-ge3 c = (search rules, omega (arith, fewer_small), search rules, search rules)

pub overflow_sub-fewer-then-m-ge3-2 : goal.overflow_sub-fewer-then-m-ge3-2
overflow_sub-fewer-then-m-ge3-2 c = omega (arith, fewer_some c.if-m-ge3.true)

pub overflow_mul-fewer-then-m-ge3-2 : goal.overflow_mul-fewer-then-m-ge3-2
overflow_mul-fewer-then-m-ge3-2 c = omega (arith, fewer_small)

pub overflow_add-fewer-then-m-ge3-2 : goal.overflow_add-fewer-then-m-ge3-2
overflow_add-fewer-then-m-ge3-2 c = omega (arith, fewer_small)

pub put_degree-requires-then-m-ge3-2 : goal.put_degree-requires-then-m-ge3-2
put_degree-requires-then-m-ge3-2 c = (search rules, omega (arith, fewer_small), search rules, search rules)
