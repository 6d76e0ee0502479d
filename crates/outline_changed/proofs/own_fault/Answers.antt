-- Checks 2, 20 and 4 of a curve given by itself: each return is one of them.
use mathlib.Core.Path.{◌≡◌, sym, ◌∙◌, ap}
use mathlib.Core.Bool.{true, false}
use Prim.Native.Nat.{ℕ, ◌-◌}
use native.Mathlib.Omega.{arith}
use Rattle.std.proofs.Common.{rules, Option, Some, None}
use Rattle.setting.specs.Setting.{degree_pieces}
use Rattle.integers.specs.Entry.{entry}
use Rattle.outline.specs.Curves.{degree_fine, degree_at}
use Rattle.outline.specs.Faults.{first_beyond}
use Rattle.outline.specs.Inside.{found_of, fault_of}
use Rattle.outline.proofs.Degrees.{degree_most}
use Rattle.outline_changed.specs.Inside.{own_fault}
use Rattle.outline_changed.proofs.OwnFaults.{last_own, own_degree, own_pieces, own_last, found_place}
use Rattle.outline_changed.proofs.own_fault.Goals as goal
use Rattle.outline_changed.proofs.own_fault.Goals.{After-first_beyond}

pub returns-then-not-contains : goal.returns-then-not-contains
returns-then-not-contains c =
    let s = c.args in
    let e : degree_fine (entry s.curve.now 0) ≡ false = search rules in
    sym (ap fault_of (own_degree s.m s.curve.now s.at e))

pub returns-then-not-takes_pieces : goal.returns-then-not-takes_pieces
returns-then-not-takes_pieces c =
    let s = c.args in
    let e : degree_fine (entry s.curve.now 0) ≡ true = search rules in
    let f : degree_pieces (degree_at s.curve.now 0) s.m ≡ false = search rules in
    sym (ap fault_of (own_pieces s.m s.curve.now s.at e f))

pub overflow_add-result : goal.overflow_add-result
overflow_add-result c =
    let new = c.args.curve.now in
    let fine : degree_fine (entry new 0) ≡ true = search rules in
    let i = found_place new c.in-Some.i (rw c.next_at.ensures at c.in-Some.ensures) in
    omega (arith, i, degree_most new 0 fine, c.requires.1)

-- past the second: what the third finds tells the fault
told : (c : After-first_beyond) (o : Option ℕ) → let s = c.args in
    o ≡ found_of (first_beyond s.curve.now (c.next_at.result - 1) 1) → last_own s.at o ≡ fault_of (own_fault s.m s.curve.now s.at)
told c o e =
    let s = c.args in
    let fine : degree_fine (entry s.curve.now 0) ≡ true = search rules in
    let enough : degree_pieces (degree_at s.curve.now 0) s.m ≡ true = search rules in
    sym (own_last s.m s.curve.now s.at fine enough ∙ ap (last_own s.at) (sym (rw c.next_at.ensures at e)))

pub returns-in-Some : goal.returns-in-Some
returns-in-Some c = told (goal.at.returns-in-Some c).After-first_beyond (Some c.in-Some.i) c.in-Some.ensures

pub returns-in-None : goal.returns-in-None
returns-in-None c = told (goal.at.returns-in-None c).After-first_beyond None c.in-None.ensures
