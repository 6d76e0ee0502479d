-- `outline_checks::curve_checks::fault_at` meets its contract: each return is one of the checks 2, 20, 3, 4 and 17.
use mathlib.Core.Path.{◌≡◌, refl, sym, ◌∙◌, ap, ap₂}
use mathlib.Core.Bool.{Bool, true, false}
use mathlib.Core.List.{List}
use Prim.Native.Nat.{ℕ, ◌+◌, ◌-◌, ◌≤◌, ◌<◌}
use native.Mathlib.Omega.{arith}
use lib.ListN.{length}
use lib.IntN.{ℤ}
use Rattle.std.proofs.Common.{rules, Option, Some, None}
use Rattle.setting.specs.Setting.{degree_pieces}
use Rattle.integers.specs.Entry.{entry}
use Rattle.outline.specs.Curves.{degree_fine, degree_at, next_at}
use Rattle.outline.specs.Faults.{first_beyond, meets_before, fault_at}
use Rattle.outline.specs.Inside.{found_of, fault_of}
use Rattle.outline.proofs.Faultless.{fault_degree, fault_pieces, fault_cut_short, fault_last, last_fault}
use Rattle.outline_checks.proofs.curve_checks.fault_at.Goals as goal
use Rattle.outline_checks.proofs.curve_checks.fault_at.Goals.{After-first_beyond}

-- past the first two checks
record Passed (m : ℕ) (ns : List ℤ) (at : ℕ) : Type 0 where
  fine : degree_fine (entry ns at) ≡ true
  enough : degree_pieces (degree_at ns at) m ≡ true

-- past the third: what the fourth finds and what 17 says tell the fault
module _ {m : ℕ} {ns : List ℤ} {at : ℕ} (p : Passed m ns at) (next : ℕ) (n : next ≡ next_at ns at) (inside : next ≤ length ns) where
  answered : (o : Option ℕ) (b : Bool) → o ≡ found_of (first_beyond ns (next - (at + 1)) (at + 1)) → b ≡ meets_before ns at
      → last_fault at b o ≡ fault_of (fault_at m ns at)
  answered o b e f = let e = rw n at e in sym (fault_last m ns at p.fine p.enough (rw n at inside) ∙ sym (ap₂ (last_fault at) f e))

pub returns-then-not-contains : goal.returns-then-not-contains
returns-then-not-contains c =
    let s = c.args in
    let e : degree_fine (entry s.ns.now s.at) ≡ false = search rules in
    sym (ap fault_of (fault_degree s.m s.ns.now s.at e))

pub returns-then-not-takes_pieces : goal.returns-then-not-takes_pieces
returns-then-not-takes_pieces c =
    let s = c.args in
    let e : degree_fine (entry s.ns.now s.at) ≡ true = search rules in
    let f : degree_pieces (degree_at s.ns.now s.at) s.m ≡ false = search rules in
    sym (ap fault_of (fault_pieces s.m s.ns.now s.at e f))

pub returns-then-ns-next : goal.returns-then-ns-next
returns-then-ns-next c =
    let s = c.args in
    let e : degree_fine (entry s.ns.now s.at) ≡ true = search rules in
    let f : degree_pieces (degree_at s.ns.now s.at) s.m ≡ true = search rules in
    let l : length s.ns.now < next_at s.ns.now s.at = omega arith in
    sym (ap fault_of (fault_cut_short s.m s.ns.now s.at e f l))

-- past the third
passed : (c : After-first_beyond) → Passed c.args.m c.args.ns.now c.args.at
passed c = record { fine = search rules; enough = search rules }

pub returns-in-Some : goal.returns-in-Some
returns-in-Some c =
    answered (passed (goal.at.returns-in-Some c).After-first_beyond) c.next_at-next.result c.next_at-next.ensures c.if-ns-next.false
    (Some c.in-Some.i) (meets_before c.args.ns.now c.args.at) c.in-Some.ensures refl

pub returns-then-not-meets_before : goal.returns-then-not-meets_before
returns-then-not-meets_before c =
    answered (passed (goal.at.returns-then-not-meets_before c).After-first_beyond) c.next_at-next.result c.next_at-next.ensures c.if-ns-next.false
    None false c.in_default.ensures c.if-not-meets_before.ensures

pub returns : goal.returns
returns c =
    answered (passed (goal.at.returns c).After-first_beyond) c.next_at-next.result c.next_at-next.ensures c.if-ns-next.false
    None true c.in_default.ensures c.if-not-meets_before.ensures
