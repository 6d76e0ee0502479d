-- `outline_binary64::checks::fault_at` meets its contract: each return is one of the checks 2, 20, 3, 21 or 4, and 17.
use mathlib.Core.Path.{◌≡◌, refl, sym, ◌∙◌, ap, ap₂}
use mathlib.Core.Bool.{Bool, true, false}
use mathlib.Core.List.{List}
use Prim.Native.Nat.{ℕ, ◌+◌, ◌-◌, ◌≤◌}
use native.Mathlib.Omega.{arith}
use lib.ListN.{length}
use lib.IntN.{ℤ}
use Rattle.std.proofs.Common.{rules, Option, Some, None, Err}
use Rattle.setting.specs.Setting.{degree_pieces}
use Rattle.integers.specs.Entry.{entry}
use Rattle.refusals.specs.declared.Refusal.TheVariants.{CutShort}
use Rattle.outline.proofs.Degrees.{degree_least}
use Rattle.outline.specs.Curves.{degree_fine, degree_at, next_at}
use Rattle.outline.specs.Faults.{first_beyond, meets_before, fault_at}
use Rattle.outline.specs.Inside.{found_of, fault_of}
use Rattle.outline.proofs.Faultless.{fault_degree, fault_pieces, fault_cut_short, fault_last, last_fault}
use Rattle.outline_binary64.specs.Lists.{wholes}
use Rattle.outline_binary64.specs.Inside.{fault_named}
use Rattle.outline_binary64.proofs.Numbers.{wholes_length, whole_at}
use Rattle.outline_binary64.proofs.Found.{found_inside, nowhere_fine}
use Rattle.outline_binary64.proofs.checks.fault_at.Goals as goal
use Rattle.outline_binary64.proofs.checks.fault_at.Goals.{After-first_beyond, After-is_degree, Else-not-is_degree, Else-not-takes_pieces}

-- past the first two checks
record Passed (m : ℕ) (ns : List ℤ) (at : ℕ) : Type 0 where
  fine : degree_fine (entry ns at) ≡ true
  enough : degree_pieces (degree_at ns at) m ≡ true

-- past the third: what the fourth finds and what 17 says tell the fault
module _ {m : ℕ} {ns : List ℤ} {at : ℕ} (p : Passed m ns at) (next : ℕ) (n : next ≡ next_at ns at) (inside : next ≤ length ns) where
  answered : (o : Option ℕ) (b : Bool) → o ≡ found_of (first_beyond ns (next - (at + 1)) (at + 1)) → b ≡ meets_before ns at
      → last_fault at b o ≡ fault_of (fault_at m ns at)
  answered o b e f = let e = rw n at e in sym (fault_last m ns at p.fine p.enough (rw n at inside) ∙ sym (ap₂ (last_fault at) f e))

-- what check 2 answers
degree : (c : After-is_degree) → c.is_degree.result ≡ degree_fine (entry (wholes c.args.xs.now) c.args.at)
degree c = c.is_degree.ensures ∙ ap degree_fine (sym (whole_at c.args.xs.now c.args.at c.requires))

pub returns-then-not-is_degree : goal.returns-then-not-is_degree
returns-then-not-is_degree c =
    let s = c.args in
    let e = sym (degree (goal.at.returns-then-not-is_degree c).After-is_degree) ∙ c.if-not-is_degree.true in
    sym (ap (λ o. fault_named s.xs.now (fault_of o)) (fault_degree s.m (wholes s.xs.now) s.at e))

-- past the first check
fine : (c : Else-not-is_degree) → degree_fine (entry (wholes c.args.xs.now) c.args.at) ≡ true
fine c = sym (c.is_degree.ensures ∙ ap degree_fine (sym (whole_at c.args.xs.now c.args.at c.requires))) ∙ c.if-not-is_degree.false

pub degree_at-requires : goal.degree_at-requires
degree_at-requires c = fine c

pub returns-then-not-takes_pieces : goal.returns-then-not-takes_pieces
returns-then-not-takes_pieces c =
    let s = c.args in
    let e : degree_pieces (degree_at (wholes s.xs.now) s.at) s.m ≡ false = search rules in
    sym (ap (λ o. fault_named s.xs.now (fault_of o))
    (fault_pieces s.m (wholes s.xs.now) s.at (fine (goal.at.returns-then-not-takes_pieces c).Else-not-is_degree) e))

-- past the second
passed : (c : Else-not-takes_pieces) → Passed c.args.m (wholes c.args.xs.now) c.args.at
passed c = record {
  fine = sym (c.is_degree.ensures ∙ ap degree_fine (sym (whole_at c.args.xs.now c.args.at c.requires))) ∙ c.if-not-is_degree.false;
  enough = search rules;
}

pub next_at-next-requires : goal.next_at-next-requires
next_at-next-requires c = (passed c).fine

pub returns-then-xs-next : goal.returns-then-xs-next
returns-then-xs-next c =
    let s = c.args in
    let p = passed (goal.at.returns-then-xs-next c).Else-not-takes_pieces in
    ap (λ n. Err (CutShort n)) (sym (wholes_length s.xs.now))
    ∙ sym (ap (λ o. fault_named s.xs.now (fault_of o)) (fault_cut_short s.m (wholes s.xs.now) s.at p.fine p.enough
    (omega (arith, c.next_at-next.ensures, c.if-xs-next.true, wholes_length s.xs.now))))

-- past the third
told : (c : After-first_beyond) → Passed c.args.m (wholes c.args.xs.now) c.args.at → (o : Option ℕ) (b : Bool)
    → let s = c.args in
    let ns = wholes s.xs.now in
    o ≡ found_of (first_beyond ns (c.next_at-next.result - (s.at + 1)) (s.at + 1)) → b ≡ meets_before ns s.at
    → last_fault s.at b o ≡ fault_of (fault_at s.m ns s.at)
told c p o b e f =
    answered p c.next_at-next.result c.next_at-next.ensures
    (omega (arith, c.if-xs-next.false, wholes_length c.args.xs.now)) o b e f

pub coordinate_fault-requires : goal.coordinate_fault-requires
coordinate_fault-requires c =
    let s = c.args in
    found_inside (wholes s.xs.now) (s.at + 1) c.next_at-next.result (omega (arith, c.next_at-next.ensures))
    (omega (arith, c.if-xs-next.false)) (sym c.in-Some.ensures)

pub returns-in-Some : goal.returns-in-Some
returns-in-Some c =
    let s = c.args in
    ap Err c.coordinate_fault.ensures
    ∙ ap (fault_named s.xs.now)
    (told (goal.at.returns-in-Some c).After-first_beyond (passed (goal.at.returns-in-Some c).Else-not-takes_pieces) (Some c.in-Some.i) (meets_before (wholes s.xs.now) s.at) c.in-Some.ensures refl)

pub meets_before-requires : goal.meets_before-requires
meets_before-requires c =
    let s = c.args in
    let ns = wholes s.xs.now in
    let p = passed (goal.at.meets_before-requires c).Else-not-takes_pieces in
    let least = degree_least ns s.at p.fine in
    let next = c.next_at-next.ensures in
    let each = nowhere_fine ns (s.at + 1) c.next_at-next.result (sym c.in_default.ensures) in (
      omega (arith, c.if-xs-next.false, least, next),
      each (s.at + 1) (omega arith) (omega (arith, least, next)),
      each (s.at + 2) (omega arith) (omega (arith, least, next)),
    )

pub returns-then-not-meets_before : goal.returns-then-not-meets_before
returns-then-not-meets_before c =
    ap (fault_named c.args.xs.now)
    (told (goal.at.returns-then-not-meets_before c).After-first_beyond (passed (goal.at.returns-then-not-meets_before c).Else-not-takes_pieces) None false c.in_default.ensures c.if-not-meets_before.ensures)

pub returns : goal.returns
returns c =
    ap (fault_named c.args.xs.now) (told (goal.at.returns c).After-first_beyond (passed (goal.at.returns c).Else-not-takes_pieces) None true c.in_default.ensures c.if-not-meets_before.ensures)
