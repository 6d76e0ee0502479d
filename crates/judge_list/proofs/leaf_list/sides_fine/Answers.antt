-- `judge_list::leaf_list::sides_fine` meets its contract. The loop's invariant: `fine` is at most i, and is i exactly where the first i sides are fine.
use mathlib.Core.Path.{◌≡◌, refl, sym, ◌∙◌, ap, ap₂}
use mathlib.Core.Bool.{Bool, true, false, ◌&&◌}
use mathlib.Core.Logic.{⊎_elim}
use Prim.Native.Nat.{ℕ, suc, ◌+◌, ◌*◌, ◌≤◌}
use native.Mathlib.Omega.{arith}
use borrow.Author.Tests.{eq-eqb, ne_eqb}
use lib.Dec.{eqb}
use mir.Val.{bool_byte}
use mir.Facts.{to_z-of_z}
use Rattle.integers.proofs.Between.{element_fits}
use Rattle.integers.proofs.Both.{and_false}
use Rattle.integers.proofs.Order.{lt_or_ge}
use Rattle.judge_list.proofs.leaf_list.sides_fine.Goals as goal

-- one more side
byte-few : (b : Bool) → bool_byte b ≤ 1
byte-few true = omega arith
byte-few false = omega arith

one_more : (fine i : ℕ) (b : Bool) → fine ≤ i → eqb (fine + bool_byte b) (i + 1) ≡ (eqb fine i && b)
one_more fine i false h = ne_eqb (fine + 0) (i + 1) (λ e. absurd (omega arith)) ∙ sym (and_false (eqb fine i))
one_more fine i true h = ⊎_elim
    (λ l. ne_eqb (fine + 1) (i + 1) (λ e. absurd (omega arith)) ∙ ap (λ b. b && true) (sym (ne_eqb fine i (λ e. absurd (omega arith)))))
    (λ l. eq-eqb (fine + 1) (i + 1) (omega arith) ∙ ap (λ b. b && true) (sym (eq-eqb fine i (omega arith))))
    (lt_or_ge fine i)

pub loop-i-init : goal.loop-i-init
loop-i-init c = record { few = omega arith; within = omega arith; is = refl }

pub loop-i-preserved : goal.loop-i-preserved
loop-i-preserved c =
    let a = c.args in
    let ns = a.leaves.now in
    let h = c.loop-i-test.true in
    let n : c.loop-i.i + 1 ≡ suc c.loop-i.i = omega arith in
    let m : a.at + (2 * c.loop-i.i + 1) ≡ a.at + suc (2 * c.loop-i.i) = omega arith in
    let low = element_fits ns (a.at + 2 * c.loop-i.i) c.low-1.given in
    let high = element_fits ns (a.at + (2 * c.loop-i.i + 1)) c.high-1.given in
    let e = rw (to_z-of_z low, to_z-of_z high, m) at c.side_fine.ensures in
    record {
      few = omega arith;
      within = omega (arith, c.loop-i.invariant.within, c.from-fine.ensures, byte-few c.side_fine.result);
      is = rw c.from-fine.ensures (one_more c.loop-i.fine c.loop-i.i c.side_fine.result c.loop-i.invariant.within ∙ rw n (ap₂ ◌&&◌ c.loop-i.invariant.is e));
    }

pub overflow_add-fine : goal.overflow_add-fine
overflow_add-fine c =
    record {
      fits = omega (arith, c.loop-i.invariant.within, c.loop-i.invariant.few, c.requires.0, c.from-fine.ensures, byte-few c.side_fine.result);
    }

pub returns : goal.returns
returns c =
    let few = c.loop-i.invariant.few in
    let h = c.loop-i-test.false in
    let n : c.loop-i.i ≡ c.args.sides = omega arith in
    rw n at c.loop-i.invariant.is

pub loop-i-smaller : goal.loop-i-smaller
loop-i-smaller c = omega arith
