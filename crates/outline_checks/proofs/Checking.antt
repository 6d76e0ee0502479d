-- The checks of an outline curve by curve, as a loop goes: with `count` curves read up to index `at`, the whole list's answer is what the rest of it gives,
-- counted on.
use mathlib.Core.Path.{◌≡◌, refl, sym, ◌∙◌, ap}
use mathlib.Core.List.{List, [], ◌∷◌}
use mathlib.Core.Option.{Option, none, some}
use Prim.Native.Nat.{ℕ, suc, ◌+◌, ◌-◌, ◌≤◌, ◌<◌}
use native.Mathlib.Nat.{add-zero, zero-add, sub-zero}
use native.Mathlib.Omega.{arith}
use lib.ListN.{length}
use lib.IntN.{ℤ}
use Rattle.refusals.specs.declared.Refusal.{Refusal}
use Rattle.refusals.specs.declared.Refusal.TheVariants.{EmptyOutline, TooManyCurves}
use Rattle.curve_nodes.specs.declared.Curve.{Curve}
use Rattle.std.specs.Prelude.{Result, Ok, Err}
use Rattle.outline.specs.Curves.{next_at, curve_at}
use Rattle.outline.specs.Faults.{fault_at}
use Rattle.outline.specs.Inside.{fault_of, checked_of}
use Rattle.outline.specs.Checks.{Outlined, curves, faulty, with_curve, outline_from, outlined}
use Rattle.integers.proofs.Clash.{clash}
use Rattle.outline.proofs.Steps.{outline_ended, outline_full, outline_faulty, outline_step}

-- ---- counting on
abbrev counted : ℕ → Outlined → Result ℕ Refusal
counted k (curves cs) = Ok (k + length cs)
counted k (faulty r) = Err r

counted_none : (o : Outlined) → checked_of o ≡ counted 0 o
counted_none (curves cs) = ap Ok (sym (zero-add (length cs)))
counted_none (faulty r) = refl

counted_one : (k : ℕ) (c : Curve) (o : Outlined) → counted k (with_curve c o) ≡ counted (k + 1) o
counted_one k c (curves cs) = ap Ok (one_more (length cs))
  where
    one_more : (n : ℕ) → k + suc n ≡ k + 1 + n
    one_more n = omega arith
counted_one k c (faulty r) = refl

-- ---- what the code learns of one curve
pub is_fault : (o : Option Refusal) (r : Refusal) → fault_of o ≡ Err r → o ≡ some r
is_fault none r e = clash (cc)
is_fault (some q) r e = cc

pub no_fault : (o : Option Refusal) → fault_of o ≡ Ok tt → o ≡ none
no_fault none e = refl
no_fault (some q) e = clash (cc)

-- ---- `count` curves are read, up to index `at`
pub record Read (ns : List ℤ) (most m at count : ℕ) : Type 0 where
  pub few : count ≤ most
  pub is : checked_of (outlined most m ns) ≡ counted count (outline_from (most - count) m ns at)

pub empty : (ns : List ℤ) (most m : ℕ) → length ns ≡ 0 → Err EmptyOutline ≡ checked_of (outlined most m ns)
unfolding outlined
empty [] most m e = refl
empty (z ∷ ns) most m e = absurd (omega arith)

pub begun : (ns : List ℤ) (most m : ℕ) → (length ns ≡ 0 → ⊥) → Read ns most m 0 0
unfolding outlined
begun [] most m e = absurd (e refl)
begun (z ∷ ns) most m e = record { few = omega arith; is = rw sub-zero (counted_none (outline_from most m (z ∷ ns) 0)) }

module _ {ns : List ℤ} {most m at count : ℕ} (r : Read ns most m at count) where
  pub too_many : count ≡ most → at < length ns → Err (TooManyCurves at) ≡ checked_of (outlined most m ns)
  too_many e h = let n : most - count ≡ 0 = omega arith in sym (r.is ∙ rw n (ap (counted count) (outline_full m ns at h)))

  pub over : length ns ≤ at → Ok count ≡ checked_of (outlined most m ns)
  over h = sym (r.is ∙ ap (counted count) (outline_ended m ns at (most - count) h) ∙ ap Ok (add-zero count))

  module _ (d : count ≡ most → ⊥) where
    room : most - count ≡ suc (most - (count + 1))
    room = let l = r.few in omega arith

    pub stopped : (f : Refusal) → at < length ns → fault_at m ns at ≡ some f → Err f ≡ checked_of (outlined most m ns)
    stopped f h e = sym (r.is ∙ rw room (ap (counted count) (outline_faulty m ns at (most - (count + 1)) f h e)))

    pub gone_on : fault_at m ns at ≡ none → Read ns most m (next_at ns at) (count + 1)
    gone_on e = record {
      few = let l = r.few in omega arith;
      is = r.is
          ∙ rw room (ap (counted count) (outline_step m ns at (most - (count + 1)) e))
          ∙ counted_one count (curve_at ns at) (outline_from (most - (count + 1)) m ns (next_at ns at));
    }
