-- Accepted outlines: how many curves they have, and what holds of each: halving it has room in 64 bits, its degree is 1 to 5 and takes so many pieces,
-- zeros stand past it.
use mathlib.Core.Path.{◌≡◌, refl, sym, ap, ◌∙◌}
use mathlib.Core.Bool.{true}
use mathlib.Core.List.Memᴰ
use mathlib.Core.List.{List, [], ◌∷◌, Memᴰ}
use mathlib.Core.Logic.{⊎_elim}
use mathlib.Core.Option.{none}
use Prim.Native.Nat.{ℕ, zero, suc, ◌-◌, ◌≤◌, ◌<◌}
use native.Mathlib.Nat.{not-suc-le-zero, le_of_suc-le-suc}
use native.Mathlib.Omega.{arith}
use lib.ListN.{length, get_or}
use lib.IntN.{ℤ}
use Rattle.std.specs.Prelude.{Ok, Err}
use Rattle.setting.specs.Setting.{degree_pieces}
use Rattle.refusals.specs.declared.Refusal.{Refusal}
use Rattle.curve_nodes.specs.declared.Curve.{Curve}
use Rattle.curve_nodes.specs.Bounds.{Sized}
use Rattle.outline.specs.Curves.{next_at, curve_at}
use Rattle.outline.specs.Faults.{fault_at}
use Rattle.outline.specs.Checks.{Outlined, curves, faulty, with_curve, outline_from, outlined}
use Rattle.outline.specs.Inside.{checked_of}
use Rattle.integers.proofs.Clash.{clash}
use Rattle.outline.proofs.Faultless.{faultless, curve_sized, curve_takes}
use Rattle.outline.proofs.Steps.{outline_ended, outline_step, outline_begins, outline_ends}

-- ---- what holds of every curve without a fault holds of each curve of an accepted list
module _ (P : Curve → Type 0) (m : ℕ) (ns : List ℤ) (rule : (at : ℕ) → fault_at m ns at ≡ none → P (curve_at ns at)) where
  pub each_head : (left at : ℕ) (c : Curve) (cs : List Curve) → outline_from left m ns at ≡ curves (c ∷ cs) → P c
  each_head left at c cs e = let b = outline_begins left m ns at c cs e in rw b.is (rule at b.no_fault)

  pub each_member : (left at : ℕ) (cs : List Curve) → outline_from left m ns at ≡ curves cs → (c : Curve) → Memᴰ c cs → P c
  each_member left at [] e c i = absurd (Memᴰ.not-nil i)
  each_member left at (d ∷ cs) e c i =
      let b = outline_begins left m ns at d cs e in
      ⊎_elim (λ q. rw q (each_head left at d cs e)) (λ n. each_member (left - 1) (next_at ns at) cs b.rest c n) (Memᴰ.cases_cons i)

-- ---- how many there are
pub accepted_count : (left m : ℕ) (ns : List ℤ) (at : ℕ) (cs : List Curve) → outline_from left m ns at ≡ curves cs → length cs ≤ left
accepted_count left m ns at [] e = omega arith
accepted_count left m ns at (c ∷ cs) e =
    let b = outline_begins left m ns at c cs e in omega (arith, accepted_count (left - 1) m ns (next_at ns at) cs b.rest)

pub outlined_from : (most m : ℕ) (ns : List ℤ) (cs : List Curve) → outlined most m ns ≡ curves cs → outline_from most m ns 0 ≡ curves cs
unfolding outlined
outlined_from most m [] cs e = clash (cc)
outlined_from most m (z ∷ ns) cs e = e

pub accepted_most : (most m : ℕ) (ns : List ℤ) (cs : List Curve) → outlined most m ns ≡ curves cs → length cs ≤ most
accepted_most most m ns cs e = accepted_count most m ns 0 cs (outlined_from most m ns cs e)

pub accepted_some : (most m : ℕ) (ns : List ℤ) (cs : List Curve) → outlined most m ns ≡ curves cs → 1 ≤ length cs
unfolding outlined
accepted_some most m [] cs e = clash (cc)
accepted_some most m (z ∷ ns) [] e = absurd (not-suc-le-zero (outline_ends most m (z ∷ ns) 0 e))
accepted_some most m (z ∷ ns) (c ∷ cs) e = omega arith

-- ---- curves that are accepted are accepted wherever so many may stand
pub accepted_within : (left more m : ℕ) (ns : List ℤ) (at : ℕ) (cs : List Curve) → outline_from left m ns at ≡ curves cs → length cs ≤ more
    → outline_from more m ns at ≡ curves cs
accepted_within left more m ns at [] e h = outline_ended m ns at more (outline_ends left m ns at e)
accepted_within left zero m ns at (c ∷ cs) e h = absurd (not-suc-le-zero h)
accepted_within left (suc more) m ns at (c ∷ cs) e h =
    let b = outline_begins left m ns at c cs e in
    outline_step m ns at more b.no_fault
    ∙ ap (with_curve (curve_at ns at)) (accepted_within (left - 1) more m ns (next_at ns at) cs b.rest (le_of_suc-le-suc h))
    ∙ ap (λ (d : Curve). curves (d ∷ cs)) (sym b.is)

pub outlined_within : (most more m : ℕ) (ns : List ℤ) (cs : List Curve) → outlined most m ns ≡ curves cs → length cs ≤ more
    → outlined more m ns ≡ curves cs
unfolding outlined
outlined_within most more m [] cs e h = clash (cc)
outlined_within most more m (z ∷ ns) cs e h = accepted_within most more m (z ∷ ns) 0 cs e h

-- ---- halving has room, the degree takes so many pieces, and the padding
module _ (left m : ℕ) (ns : List ℤ) (at : ℕ) where
  pub accepted_head : (c : Curve) (cs : List Curve) → outline_from left m ns at ≡ curves (c ∷ cs) → Sized 0 c
  accepted_head c cs e = each_head (Sized 0) m ns (λ i f. curve_sized (faultless m ns i f)) left at c cs e

  pub accepted_all : (cs : List Curve) → outline_from left m ns at ≡ curves cs → (c : Curve) → Memᴰ c cs → Sized 0 c
  accepted_all cs e = each_member (Sized 0) m ns (λ i f. curve_sized (faultless m ns i f)) left at cs e

  pub accepted_pieces : (cs : List Curve) → outline_from left m ns at ≡ curves cs → (c : Curve) → Memᴰ c cs → degree_pieces c.degree m ≡ true
  accepted_pieces cs e = each_member (λ c. degree_pieces c.degree m ≡ true) m ns (λ i f. curve_takes (faultless m ns i f)) left at cs e

-- a curve by its number is a member
pub member_at : (cs : List Curve) (k : ℕ) (other : Curve) → k < length cs → Memᴰ (get_or cs k other) cs
member_at [] k other h = absurd (not-suc-le-zero h)
member_at (c ∷ cs) zero other h = Memᴰ.head refl
member_at (c ∷ cs) (suc k) other h = Memᴰ.tail (member_at cs k other (le_of_suc-le-suc h))

-- ---- what a caller of the checks learns from their answer
pub record Accepted (o : Outlined) (n : ℕ) : Type 0 where
  pub cs : List Curve
  pub is : o ≡ curves cs
  pub count : length cs ≡ n

pub checked_curves : (o : Outlined) (n : ℕ) → checked_of o ≡ Ok n → Accepted o n
checked_curves (curves cs) n e = record { cs = cs; is = refl; count = cc }
checked_curves (faulty r) n e = clash (cc)

pub checked_refused : (o : Outlined) (r : Refusal) → checked_of o ≡ Err r → o ≡ faulty r
checked_refused (curves cs) r e = clash (cc)
checked_refused (faulty q) r e = cc
