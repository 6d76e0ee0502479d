-- A list of control values as code returns it: each is a formula in control values that `Each` bounds, and the list is that of the formulas' values,
--     returns c = are! (search (coordinates, c.before.pre) depth 40) tt
-- with the path to `Each`.
use mathlib.Core.Path.{◌≡◌, refl, ap₂}
use mathlib.Core.Bool.{Bool, true, ◌&&◌}
use mathlib.Core.List.{List, [], ◌∷◌}
use Prim.Native.Nat.{ℕ}
use lib.Dec.{T}
use lib.IntN.{ℤ}
use Rattle.integers.specs.Entry.{entry}
use Rattle.integers.proofs.Table.{and_left, and_right}
use Rattle.integers.proofs.Machine.{Held, machine}
use Rattle.curve_halves.specs.Sizes.{Each}

-- ---- a control value
abbrev pub held_entry : {B : ℕ} {cs : List ℤ} (k : ℕ) → Each B cs → Held (entry cs k)
held_entry {B} {cs} k h = record { value = entry cs k; bound = B; test = true; is = λ t. refl; under = λ t. h.under k }

pub ruleset coordinate = (held_entry, machine)

-- ---- a list as the machine has it: the formulas' values, right where the test passes
pub record HeldList (zs : List ℤ) : Type 0 where
  pub values : List ℤ
  pub test : Bool
  pub is : T test → zs ≡ values

abbrev pub held_none : HeldList []
held_none = record { values = []; test = true; is = λ t. refl }

abbrev pub held_more : {z : ℤ} {zs : List ℤ} → Held z → HeldList zs → HeldList (z ∷ zs)
held_more s t = record {
  values = s.value ∷ t.values;
  test = s.test && t.test;
  is = λ u. ap₂ ◌∷◌ (s.is (and_left s.test t.test u)) (t.is (and_right s.test t.test u));
}

pub ruleset coordinates = (held_more, held_none, coordinate)

pub are! : {zs : List ℤ} (s : HeldList zs) → T s.test → zs ≡ s.values
are! s t = s.is t
