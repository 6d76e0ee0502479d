-- A loop over the curves of a list: what is left of them, and one curve on.
use mathlib.Core.Path.{◌≡◌, refl, ap, subst}
use mathlib.Core.List.{List, [], ◌∷◌}
use Prim.Native.Nat.{ℕ, zero, suc, ◌+◌, ◌-◌, ◌≤◌, ◌<◌}
use native.Mathlib.Omega.{arith}
use lib.ListN.{length}
use lib.IntN.{ℤ}
use Rattle.setting.specs.Setting.{Setting}
use Rattle.curve_nodes.specs.declared.Curve.{Curve}
use Rattle.band_passes.specs.Forms.{Form}
use Rattle.band_passes.specs.Inside.{read_at, next_of, curves_from, curves_in, Walkable, AllWalkable, more, Readable}

pub curves_count : (read : ℕ → Curve) (next : ℕ → ℕ) (n at : ℕ) → length (curves_from read next n at) ≡ n
curves_count read next zero at = refl
curves_count read next (suc n) at = ap suc (curves_count read next n (next at))

-- of the n curves the first k are done; the rest begin at index `at`
pub record Rest (σ : Setting) (f : Form) (ns : List ℤ) (n k at : ℕ) : Type 0 where
  pub all : AllWalkable σ f ns (n - k) at
  pub done : k ≤ n

-- the curves that are left
abbrev pub rest_of : Form → List ℤ → (n k at : ℕ) → List Curve
rest_of f ns n k at = curves_from (read_at f ns) (next_of f ns) (n - k) at

pub record Next (σ : Setting) (f : Form) (ns : List ℤ) (n k at : ℕ) : Type 0 where
  pub is : rest_of f ns n k at ≡ read_at f ns at ∷ rest_of f ns n (k + 1) (next_of f ns at)
  pub here : Walkable σ f ns at
  pub on : Rest σ f ns n (k + 1) (next_of f ns at)

-- all of them are left, and none
module _ (f : Form) (ns : List ℤ) (n : ℕ) where
  pub rest_begins : curves_in f ns n ≡ rest_of f ns n 0 0
  rest_begins = ap (λ l. curves_from (read_at f ns) (next_of f ns) l 0) {x = n} {y = n - 0} (omega arith)

  pub rest_done : (k at : ℕ) → n ≤ k → rest_of f ns n k at ≡ []
  rest_done k at h = ap (λ l. curves_from (read_at f ns) (next_of f ns) l at) {x = n - k} {y = 0} (omega arith)

first_of : {σ : Setting} {f : Form} {ns : List ℤ} {l at : ℕ} → AllWalkable σ f ns (suc l) at
    → Walkable σ f ns at × AllWalkable σ f ns l (next_of f ns at)
first_of (more w rest) = (w, rest)

module _ {σ : Setting} {f : Form} {ns : List ℤ} {n : ℕ} where
  pub rest_start : Readable σ f ns n → Rest σ f ns n 0 0
  rest_start r = record { all = subst (λ l. AllWalkable σ f ns l 0) {x = n} {y = n - 0} (omega arith) r.all; done = omega arith }

  pub rest_next : {k at : ℕ} → Rest σ f ns n k at → k < n → Next σ f ns n k at
  rest_next {k} {at} r h =
      let e : n - k ≡ suc (n - (k + 1)) = omega arith in
      let w = first_of (subst (λ l. AllWalkable σ f ns l at) e r.all) in
      record {
        is = ap (λ l. curves_from (read_at f ns) (next_of f ns) l at) e;
        here = w.0;
        on = record { all = w.1; done = omega arith };
      }
