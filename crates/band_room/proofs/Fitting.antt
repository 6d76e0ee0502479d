-- The loop over the curves of a list: those done are not too wide, and what is left of the room, with one leaf for each of the others, has their leaves
-- to take.
use mathlib.Core.Path.{◌≡◌, refl, sym, ◌∙◌, ap}
use mathlib.Core.List.{List, [], ◌∷◌}
use mathlib.Core.Option.{none}
use Prim.Native.Nat.{ℕ, ◌+◌, ◌-◌, ◌≤◌, ◌<◌}
use native.Mathlib.Numerals.{add-one}
use native.Mathlib.Omega.{arith}
use lib.ListN.{length}
use lib.IntN.{ℤ}
use Rattle.setting.specs.Setting.{Setting, deepest}
use Rattle.curve_nodes.specs.declared.Curve.{Curve}
use Rattle.walk_tree.proofs.Counting.{some_end}
use Rattle.walk_curve.specs.Walked.{node_meets, ends_of}
use Rattle.band_passes.specs.Forms.{Form}
use Rattle.band_passes.specs.Leaves.{first_too_wide, leaves_of}
use Rattle.band_passes.specs.Inside.{read_at, next_of, curves_in, Readable}
use Rattle.band_passes.proofs.Wide.{wide_later}
use Rattle.band_passes.proofs.Reading.{Rest, rest_of, rest_start, rest_begins, rest_next, rest_done}
use Rattle.band_room.specs.Inside.{Few, Fits}

-- a curve has a leaf
pub some_few : {σ : Setting} {T : ℤ} {c : Curve} {m : ℕ} → Few σ T c m → 0 < m
some_few {σ} {T} {c} w = omega (arith, w.few, some_end (node_meets σ T c) (deepest c.degree) 1)

pub record Fitting (σ : Setting) (T : ℤ) (f : Form) (ns : List ℤ) (n room k at left : ℕ) : Type 0 where
  pub ahead : Rest σ f ns n k at
  pub passing : first_too_wide σ T 0 (curves_in f ns n) ≡ first_too_wide σ T k (rest_of f ns n k at)
  pub few : leaves_of σ T (curves_in f ns n) + (left + (n - k)) ≤ room + leaves_of σ T (rest_of f ns n k at)

leaves_head : (σ : Setting) (T : ℤ) (c : Curve) (cs : List Curve) → leaves_of σ T (c ∷ cs) ≡ length (ends_of σ T c) + leaves_of σ T cs
unfolding leaves_of
leaves_head σ T c cs = refl

none_left : (σ : Setting) (T : ℤ) (k : ℕ) → (first_too_wide σ T k [] ≡ none) × (leaves_of σ T [] ≡ 0)
unfolding first_too_wide leaves_of
none_left σ T k = (refl, refl)

module _ {σ : Setting} {T : ℤ} {f : Form} {ns : List ℤ} {n room : ℕ} where
  pub fitting_start : Readable σ f ns n → n ≤ room → Fitting σ T f ns n room 0 0 (room - n)
  fitting_start r l = record {
    ahead = rest_start r;
    passing = ap (first_too_wide σ T 0) (rest_begins f ns n);
    few = omega (arith, ap (leaves_of σ T) (rest_begins f ns n));
  }

  module _ {k at left : ℕ} (p : Fitting σ T f ns n room k at left) where
    pub fitting_on : k < n → {c : Curve} → c ≡ read_at f ns at → {m : ℕ} → Few σ T c m → m - 1 ≤ left
        → Fitting σ T f ns n room (k + 1) (next_of f ns at) (left - (m - 1))
    fitting_on h {c} e {m} w l =
        let x = rest_next p.ahead h in
        let here = rw e at w in
        let rest = rest_of f ns n (k + 1) (next_of f ns at) in
        record {
          ahead = x.on;
          passing = p.passing ∙ ap (first_too_wide σ T k) x.is ∙ wide_later σ T k (read_at f ns at) rest here.passing
              ∙ ap (λ i. first_too_wide σ T i rest) (sym (add-one k));
          few = omega (arith, p.few, ap (leaves_of σ T) x.is, leaves_head σ T (read_at f ns at) rest, here.few, some_few here);
        }

    pub fitting_done : n ≤ k → Fits σ T (curves_in f ns n) room
    fitting_done h =
        let e = rest_done f ns n k at h in
        let z = none_left σ T k in
        record {
          passing = p.passing ∙ ap (first_too_wide σ T k) e ∙ z.0;
          few = omega (arith, p.few, ap (leaves_of σ T) e, z.1);
        }
