-- The first pass over a list of curves: what the walks of its curves give, taken together.
use mathlib.Core.Path.{◌≡◌, refl, sym, ◌∙◌, ap, ap₂}
use mathlib.Core.List.{List, [], ◌∷◌}
use mathlib.Core.Option.{Option, none, some}
use Prim.Native.Nat.{ℕ, ◌+◌, ◌*◌, ◌≤◌, ◌<◌}
use native.Mathlib.Nat.{add-zero, zero-add}
use native.Mathlib.Numerals.{add-one}
use native.Mathlib.Omega.{arith}
use lib.ListN.{length}
use lib.IntN.{ℤ}
use Rattle.std.specs.Prelude.{Result, Ok, Err}
use Rattle.setting.specs.Setting.{Setting, deepest}
use Rattle.setting.proofs.Depths.{deepest_few}
use Rattle.refusals.specs.declared.Refusal.{Refusal}
use Rattle.refusals.specs.declared.Refusal.TheVariants.{TooWide}
use Rattle.curve_nodes.specs.declared.Curve.{Curve}
use Rattle.walk_tree.specs.Tree.{first_failing}
use Rattle.walk_curve.specs.Walked.{node_meets, ends_of}
use Rattle.walk_curve.specs.Inside.{walked_of}
use Rattle.band_passes.specs.Forms.{Form}
use Rattle.band_passes.specs.Leaves.{first_too_wide, leaves_of}
use Rattle.band_passes.specs.Inside.{read_at, next_of, curves_in, Readable, counted_of}
use Rattle.walk_tree.proofs.Counting.{few_ends}
use Rattle.band_passes.proofs.Wide.{wide_later, wide_here}
use Rattle.band_passes.proofs.Reading.{Rest, rest_of, rest_start, rest_begins, rest_next, rest_done}

-- ---- what the walk of one curve says
abbrev walked : Option ℕ → ℕ → Result ℕ ℕ
walked o l = elim o [ some n ↦ Err n | none ↦ Ok l ]

walked_leaves : (o : Option ℕ) (l m : ℕ) → Ok m ≡ walked o l → (o ≡ none) × (m ≡ l)
walked_leaves none l m e = (refl, cc)
walked_leaves (some n) l m e = let z : ◌≡◌ {A = ℕ} 0 1 = cc in absurd (omega arith)

walked_wide : (o : Option ℕ) (l m : ℕ) → Err m ≡ walked o l → o ≡ some m
walked_wide none l m e = let z : ◌≡◌ {A = ℕ} 0 1 = cc in absurd (omega arith)
walked_wide (some n) l m e = cc

-- ---- what the curves from number k on find, `leaves` having been counted before
abbrev counted : Option Refusal → ℕ → Result ℕ Refusal
counted o l = elim o [ some r ↦ Err r | none ↦ Ok l ]

unfoldable pub counted_from : Setting → ℕ → ℤ → ℕ → List Curve → Result ℕ Refusal
counted_from σ leaves T k cs = counted (first_too_wide σ T k cs) (leaves + leaves_of σ T cs)

counted_all : (σ : Setting) (T : ℤ) (cs : List Curve) → counted_of σ T cs ≡ counted_from σ 0 T 0 cs
unfolding counted_of counted_from
counted_all σ T cs = ap (counted (first_too_wide σ T 0 cs)) (sym (zero-add (leaves_of σ T cs)))

counted_none : (σ : Setting) (leaves : ℕ) (T : ℤ) (k : ℕ) → counted_from σ leaves T k [] ≡ Ok leaves
unfolding counted_from first_too_wide leaves_of
counted_none σ leaves T k = ap Ok (add-zero leaves)

module _ (σ : Setting) (T : ℤ) (k : ℕ) (c : Curve) (cs : List Curve) where
  later : first_failing (node_meets σ T c) (ends_of σ T c) ≡ none → first_too_wide σ T k (c ∷ cs) ≡ first_too_wide σ T (k + 1) cs
  later e = wide_later σ T k c cs e ∙ ap (λ m. first_too_wide σ T m cs) (sym (add-one k))

  module _ (leaves : ℕ) where
    counted_more : (m : ℕ) → Ok m ≡ walked_of σ T c → counted_from σ leaves T k (c ∷ cs) ≡ counted_from σ (leaves + m) T (k + 1) cs
    unfolding counted_from leaves_of walked_of
    counted_more m e =
        let w = walked_leaves (first_failing (node_meets σ T c) (ends_of σ T c)) (length (ends_of σ T c)) m e in
        ap₂ counted (later w.0) (omega (arith, w.1))

    counted_wide : (n : ℕ) → Err n ≡ walked_of σ T c → counted_from σ leaves T k (c ∷ cs) ≡ Err (TooWide k n)
    unfolding counted_from walked_of
    counted_wide n e =
        rw (wide_here σ T k c cs n (walked_wide (first_failing (node_meets σ T c) (ends_of σ T c)) (length (ends_of σ T c)) n e), counted_from)

few_leaves : (σ : Setting) (T : ℤ) (c : Curve) (m : ℕ) → Ok m ≡ walked_of σ T c → m ≤ 256
unfolding walked_of
few_leaves σ T c m e =
    let w = walked_leaves (first_failing (node_meets σ T c) (ends_of σ T c)) (length (ends_of σ T c)) m e in
    omega (arith, w.1, few_ends (node_meets σ T c) (deepest c.degree) 1, deepest_few c.degree)

-- ---- the loop: k of n curves are done and have so many leaves
pub record Passed (σ : Setting) (T : ℤ) (f : Form) (ns : List ℤ) (n k at leaves : ℕ) : Type 0 where
  pub ahead : Rest σ f ns n k at
  pub is : counted_of σ T (curves_in f ns n) ≡ counted_from σ leaves T k (rest_of f ns n k at)
  pub few : leaves ≤ 256 * k

module _ {σ : Setting} {T : ℤ} {f : Form} {ns : List ℤ} {n : ℕ} where
  pub passed_start : Readable σ f ns n → Passed σ T f ns n 0 0 0
  passed_start r = record {
    ahead = rest_start r;
    is = counted_all σ T (curves_in f ns n) ∙ ap (counted_from σ 0 T 0) (rest_begins f ns n);
    few = omega arith;
  }

  module _ {k at leaves : ℕ} (p : Passed σ T f ns n k at leaves) where
    pub passed_done : n ≤ k → Ok leaves ≡ counted_of σ T (curves_in f ns n)
    passed_done h = sym (p.is ∙ ap (counted_from σ leaves T k) (rest_done f ns n k at h) ∙ counted_none σ leaves T k)

    module _ (h : k < n) where
      abbrev c : Curve
      c = read_at f ns at

      abbrev cs : List Curve
      cs = rest_of f ns n (k + 1) (next_of f ns at)

      pub passed_wide : (m : ℕ) → Err m ≡ walked_of σ T (read_at f ns at) → Err (TooWide k m) ≡ counted_of σ T (curves_in f ns n)
      passed_wide m e = sym (p.is ∙ ap (counted_from σ leaves T k) (rest_next p.ahead h).is ∙ counted_wide σ T k c cs leaves m e)

      pub passed_few : (m : ℕ) → Ok m ≡ walked_of σ T (read_at f ns at) → leaves + m ≤ 256 * (k + 1)
      passed_few m e = omega (arith, p.few, few_leaves σ T c m e)

      pub passed_more : (m : ℕ) → Ok m ≡ walked_of σ T (read_at f ns at) → Passed σ T f ns n (k + 1) (next_of f ns at) (leaves + m)
      passed_more m e = record {
        ahead = (rest_next p.ahead h).on;
        is = p.is ∙ ap (counted_from σ leaves T k) (rest_next p.ahead h).is ∙ counted_more σ T k c cs leaves m e;
        few = passed_few m e;
      }
