-- Check 7 over the curves of an outline: nothing is too wide exactly where every end of every curve meets T; otherwise the first curve with an end
-- that does not is named, with its first such end, a node at the last depth.
use mathlib.Core.Path.{◌≡◌, refl, sym, ◌∙◌, ap}
use mathlib.Core.Logic.{◌⊎◌, inl, inr, ⊎_elim, ◌↔◌}
use mathlib.Core.List.Memᴰ
use mathlib.Core.List.{List, [], ◌∷◌, ◌++◌}
use mathlib.Core.Option.{Option, none, some, some-injective, some-ne-none, none-ne-some}
use Prim.Native.Nat.{ℕ, suc, ◌+◌}
use native.Mathlib.Omega.{arith}
use lib.ListN.{length}
use lib.IntN.{ℤ}
use Rattle.setting.specs.Setting.{Setting, deepest}
use Rattle.refusals.specs.declared.Refusal.{Refusal}
use Rattle.refusals.specs.declared.Refusal.TheVariants.{TooWide}
use Rattle.curve_nodes.specs.declared.Curve.{Curve}
use Rattle.walk_tree.specs.Tree.{first_failing}
use Rattle.walk_curve.specs.Walked.{node_meets, ends_of}
use Rattle.band_passes.specs.Leaves.{first_too_wide}
use Rattle.walk_tree.specs.Passing.{AllPass}
use Rattle.band_passes.specs.FirstWide.{AllMeet, FirstWide}
use Rattle.walk_tree.proofs.Leaves.{first_end}
use Rattle.walk_tree.proofs.Failing.{none_passing, passing_none, some_first, first_some}

module _ (σ : Setting) (T : ℤ) where
  meet_nil : AllMeet σ T []
  meet_nil = record { each = λ c i. absurd (Memᴰ.not-nil i) }

  meet_cons : {c : Curve} {cs : List Curve} → AllPass (node_meets σ T c) (ends_of σ T c) → AllMeet σ T cs → AllMeet σ T (c ∷ cs)
  meet_cons p h = record { each = λ d i. ⊎_elim (λ e. rw e p) (h.each d) (Memᴰ.cases_cons i) }

  pub meet_head : {c : Curve} {cs : List Curve} → AllMeet σ T (c ∷ cs) → AllPass (node_meets σ T c) (ends_of σ T c)
  meet_head {c} h = h.each c (Memᴰ.head refl)

  pub meet_rest : {c : Curve} {cs : List Curve} → AllMeet σ T (c ∷ cs) → AllMeet σ T cs
  meet_rest h = record { each = λ d i. h.each d (Memᴰ.tail i) }

  -- ---- one curve on
  either : (o : Option ℕ) → (o ≡ none) ⊎ ((n : ℕ) × (o ≡ some n))
  either none = inl refl
  either (some n) = inr (n, refl)

  module _ (s : ℕ) (c : Curve) (cs : List Curve) where
    pub wide_later : first_failing (node_meets σ T c) (ends_of σ T c) ≡ none → first_too_wide σ T s (c ∷ cs) ≡ first_too_wide σ T (suc s) cs
    unfolding first_too_wide
    wide_later e = rw (e, first_too_wide)

    pub wide_here : (n : ℕ) → first_failing (node_meets σ T c) (ends_of σ T c) ≡ some n → first_too_wide σ T s (c ∷ cs) ≡ some (TooWide s n)
    unfolding first_too_wide
    wide_here n e = rw (e, first_too_wide)

  -- ---- nothing is too wide
  none_meet : (s : ℕ) (cs : List Curve) → first_too_wide σ T s cs ≡ none → AllMeet σ T cs
  none_meet s [] e = meet_nil
  none_meet s (c ∷ cs) e = ⊎_elim
      (λ f. meet_cons (none_passing (node_meets σ T c) (ends_of σ T c) f) (none_meet (suc s) cs (sym (wide_later s c cs f) ∙ e)))
      (λ f. absurd (some-ne-none (TooWide s f.0) (sym (wide_here s c cs f.0 f.1) ∙ e)))
      (either (first_failing (node_meets σ T c) (ends_of σ T c)))

  meet_none : (s : ℕ) (cs : List Curve) → AllMeet σ T cs → first_too_wide σ T s cs ≡ none
  unfolding first_too_wide
  meet_none s [] h = refl
  meet_none s (c ∷ cs) h = wide_later s c cs (passing_none (node_meets σ T c) (ends_of σ T c) (meet_head h)) ∙ meet_none (suc s) cs (meet_rest h)

  -- ---- something is
  found : (s : ℕ) (cs : List Curve) (r : Refusal) → first_too_wide σ T s cs ≡ some r → (k : ℕ) × (n : ℕ) × (r ≡ TooWide k n) × FirstWide σ T s cs k n
  unfolding first_too_wide
  found s [] r e = absurd (none-ne-some r e)
  found s (c ∷ cs) r e = ⊎_elim
      (λ f.
      let w = found (suc s) cs r (sym (wide_later s c cs f) ∙ e) in
      let h = w.3 in (
        w.0,
        w.1,
        w.2,
        record {
          front = c ∷ h.front;
          curve = h.curve;
          rest = h.rest;
          split = ap (λ l. c ∷ l) h.split;
          number = omega (arith, h.number);
          before = meet_cons (none_passing (node_meets σ T c) (ends_of σ T c) f) h.before;
          first = h.first;
          last = h.last;
          reached = h.reached;
        },
      ))
      (λ f.
      let first = some_first (node_meets σ T c) (ends_of σ T c) f.0 f.1 in
      let end = first_end (node_meets σ T c) (deepest c.degree) f.0 first in (
        s,
        f.0,
        some-injective r (TooWide s f.0) (sym e ∙ wide_here s c cs f.0 f.1),
        record {
          front = [];
          curve = c;
          rest = cs;
          split = refl;
          number = omega arith;
          before = meet_nil;
          first = first;
          last = end.failing first.fails;
          reached = end.longest;
        },
      ))
      (either (first_failing (node_meets σ T c) (ends_of σ T c)))

  pub behind : (s : ℕ) (front cs : List Curve) → AllMeet σ T front → first_too_wide σ T s (front ++ cs) ≡ first_too_wide σ T (s + length front) cs
  behind s [] cs h = ap (λ m. first_too_wide σ T m cs) {x = s} {y = s + 0} (omega arith)
  behind s (c ∷ front) cs h =
      wide_later s c (front ++ cs) (passing_none (node_meets σ T c) (ends_of σ T c) (meet_head h)) ∙ behind (suc s) front cs (meet_rest h)
      ∙ ap (λ m. first_too_wide σ T m cs) {x = suc s + length front} {y = s + suc (length front)} (omega arith)

  first_found : (s : ℕ) (cs : List Curve) (k n : ℕ) → FirstWide σ T s cs k n → first_too_wide σ T s cs ≡ some (TooWide k n)
  first_found s cs k n w =
      ap (first_too_wide σ T s) w.split ∙ behind s w.front (w.curve ∷ w.rest) w.before
      ∙ wide_here (s + length w.front) w.curve w.rest n (first_some (node_meets σ T w.curve) (ends_of σ T w.curve) n w.first)
      ∙ ap (λ m. some (TooWide m n)) w.number

  -- ---- in words
  module _ (s : ℕ) (cs : List Curve) where
    pub none_wide : (first_too_wide σ T s cs ≡ none) ↔ AllMeet σ T cs
    none_wide = (none_meet s cs, meet_none s cs)

    pub first_wide : (k n : ℕ) → (first_too_wide σ T s cs ≡ some (TooWide k n)) ↔ FirstWide σ T s cs k n
    first_wide k n = (λ e. let w = found s cs (TooWide k n) e in same w, first_found s cs k n)
      where
        same : (w : (k' : ℕ) × (n' : ℕ) × (TooWide k n ≡ TooWide k' n') × FirstWide σ T s cs k' n') → FirstWide σ T s cs k n
        same w = let a : k ≡ w.0 = cc in let b : n ≡ w.1 = cc in rw (a, b) w.3

    -- and no other refusal is found
    pub only_wide : (r : Refusal) → first_too_wide σ T s cs ≡ some r → (k : ℕ) × (n : ℕ) × (r ≡ TooWide k n)
    only_wide r e = let w = found s cs r e in (w.0, w.1, w.2)
