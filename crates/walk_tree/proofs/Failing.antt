-- The first node of a list that does not pass: there is none exactly where all pass, and otherwise it is the one behind those that pass.
use mathlib.Core.Path.{◌≡◌, refl, sym, ◌∙◌, ap}
use mathlib.Core.Bool.{Bool, true, false}
use mathlib.Core.Logic.{⊎_elim, ◌↔◌}
use mathlib.Core.List.Memᴰ
use mathlib.Core.List.{List, [], ◌∷◌, ◌++◌, append-nil}
use mathlib.Core.Option.{none, some, some-injective, none-ne-some, some-ne-none}
use Prim.Native.Nat.{ℕ}
use Rattle.walk_tree.specs.Tree.{first_failing}
use Rattle.walk_tree.specs.Passing.{AllPass, First}
use Rattle.walk_tree.proofs.Tree.{either}

module _ (test : ℕ → Bool) where
  pub pass_nil : AllPass test []
  pass_nil = record { each = λ n i. absurd (Memᴰ.not-nil i) }

  pass_cons : {n : ℕ} {ns : List ℕ} → test n ≡ true → AllPass test ns → AllPass test (n ∷ ns)
  pass_cons p h = record { each = λ m i. ⊎_elim (λ e. ap test e ∙ p) (h.each m) (Memᴰ.cases_cons i) }

  pub pass_more : {ns : List ℕ} {n : ℕ} → AllPass test ns → test n ≡ true → AllPass test (ns ++ n ∷ [])
  pass_more {ns} h p = record { each = λ m i. ⊎_elim (h.each m) (λ j. ap test (Memᴰ.eq_of_singleton j) ∙ p) (Memᴰ.append_cases ns i) }

  behind_passing : (n : ℕ) (ns : List ℕ) → test n ≡ true → first_failing test (n ∷ ns) ≡ first_failing test ns
  unfolding first_failing
  behind_passing n ns e = rw (e, first_failing)

  here : (n : ℕ) (ns : List ℕ) → test n ≡ false → first_failing test (n ∷ ns) ≡ some n
  unfolding first_failing
  here n ns e = rw (e, first_failing)

  behind : (front ns : List ℕ) → AllPass test front → first_failing test (front ++ ns) ≡ first_failing test ns
  behind [] ns h = refl
  behind (m ∷ front) ns h =
      behind_passing m (front ++ ns) (h.each m (Memᴰ.head refl)) ∙ behind front ns (record { each = λ n i. h.each n (Memᴰ.tail i) })

  pub none_passing : (ns : List ℕ) → first_failing test ns ≡ none → AllPass test ns
  none_passing [] e = pass_nil
  none_passing (m ∷ ns) e = ⊎_elim
      (λ p. pass_cons p (none_passing ns (sym (behind_passing m ns p) ∙ e)))
      (λ f. absurd (some-ne-none m (sym (here m ns f) ∙ e)))
      (either (test m))

  pub passing_none : (ns : List ℕ) → AllPass test ns → first_failing test ns ≡ none
  unfolding first_failing
  passing_none ns h = ap (first_failing test) (sym (append-nil ns)) ∙ behind ns [] h

  pub some_first : (ns : List ℕ) (n : ℕ) → first_failing test ns ≡ some n → First test ns n
  unfolding first_failing
  some_first [] n e = absurd (none-ne-some n e)
  some_first (m ∷ ns) n e = ⊎_elim
      (λ p. let f = some_first ns n (sym (behind_passing m ns p) ∙ e) in
      record { front = m ∷ f.front; rest = f.rest; split = ap (λ l. m ∷ l) f.split; passing = pass_cons p f.passing; fails = f.fails })
      (λ f. let q = some-injective m n (sym (here m ns f) ∙ e) in
      record { front = []; rest = ns; split = ap (λ x. x ∷ ns) q; passing = pass_nil; fails = ap test (sym q) ∙ f })
      (either (test m))

  pub first_some : (ns : List ℕ) (n : ℕ) → First test ns n → first_failing test ns ≡ some n
  first_some ns n f = ap (first_failing test) f.split ∙ behind f.front (n ∷ f.rest) f.passing ∙ here n f.rest f.fails

  -- ---- in words: `none` exactly where all pass, `some n` exactly where n is the first that fails
  pub none_exactly : (ns : List ℕ) → (first_failing test ns ≡ none) ↔ AllPass test ns
  none_exactly ns = (none_passing ns, passing_none ns)

  pub some_exactly : (ns : List ℕ) (n : ℕ) → (first_failing test ns ≡ some n) ↔ First test ns n
  some_exactly ns n = (some_first ns n, first_some ns n)
