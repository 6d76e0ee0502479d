-- The search for the first bad place, up to an end: one place at a time, in two parts, and what it says where it finds none.
use mathlib.Core.Path.{◌≡◌, refl, ◌∙◌, ap, subst}
use mathlib.Core.Logic.{⊎_elim}
use mathlib.Core.Bool.{Bool, true, false}
use mathlib.Core.Option.{Option, none, some}
use Prim.Native.Nat.{ℕ, zero, suc, ◌+◌, ◌-◌, ◌≤◌, ◌<◌}
use native.Mathlib.Nat.{add-zero, zero-add, eq-or-lt_of_le}
use native.Mathlib.Omega.{arith}
use Rattle.integers.specs.First.{first_bad}
use Rattle.integers.proofs.Clash.{clash}

-- where one search found nothing, the next begins
abbrev pub or_else : Option ℕ → Option ℕ → Option ℕ
or_else (some i) o = some i
or_else none o = o

module _ (fine : ℕ → Bool) where
  module _ (end i : ℕ) where
    pub bad_ended : end ≤ i → first_bad fine (end - i) i ≡ none
    unfolding first_bad
    bad_ended h = let n : end - i ≡ 0 = omega arith in rw n

    pub bad_here : i < end → fine i ≡ false → first_bad fine (end - i) i ≡ some i
    unfolding first_bad
    bad_here h e = let n : end - i ≡ suc (end - (i + 1)) = omega arith in rw (n, first_bad, e)

    pub bad_on : i < end → fine i ≡ true → first_bad fine (end - i) i ≡ first_bad fine (end - (i + 1)) (i + 1)
    unfolding first_bad
    bad_on h e = let n : end - i ≡ suc (end - (i + 1)) = omega arith in rw (n, first_bad, e)

  -- a + b places in two parts
  pub bad_parts : (a b i : ℕ) → first_bad fine (a + b) i ≡ or_else (first_bad fine a i) (first_bad fine b (i + a))
  unfolding first_bad
  bad_parts zero b i = rw (zero-add, add-zero)
  bad_parts (suc a) b i =
      let n : suc a + b ≡ suc (a + b) = omega arith in
      let m : i + suc a ≡ i + 1 + a = omega arith in
      rw (n, m) (first_then (fine i) (first_bad fine (a + b) (i + 1)) (first_bad fine a (i + 1)) (first_bad fine b (i + 1 + a)) (bad_parts a b (i + 1)))
    where
      first_then : (t : Bool) (o p q : Option ℕ) → o ≡ or_else p q
          → ◌≡◌ {A = Option ℕ} (elim t [ true ↦ o | false ↦ some i ]) (or_else (elim t [ true ↦ p | false ↦ some i ]) q)
      first_then true o p q e = e
      first_then false o p q e = refl

  -- ---- none of n places from i on is bad
  passed : (b : Bool) (i : ℕ) (o : Option ℕ) → ◌≡◌ {A = Option ℕ} (elim b [ true ↦ o | false ↦ some i ]) none → (b ≡ true) × (o ≡ none)
  passed true i o e = (refl, e)
  passed false i o e = clash (cc)

  pub none_bad : (n i : ℕ) → first_bad fine n i ≡ none → (k : ℕ) → k < n → fine (i + k) ≡ true
  unfolding first_bad
  none_bad zero i e k h = absurd (omega arith)
  none_bad (suc n) i e zero h = rw add-zero (passed (fine i) i (first_bad fine n (i + 1)) e).0
  none_bad (suc n) i e (suc k) h =
      let m : i + suc k ≡ i + 1 + k = omega arith in
      rw m (none_bad n (i + 1) (passed (fine i) i (first_bad fine n (i + 1)) e).1 k (omega arith))

  pub bad_none : (n i : ℕ) → ((k : ℕ) → k < n → fine (i + k) ≡ true) → first_bad fine n i ≡ none
  unfolding first_bad
  bad_none zero i h = refl
  bad_none (suc n) i h =
      let e : fine i ≡ true = subst (λ j. fine j ≡ true) (add-zero i) (h 0 (omega arith)) in
      rw (first_bad, e) (bad_none n (i + 1) (λ k l. let m : i + 1 + k ≡ i + suc k = omega arith in rw m (h (suc k) (omega arith))))

-- ---- a search from another place on
abbrev pub moved : ℕ → Option ℕ → Option ℕ
moved i none = none
moved i (some k) = some (i + k)

module _ (fine : ℕ → Bool) (i : ℕ) (other : ℕ → Bool) where
  moved_by : (n j : ℕ) → ((k : ℕ) → k < n → fine (i + (j + k)) ≡ other (j + k)) → first_bad fine n (i + j) ≡ moved i (first_bad other n j)
  unfolding first_bad
  moved_by zero j h = refl
  moved_by (suc n) j h =
      let a : fine (i + j) ≡ other j = let z = h 0 (omega arith) in rw add-zero at z in
      let s : i + (j + 1) ≡ i + j + 1 = omega arith in
      both (fine (i + j)) (other j) a (first_bad fine n (i + j + 1)) (first_bad other n (j + 1))
      (subst (λ m. first_bad fine n m ≡ moved i (first_bad other n (j + 1))) s (moved_by n (j + 1) (λ k l. next k (h (suc k) (omega arith)))))
    where
      next : (k : ℕ) → fine (i + (j + suc k)) ≡ other (j + suc k) → fine (i + (j + 1 + k)) ≡ other (j + 1 + k)
      next k e = let m : j + 1 + k ≡ j + suc k = omega arith in rw m e

      both : (s t : Bool) → s ≡ t → (o p : Option ℕ) → o ≡ moved i p
          → ◌≡◌ {A = Option ℕ} (elim s [ true ↦ o | false ↦ some (i + j) ]) (moved i (elim t [ true ↦ p | false ↦ some j ]))
      both true true d o p e = e
      both false false d o p e = refl
      both true false d o p e = clash (cc)
      both false true d o p e = clash (cc)

  pub bad_moved : (n : ℕ) → ((k : ℕ) → k < n → fine (i + k) ≡ other k) → first_bad fine n i ≡ moved i (first_bad other n 0)
  bad_moved n h = let z = moved_by n 0 (λ k l. rw zero-add (h k l)) in rw add-zero at z

-- ---- what is found is among the places looked at
pub bad_below : (fine : ℕ → Bool) (n i j : ℕ) → first_bad fine n i ≡ some j → j < i + n
unfolding first_bad
bad_below fine zero i j e = clash (cc)
bad_below fine (suc n) i j e = go (fine i) (first_bad fine n (i + 1)) (λ f. bad_below fine n (i + 1) j f) e
  where
    go : (t : Bool) (o : Option ℕ) → (o ≡ some j → j < i + 1 + n) → ◌≡◌ {A = Option ℕ} (elim t [ true ↦ o | false ↦ some i ]) (some j) → j < i + suc n
    go true o h f = let l = h f in omega arith
    go false o h f = let l : i ≡ j = cc in omega arith

pub bad_is : (fine : ℕ → Bool) (n i j : ℕ) → first_bad fine n i ≡ some j → fine j ≡ false
unfolding first_bad
bad_is fine zero i j e = clash (cc)
bad_is fine (suc n) i j e = go (fine i) refl (first_bad fine n (i + 1)) (λ f. bad_is fine n (i + 1) j f) e
  where
    go : (t : Bool) → fine i ≡ t → (o : Option ℕ) → (o ≡ some j → fine j ≡ false)
        → ◌≡◌ {A = Option ℕ} (elim t [ true ↦ o | false ↦ some i ]) (some j) → fine j ≡ false
    go true g o h f = h f
    go false g o h f = let l : i ≡ j = cc in subst (λ k. fine k ≡ false) l g

-- ---- and every place before it is fine
pub bad_first : (fine : ℕ → Bool) (n i j : ℕ) → first_bad fine n i ≡ some j → (k : ℕ) → i ≤ k → k < j → fine k ≡ true
unfolding first_bad
bad_first fine zero i j e k l h = clash (cc)
bad_first fine (suc n) i j e k l h = go (fine i) refl (first_bad fine n (i + 1)) (λ f m. bad_first fine n (i + 1) j f k m h) e
  where
    go : (t : Bool) → fine i ≡ t → (o : Option ℕ) → (o ≡ some j → i + 1 ≤ k → fine k ≡ true)
        → ◌≡◌ {A = Option ℕ} (elim t [ true ↦ o | false ↦ some i ]) (some j) → fine k ≡ true
    go true g o again f = ⊎_elim (λ m. subst (λ q. fine q ≡ true) m g) (λ m. again f (omega arith)) (eq-or-lt_of_le {n = i} {m = k} l)
    go false g o again f = let m : i ≡ j = cc in absurd (omega arith)

-- ---- and it does not lie before them
pub bad_from : (fine : ℕ → Bool) (n i j : ℕ) → first_bad fine n i ≡ some j → i ≤ j
unfolding first_bad
bad_from fine zero i j e = clash (cc)
bad_from fine (suc n) i j e = go (fine i) (first_bad fine n (i + 1)) (bad_from fine n (i + 1) j) e
  where
    go : (t : Bool) (o : Option ℕ) → (o ≡ some j → i + 1 ≤ j) → ◌≡◌ {A = Option ℕ} (elim t [ true ↦ o | false ↦ some i ]) (some j) → i ≤ j
    go true o h f = let l = h f in omega arith
    go false o h f = let l : i ≡ j = cc in omega arith

-- ---- a bad place with none before it is the one that is found
pub bad_at : (fine : ℕ → Bool) (n i j : ℕ) → i ≤ j → j < i + n → fine j ≡ false → ((k : ℕ) → i ≤ k → k < j → fine k ≡ true)
    → first_bad fine n i ≡ some j
bad_at fine n i j least most bad before =
    let parts : n ≡ (j - i) + (i + n - j) = omega arith in
    let at : i + (j - i) ≡ j = omega arith in
    ap (λ (k : ℕ). first_bad fine k i) parts ∙ bad_parts fine (j - i) (i + n - j) i
    ∙ ap (λ (o : Option ℕ). or_else o (first_bad fine (i + n - j) (i + (j - i))))
    (bad_none fine (j - i) i (λ k h. before (i + k) (omega arith) (omega arith)))
    ∙ ap (λ (k : ℕ). first_bad fine (i + n - j) k) at ∙ bad_here fine (i + n) j most bad
