-- From a path to the list of the points where it moves on: neighbours in the list are steps of the path that move, and no point comes twice if no two
-- such steps begin at one point.
use mathlib.Core.Path.{◌≡◌, refl, sym, ◌∙◌, ap, subst}
use mathlib.Core.Bool.{Bool, true, false}
use mathlib.Core.Logic.{◌⊎◌, inl, inr, ⊎_elim}
use mathlib.Core.List.{List, [], ◌∷◌, ◌++◌, append_assoc, append-nil}
use Prim.Native.Nat.{ℕ, zero, suc, ◌≤◌, ◌<◌}
use native.Mathlib.Omega.{arith}
use lib.ListN.{length, get_or, length-append, get_or-append}
use lib.Seq.{get_or-append_seam}
use lib.IntN.{pos}
use Rattle.integers.specs.Equal.{equal}
use Rattle.integers.proofs.Clash.{clash}
use Rattle.integers.proofs.Equal.{equal-≡, ≡-equal}
use Rattle.integers.proofs.Order.{lt_or_ge}
use Rattle.integers.proofs.Both.{both_true}
use Rattle.draw_polygon.specs.declared.Point.{Point}
use Rattle.draw_polygon.specs.Polygon.{same, unless_same, moves}
use Rattle.draw_polygon.proofs.Edges.{point-≡}
use Rattle.draw_polygon.proofs.Vertices.{unless_none, unless_one}

abbrev pub origin : Point
origin = record { x = pos 0; y = pos 0 }

-- ---- two points are one, or not
same-≡ : (p q : Point) → same p q ≡ true → p ≡ q
same-≡ p q e = let h = both_true (equal p.x q.x) (equal p.y q.y) e in point-≡ (equal-≡ h.0) (equal-≡ h.1)

same_refl : (q : Point) → same q q ≡ true
same_refl q = rw (≡-equal {a = q.x} refl, ≡-equal {a = q.y} refl)

pub decide : (p q : Point) → ((p ≡ q) × (unless_same p q ≡ [])) ⊎ ((p ≡ q → ⊥) × (unless_same p q ≡ p ∷ []))
decide p q = go (same p q) refl
  where
    go : (t : Bool) → same p q ≡ t → ((p ≡ q) × (unless_same p q ≡ [])) ⊎ ((p ≡ q → ⊥) × (unless_same p q ≡ p ∷ []))
    go true e = inl (same-≡ p q e, unless_none p q e)
    go false e = inr ((λ f. let z = sym e ∙ subst (λ r. same r q ≡ true) (sym f) (same_refl q) in clash (cc)), unless_one p q e)

-- ---- neighbours
pub data Chain (R : Point → Point → Type 0) : List Point → Type 0 where
  one : (p : Point) → Chain R (p ∷ [])
  more : {p q : Point} {ps : List Point} → R p q → Chain R (q ∷ ps) → Chain R (p ∷ q ∷ ps)

chain_snoc : {R : Point → Point → Type 0} (xs : List Point) {p q : Point} → Chain R (xs ++ p ∷ []) → R p q → Chain R (xs ++ p ∷ q ∷ [])
chain_snoc [] {q} c r = more r (one q)
chain_snoc (x ∷ []) (more a c) r = more a (chain_snoc [] c r)
chain_snoc (x ∷ y ∷ ys) (more a c) r = more a (chain_snoc (y ∷ ys) c r)

pub chain_at : {R : Point → Point → Type 0} {xs : List Point} → Chain R xs → (i : ℕ) → suc i < length xs
    → R (get_or xs i origin) (get_or xs (suc i) origin)
chain_at (one p) i h = absurd (omega arith)
chain_at (more r c) zero h = r
chain_at (more r c) (suc i) h = chain_at c i (omega arith)

-- no point twice
abbrev pub Once : List Point → Type 0
Once xs = (i k : ℕ) → i < k → k < length xs → get_or xs i origin ≡ get_or xs k origin → ⊥

-- an element of a list and one more: in the list, or the last
module _ (xs : List Point) (p : Point) (i : ℕ) (h : i < length (xs ++ p ∷ [])) where
  in_or_last : ((i < length xs) × (get_or (xs ++ p ∷ []) i origin ≡ get_or xs i origin)) ⊎ ((i ≡ length xs) × (get_or (xs ++ p ∷ []) i origin ≡ p))
  in_or_last = ⊎_elim (λ l. inl (l, get_or-append xs (p ∷ []) origin i l))
      (λ l. let e : i ≡ length xs = omega (arith, length-append xs (p ∷ [])) in
      inr (e, ap (λ n. get_or (xs ++ p ∷ []) n origin) e ∙ get_or-append_seam xs p [] origin))
      (lt_or_ge i (length xs))

once_snoc : (xs : List Point) (p : Point) → Once xs → ((i : ℕ) → i < length xs → get_or xs i origin ≡ p → ⊥) → Once (xs ++ p ∷ [])
once_snoc xs p o new i k l h e =
    ⊎_elim
    (λ a. o i k l a.0 (sym (get_or-append xs (p ∷ []) origin i (omega (arith, a.0))) ∙ e ∙ a.1))
    (λ a. new i (omega (arith, a.0)) (sym (get_or-append xs (p ∷ []) origin i (omega (arith, a.0))) ∙ e ∙ a.1))
    (in_or_last xs p k h)

-- ---- a path
module _ (f : ℕ → Point) where
  abbrev pub Moves : ℕ → Type 0
  Moves k = f k ≡ f (suc k) → ⊥

  -- one step more
  step_more : (n : ℕ) → ((f n ≡ f (suc n)) × (moves f (suc n) ≡ moves f n)) ⊎ (Moves n × (moves f (suc n) ≡ moves f n ++ f n ∷ []))
  unfolding moves
  step_more n =
      ⊎_elim (λ d. inl (d.0, ap (λ u. moves f n ++ u) d.1 ∙ append-nil (moves f n))) (λ d. inr (d.0, ap (λ u. moves f n ++ u) d.1))
      (decide (f n) (f (suc n)))

  none_yet : moves f 0 ≡ []
  unfolding moves
  none_yet = refl

  module _ {R : Point → Point → Type 0} (m : ℕ) (steps : (k : ℕ) → k < m → Moves k → R (f k) (f (suc k))) where
    pub path_chain : (n : ℕ) → n ≤ m → Chain R (moves f n ++ f n ∷ [])
    path_chain zero h = subst (λ l. Chain R (l ++ f 0 ∷ [])) (sym none_yet) (one (f 0))
    path_chain (suc n) h =
        let c = path_chain n (omega arith) in
        ⊎_elim
        (λ d. subst (λ l. Chain R (l ++ f (suc n) ∷ [])) (sym d.1) (subst (λ p. Chain R (moves f n ++ p ∷ [])) d.0 c))
        (λ d. subst (λ l. Chain R (l ++ f (suc n) ∷ [])) (sym d.1)
        (subst (Chain R) (sym (append_assoc (moves f n) (f n ∷ []) (f (suc n) ∷ []))) (chain_snoc (moves f n) c (steps n (omega arith) d.0))))
        (step_more n)

  head_append : (xs : List Point) (p : Point) (ys : List Point) → get_or (xs ++ p ∷ [] ++ ys) 0 origin ≡ get_or (xs ++ p ∷ []) 0 origin
  head_append [] p ys = refl
  head_append (x ∷ xs) p ys = refl

  pub path_head : (n : ℕ) → get_or (moves f n ++ f n ∷ []) 0 origin ≡ f 0
  path_head zero = ap (λ l. get_or (l ++ f 0 ∷ []) 0 origin) none_yet
  path_head (suc n) = let e = path_head n in ⊎_elim
      (λ d. ap (λ l. get_or (l ++ f (suc n) ∷ []) 0 origin) d.1 ∙ ap (λ p. get_or (moves f n ++ p ∷ []) 0 origin) (sym d.0) ∙ e)
      (λ d. ap (λ l. get_or (l ++ f (suc n) ∷ []) 0 origin) d.1 ∙ head_append (moves f n) (f n) (f (suc n) ∷ []) ∙ e)
      (step_more n)

  -- every point of the list is one where the path moves on
  pub record Met (n : ℕ) (p : Point) : Type 0 where
    pub place : ℕ
    pub before : place < n
    pub is : p ≡ f place
    pub moving : Moves place

  later : {n : ℕ} {p q : Point} → q ≡ p → Met n p → Met (suc n) q
  later e w = record { place = w.place; before = let b = w.before in omega arith; is = e ∙ w.is; moving = w.moving }

  pub met : (n i : ℕ) → i < length (moves f n) → Met n (get_or (moves f n) i origin)
  met zero i h = let e = ap length none_yet in absurd (omega arith)
  met (suc n) i h = let w = met n in ⊎_elim
      (λ d. let e = ap length d.1 in later (ap (λ l. get_or l i origin) d.1) (w i (omega arith)))
      (λ d. ⊎_elim
      (λ a. later (ap (λ l. get_or l i origin) d.1 ∙ a.1) (w i a.0))
      (λ a. record { place = n; before = omega arith; is = ap (λ l. get_or l i origin) d.1 ∙ a.1; moving = d.0 })
      (in_or_last (moves f n) (f n) i (subst (λ l. i < length l) d.1 h)))
      (step_more n)

  module _ (m : ℕ) (apart : (j k : ℕ) → j < k → k < m → Moves j → Moves k → f j ≡ f k → ⊥) where
    pub path_once : (n : ℕ) → n ≤ m → Once (moves f n)
    path_once zero h = subst Once (sym none_yet) (λ i k l g e. absurd (omega arith))
    path_once (suc n) h = let o = path_once n (omega arith) in ⊎_elim
        (λ d. subst Once (sym d.1) o)
        (λ d. subst Once (sym d.1) (once_snoc (moves f n) (f n) o
        (λ i l e. let w = met n i l in apart w.place n w.before (omega arith) w.moving d.0 (sym w.is ∙ e))))
        (step_more n)

  -- a path that never moves
  pub stays : (n : ℕ) → moves f n ≡ [] → (k : ℕ) → k ≤ n → f k ≡ f 0
  stays zero e k h = ap f (omega arith)
  stays (suc n) e k h = let s = stays n in ⊎_elim
      (λ d. let t = s (sym d.1 ∙ e) in ⊎_elim (λ l. t k (omega arith))
      (λ l. let g : k ≡ suc n = omega arith in ap f g ∙ sym d.0 ∙ t n (omega arith)) (lt_or_ge k (suc n)))
      (λ d. let g = ap length (sym e ∙ d.1) in absurd (omega (arith, g, length-append (moves f n) (f n ∷ []))))
      (step_more n)
