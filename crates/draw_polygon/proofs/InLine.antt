-- No three vertices of a hull are in line, and every three in their order turn strictly left. Seen from a vertex, two points in line with it lie on
-- the same side of it, since an edge leads on from there: the scalar product of the ways to them is positive. Of three points in line that is so of
-- the outer two only.
use mathlib.Core.Path.{◌≡◌, refl, sym, ◌∙◌, ap}
use mathlib.Core.Logic.{◌⊎◌, inl, inr, ⊎_elim}
use mathlib.Core.List.{List, [], ◌∷◌}
use Prim.Native.Nat.{ℕ, zero, suc, ◌+◌, ◌-◌, ◌<◌}
use native.Mathlib.Nat.{add-zero}
use native.Mathlib.Omega.{arith}
use lib.ListN.{length}
use lib.IntN.{ℤ, pos, neg_ℤ, ◌+ℤ◌, ◌-ℤ◌, ◌*ℤ◌}
use lib.Signed.{◌≤ℤ◌, ◌<ℤ◌}
use Rattle.integers.proofs.Ring.{sides}
use Rattle.integers.proofs.Order.{NonNeg, natural, nonneg, nonneg_by, gap, gap<, le_by, lt_by, clash_by, balance, square, ≤ℤ_antisymm, le_or_lt}
use Rattle.integers.proofs.Order.{*ℤ_cancel, ◌+₀◌, ◌×₀◌}
use Rattle.draw_polygon.specs.declared.Point.{Point}
use Rattle.draw_polygon.specs.Hull.{turn, Between, Edge, round, Hull}
use Rattle.draw_polygon.proofs.Reach.{≥-total}
use Rattle.draw_polygon.proofs.Edges.{point-≡, turn_round, turn_back, rising, falling}

-- the scalar product of the ways from u to p and from u to q
abbrev along : Point → Point → Point → ℤ
along u p q = (p.x -ℤ u.x) *ℤ (q.x -ℤ u.x) +ℤ (p.y -ℤ u.y) *ℤ (q.y -ℤ u.y)

square_gap : (c d : ℤ) → (c ≡ d) ⊎ (pos 0 <ℤ ((c -ℤ d) *ℤ (c -ℤ d)))
square_gap c d = ⊎_elim
    (λ l. ⊎_elim (λ g. inl (≤ℤ_antisymm l g)) (λ g. inr (lt_by (c ∷ d ∷ []) (gap< g ×₀ gap< g +₀ gap< g +₀ gap< g) (search sides depth 40) refl))
    (le_or_lt d c))
    (λ g. inr (lt_by (c ∷ d ∷ []) (gap< g ×₀ gap< g +₀ gap< g +₀ gap< g) (search sides depth 40) refl))
    (le_or_lt c d)

apart : (u p : Point) → (p ≡ u → ⊥) → pos 0 <ℤ along u p p
apart u p n = ⊎_elim
    (λ ex. ⊎_elim (λ ey. absurd (n (point-≡ ex ey)))
    (λ l. lt_by (u.x ∷ u.y ∷ p.x ∷ p.y ∷ []) (square (p.x -ℤ u.x) +₀ gap< l) (search sides depth 40) refl) (square_gap p.y u.y))
    (λ l. lt_by (u.x ∷ u.y ∷ p.x ∷ p.y ∷ []) (gap< l +₀ square (p.y -ℤ u.y)) (search sides depth 40) refl)
    (square_gap p.x u.x)

-- two numbers between u and v lie on the same side of u
same_way : {u v c d : ℤ} → Between u v c → Between u v d → NonNeg ((c -ℤ u) *ℤ (d -ℤ u))
same_way {u} {v} {c} {d} f g = ⊎_elim (λ o. gap (rising o f).0 ×₀ gap (rising o g).0)
    (λ o. nonneg_by (u ∷ c ∷ d ∷ []) (gap (falling o f).1 ×₀ gap (falling o g).1) (search sides depth 20) refl) (≥-total u v)

-- ---- three points in line: seen from one, the scalar product of the ways to the other two is not 0; and it is not positive seen from each
module _ (p q r : Point) (line : turn p q r ≡ pos 0) where
  abbrev ρ : List ℤ
  ρ = p.x ∷ p.y ∷ q.x ∷ q.y ∷ r.x ∷ r.y ∷ []

  not_zero : pos 0 <ℤ along p q q → pos 0 <ℤ along p r r → NonNeg (along p q r) → along p q r ≤ℤ pos 0 → ⊥
  unfolding turn
  not_zero hq hr h l =
      clash_by ρ (gap< hq ×₀ gap< hr +₀ gap< hq +₀ gap< hr +₀ h ×₀ gap l +₀ balance (pos 0 -ℤ turn p q r) line) (search sides depth 40 fits 9999) refl

  not_each : pos 0 <ℤ along p q r → pos 0 <ℤ along q r p → pos 0 <ℤ along r p q → ⊥
  unfolding turn
  not_each hp hq hr = clash_by ρ
      (gap< hp ×₀ gap< hq +₀ gap< hp +₀ gap< hq +₀ (gap< hp +₀ natural 1) ×₀ (gap< hr +₀ natural 1)
      +₀ (gap< hq +₀ natural 1) ×₀ (gap< hr +₀ natural 1) +₀ balance (pos 0 -ℤ turn p q r) line)
      (search sides depth 40 fits 9999) refl

module _ {X : Point → Type 0} {u v : Point} (edge : Edge X u v) where
  -- p and q are in line with u, and not on the same side: then q is in line with the edge
  on_edge : (p q : Point) → X p → X q → (p ≡ u → ⊥) → turn u p q ≡ pos 0 → along u p q ≤ℤ pos 0 → turn u v q ≡ pos 0
  unfolding turn
  on_edge p q xp xq n line l = ≤ℤ_antisymm
      (*ℤ_cancel {k = along u p p} (apart u p n) (le_by (u.x ∷ u.y ∷ v.x ∷ v.y ∷ p.x ∷ p.y ∷ q.x ∷ q.y ∷ [])
      (gap l ×₀ nonneg (edge.left p xp) +₀ balance (pos 0 -ℤ along u v p) line) (search sides depth 40 fits 9999) refl))
      (edge.left q xq)

  same_side : (p q : Point) → X p → X q → (p ≡ u → ⊥) → (q ≡ u → ⊥) → turn u p q ≡ pos 0 → pos 0 <ℤ along u p q
  same_side p q xp xq np nq line = ⊎_elim (λ l. absurd (never l)) (λ l. l) (le_or_lt (along u p q) (pos 0))
    where
      never : along u p q ≤ℤ pos 0 → ⊥
      never l =
          let m : along u q p ≤ℤ pos 0 = le_by (u.x ∷ u.y ∷ p.x ∷ p.y ∷ q.x ∷ q.y ∷ []) (gap l) (search sides depth 40 fits 9999) refl in
          let i = edge.on p xp (on_edge q p xq xp nq (turn_back u q p ∙ ap neg_ℤ line) m) in
          let j = edge.on q xq (on_edge p q xp xq np line l) in
          not_zero u p q line (apart u p np) (apart u q nq) (same_way i.0 j.0 +₀ same_way i.1 j.1) l

-- ---- of the vertices
pub no_three_in_line : {X : Point → Type 0} {vs : List Point} → Hull X vs → (i j k : ℕ) → i < j → j < k → k < length vs
    → turn (round vs i) (round vs j) (round vs k) ≡ pos 0 → ⊥
no_three_in_line {vs} h i j k l m n line =
    let there = turn_round (round vs i) (round vs j) (round vs k) ∙ line in
    let back = turn_round (round vs j) (round vs k) (round vs i) ∙ there in
    let xi = h.each i (omega arith) in
    let xj = h.each j (omega arith) in
    let xk = h.each k n in
    let ij = h.once i j l (omega arith) in
    let jk = h.once j k m n in
    let ik = h.once i k (omega arith) n in
    not_each (round vs i) (round vs j) (round vs k) line
    (same_side (h.edge i (omega arith)) (round vs j) (round vs k) xj xk (λ e. ij (sym e)) (λ e. ik (sym e)) line)
    (same_side (h.edge j (omega arith)) (round vs k) (round vs i) xk xi (λ e. jk (sym e)) ij there)
    (same_side (h.edge k n) (round vs i) (round vs j) xi xj ik jk back)

-- ---- so every three vertices, in their order, turn strictly left
module _ (s p q r t : Point) where
  -- seen from s, with all of them to the left of the way to t: p, q, r turn left if p, q and q, r do
  left_of_left : pos 0 ≤ℤ turn s t p → pos 0 <ℤ turn s t q → pos 0 <ℤ turn s t r → pos 0 <ℤ turn s p q → pos 0 <ℤ turn s q r → pos 0 <ℤ turn s p r
  unfolding turn
  left_of_left tp tq tr pq qr = ⊎_elim
      (λ l. absurd (clash_by (s.x ∷ s.y ∷ p.x ∷ p.y ∷ q.x ∷ q.y ∷ r.x ∷ r.y ∷ t.x ∷ t.y ∷ [])
      ((gap< tq +₀ natural 1) ×₀ gap l +₀ nonneg tp ×₀ (gap< qr +₀ natural 1) +₀ gap< tr ×₀ gap< pq +₀ gap< tr +₀ gap< pq)
      (search sides depth 40 fits 9999) refl))
      (λ l. l)
      (le_or_lt (turn s p r) (pos 0))

module _ {X : Point → Type 0} {vs : List Point} (h : Hull X vs) where
  positive : (i j k : ℕ) → i < j → j < k → k < length vs → pos 0 ≤ℤ turn (round vs i) (round vs j) (round vs k)
      → pos 0 <ℤ turn (round vs i) (round vs j) (round vs k)
  positive i j k l m n t =
      ⊎_elim (λ z. absurd (no_three_in_line h i j k l m n (≤ℤ_antisymm z t))) (λ z. z)
      (le_or_lt (turn (round vs i) (round vs j) (round vs k)) (pos 0))

  edge_left : (i k : ℕ) → suc i < k → k < length vs → pos 0 <ℤ turn (round vs i) (round vs (suc i)) (round vs k)
  edge_left i k l n = positive i (suc i) k (omega arith) l n ((h.edge i (omega arith)).left (round vs k) (h.each k n))

  next_left : (i k : ℕ) → i < k → suc k < length vs → pos 0 <ℤ turn (round vs i) (round vs k) (round vs (suc k))
  next_left i k l n = positive i k (suc k) l (omega arith) n
      (rw (← turn_round (round vs i) (round vs k) (round vs (suc k))) ((h.edge k (omega arith)).left (round vs i) (h.each i (omega arith))))

  three_left : (i j m : ℕ) → i < j → suc (j + m) < length vs → pos 0 <ℤ turn (round vs i) (round vs j) (round vs (suc (j + m)))
  three_left i j zero l n = rw (add-zero j) (next_left i j l (omega arith))
  three_left i j (suc m) l n = left_of_left (round vs i) (round vs j) (round vs (suc (j + m))) (round vs (suc (j + suc m))) (round vs (suc i))
      ((h.edge i (omega arith)).left (round vs j) (h.each j (omega arith))) (edge_left i (suc (j + m)) (omega arith) (omega arith))
      (edge_left i (suc (j + suc m)) (omega arith) n)
      (three_left i j m l (omega arith)) (rw e (next_left i (suc (j + m)) (omega arith) (omega arith)))
    where
      e : suc (j + suc m) ≡ suc (suc (j + m))
      e = omega arith

  pub turns_left_in_order : (i j k : ℕ) → i < j → j < k → k < length vs → pos 0 <ℤ turn (round vs i) (round vs j) (round vs k)
  turns_left_in_order i j k l m n = let e : k ≡ suc (j + (k - suc j)) = omega arith in rw e (three_left i j (k - suc j) l (omega arith))
