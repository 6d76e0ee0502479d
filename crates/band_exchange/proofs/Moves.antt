-- Numbers of a list moved one by one: what a run of stores leaves alone, and one turn of each loop that moves.
use mathlib.Core.Path.{◌≡◌, refl, sym, ◌∙◌, ap}
use mathlib.Core.List.{List, [], ◌∷◌, ◌++◌}
use Prim.Native.Nat.{ℕ, suc, ◌+◌, ◌-◌, ◌^◌, ◌≤◌, ◌<◌}
use native.Mathlib.Nat.{add-zero}
use native.Mathlib.Numerals.{add-one}
use native.Mathlib.Omega.{arith}
use lib.ListN.{length, take, drop, set, length-drop, take-append-drop}
use lib.Seq.{sets, take-suc, drop-cons, get_or-drop, get_or-set_other, set_comm, length-take-le, sets-eq, take-add}
use lib.IntN.{ℤ, pos}
use lib.Signed.{mag}
use mir.Syntax.{w32}
use mir.Facts.{to_z-of_z}
use Rattle.integers.specs.Entry.{entry}
use Rattle.integers.proofs.Ranges.{stored}
use Rattle.integers.proofs.Between.{element_fits}
use Rattle.integers.proofs.Stores.{sets_append}
use Rattle.band_exchange.specs.Inside.{moved_to}

-- ---- a run of stores leaves alone what stands behind it and before it
pub behind_stores : (vs l : List ℤ) (i j : ℕ) → i + length vs ≤ j → entry (sets l i vs) j ≡ entry l j
behind_stores [] l i j h = refl
behind_stores (v ∷ vs) l i j h =
    behind_stores vs (set l i v) (suc i) j (omega arith) ∙ get_or-set_other l i j v (pos 0) (λ e. omega arith)

pub before_stores : (vs l : List ℤ) (i j : ℕ) → j < i → entry (sets l i vs) j ≡ entry l j
before_stores [] l i j h = refl
before_stores (v ∷ vs) l i j h =
    before_stores vs (set l i v) (suc i) j (omega arith) ∙ get_or-set_other l i j v (pos 0) (λ e. omega arith)

pub store_before : (vs l : List ℤ) (i j : ℕ) (v : ℤ) → j < i → set (sets l i vs) j v ≡ sets (set l j v) i vs
store_before [] l i j v h = refl
store_before (w ∷ vs) l i j v h =
    store_before vs (set l i w) (suc i) j v (omega arith)
    ∙ ap (λ m. sets m (suc i) vs) (set_comm l i j w v (λ e. omega arith))

-- ---- a number read and put: what a turn leaves, where the list so far is known
pub read_and_put : {l k : List ℤ} (from to : ℕ) → mag (entry l from) < 2 ^ 31 → l ≡ k → set l to (stored w32 (entry l from)) ≡ set k to (entry k from)
read_and_put {l} from to b e = ap (set l to) (to_z-of_z (element_fits l from b)) ∙ ap (λ q. set q to (entry q from)) e

-- ---- towards the front
module _ (l : List ℤ) (from to i : ℕ) (inside : from + i < length l) where
  part : List ℤ
  part = take i (drop from l)

  long : length (take i (drop from l)) ≡ i
  long = length-take-le i (drop from l) (omega (arith, length-drop from l))

  pub forward_read : to ≤ from → entry (moved_to l from to i) (from + i) ≡ entry l (from + i)
  forward_read h = behind_stores (take i (drop from l)) l to (from + i) (omega (arith, long))

  pub forward_step : set (moved_to l from to i) (to + i) (entry l (from + i)) ≡ moved_to l from to (i + 1)
  forward_step =
      sym (ap (sets l to) (ap (λ n. take n (drop from l)) (add-one i)
      ∙ take-suc (drop from l) i (pos 0) (omega (arith, length-drop from l))
      ∙ ap (λ v. take i (drop from l) ++ (v ∷ [])) (get_or-drop from l i (pos 0)))
      ∙ sets_append l to (take i (drop from l)) (entry l (from + i) ∷ [])
      ∙ ap (λ k. set (sets l to (take i (drop from l))) (to + k) (entry l (from + i))) long)

-- ---- towards the end: what is moved while `left` numbers are left
abbrev pub moved_from : List ℤ → (from to n left : ℕ) → List ℤ
moved_from l from to n left = sets l (to + left) (take (n - left) (drop (from + left) l))

pub back_start : (l : List ℤ) (from to n : ℕ) → moved_from l from to n n ≡ l
back_start l from to n = let z : n - n ≡ 0 = omega arith in rw z

pub back_done : (l : List ℤ) (from to n : ℕ) → moved_from l from to n 0 ≡ moved_to l from to n
back_done l from to n = let z : n - 0 ≡ n = omega arith in rw (add-zero, add-zero, z)

module _ (l : List ℤ) (from to n j : ℕ) (less : j < n) where
  pub back_read : from ≤ to → entry (moved_from l from to n (suc j)) (from + j) ≡ entry l (from + j)
  back_read h = before_stores (take (n - suc j) (drop (from + suc j) l)) l (to + suc j) (from + j) (omega arith)

  pub back_step : from + j < length l
      → set (moved_from l from to n (suc j)) (to + j) (entry l (from + j)) ≡ moved_from l from to n j
  back_step h =
      let v = entry l (from + j) in
      let vs = take (n - suc j) (drop (suc (from + j)) l) in
      let a : to + suc j ≡ suc (to + j) = omega arith in
      let b : from + suc j ≡ suc (from + j) = omega arith in
      let d : n - j ≡ suc (n - suc j) = omega arith in
      rw (a, b, d, drop-cons l (from + j) (pos 0) h) (store_before vs l (suc (to + j)) (to + j) v (omega arith))

-- ---- to where they stand
pub moved_nowhere : (l : List ℤ) (from n : ℕ) → from + n ≤ length l → moved_to l from from n ≡ l
moved_nowhere l from n h =
    let k = length-take-le n (drop from l) (omega (arith, length-drop from l)) in
    sets-eq (take n (drop from l)) l from (omega (arith, k))
    ∙ ap (λ j. take from l ++ take n (drop from l) ++ drop (from + j) l) k
    ∙ ap (λ q. q ++ drop (from + n) l) (sym (take-add from n l)) ∙ take-append-drop (from + n) l
