-- The records of an outline's curves: as many have a curve's number as the curve has leaves, so what the numbers cost is what the curves cost.
use mathlib.Core.Path.{◌≡◌, refl, ◌∙◌, ap, ap₂}
use mathlib.Core.Logic.{⊎_elim}
use mathlib.Core.Bool.{cond}
use mathlib.Core.List.{List, [], ◌∷◌, ◌++◌}
use Prim.Native.Nat.{ℕ, zero, suc, ◌+◌, ◌*◌, ◌/◌, ◌≤◌, ◌<◌}
use native.Mathlib.Nat.{mul-div_right, eq-or-lt_of_le, le_of_suc-le-suc}
use native.Mathlib.Omega.{arith}
use lib.ListN.{length, length-append, get_or-append}
use lib.Seq.{get_or-append-add}
use lib.IntN.{ℤ, pos}
use Rattle.integers.specs.Entry.{entry}
use Rattle.integers.specs.Equal.{equal}
use Rattle.setting.specs.Setting.{Setting, record_length}
use Rattle.curve_nodes.specs.declared.Curve.{Curve}
use Rattle.walk_curve.specs.Walked.{ends_of}
use Rattle.band_records.specs.Records.{record_of, records_of, all_records}
use Rattle.band_records.proofs.Lengths.{in_records, record_length_law, records_length}
use Rattle.band_records.proofs.Sound.{record_curve}
use Rattle.quote_price.specs.Price.{records_in, count_to, count, price, sum_to, costs}
use Rattle.quote_outline.specs.Curves.{curve_costs}
use Rattle.quote_price.proofs.Counts.{count_same, count_other}
use Rattle.quote_price.proofs.Totals.{sum_same}

-- ---- two lists one behind the other; the first has n records
module _ (σ : Setting) (k : ℕ) (a b : List ℤ) (n : ℕ) (whole : length a ≡ record_length σ * n) where
  count_first : (i : ℕ) → i ≤ n → count_to σ (a ++ b) k i ≡ count_to σ a k i
  unfolding count_to
  count_first zero h = refl
  count_first (suc i) h =
      let e = get_or-append a b (pos 0) (record_length σ * i) (omega (arith, whole, in_records (record_length σ) i n 0 h (omega arith))) in
      ap₂ (λ c z. c + cond (equal z (pos k)) 1 0) (count_first i (omega arith)) e

  pub count_both : (i : ℕ) → count_to σ (a ++ b) k (n + i) ≡ count_to σ a k n + count_to σ b k i
  unfolding count_to
  count_both zero = ap (count_to σ (a ++ b) k) {x = n + 0} {y = n} (omega arith) ∙ count_first n (omega arith) ∙ omega arith
  count_both (suc i) =
      let e : entry (a ++ b) (record_length σ * (n + i)) ≡ entry b (record_length σ * i) =
      ap (entry (a ++ b)) {x = record_length σ * (n + i)} {y = length a + record_length σ * i} (omega arith)
      ∙ get_or-append-add a b (record_length σ * i) (pos 0) in
      ap (count_to σ (a ++ b) k) {x = n + suc i} {y = suc (n + i)} (omega arith)
      ∙ ap₂ (λ c z. c + cond (equal z (pos k)) 1 0) (count_both i) e
      ∙ regrouped (count_to σ a k n) (count_to σ b k i) (cond (equal (entry b (record_length σ * i)) (pos k)) 1 0)
    where
      regrouped : (x y z : ℕ) → x + y + z ≡ x + (y + z)
      regrouped x y z = omega arith

-- ---- the records of some nodes of one curve: all have its number, and no other
module _ (σ : Setting) (s : ℕ) (c : Curve) where
  one_curve : (n : ℕ) → entry (record_of σ s c n) (record_length σ * 0) ≡ pos s
  one_curve n = ap (entry (record_of σ s c n)) {x = record_length σ * 0} {y = 0} (omega arith) ∙ record_curve σ s c n

  each_counts : (k u : ℕ) → ((n : ℕ) → count_to σ (record_of σ s c n) k 1 ≡ u) → (ns : List ℕ)
      → count_to σ (records_of σ s c ns) k (length ns) ≡ u * length ns
  unfolding records_of count_to
  each_counts k u e [] = omega arith
  each_counts k u e (n ∷ ns) =
      ap (count_to σ (record_of σ s c n ++ records_of σ s c ns) k) {x = suc (length ns)} {y = 1 + length ns} (omega arith)
      ∙ count_both σ k (record_of σ s c n) (records_of σ s c ns) 1 (omega (arith, record_length_law σ s c n)) (length ns)
      ∙ ap₂ ◌+◌ (e n) (each_counts k u e ns) ∙ more u (length ns)
    where
      more : (x y : ℕ) → x + x * y ≡ x * suc y
      more x y = omega arith

  own_counts : (ns : List ℕ) → count_to σ (records_of σ s c ns) s (length ns) ≡ length ns
  unfolding count_to
  own_counts ns = each_counts s 1 (λ n. count_same σ (record_of σ s c n) 0 s (one_curve n)) ns ∙ omega arith

  other_counts : (k : ℕ) → (k ≡ s → ⊥) → (ns : List ℕ) → count_to σ (records_of σ s c ns) k (length ns) ≡ 0
  unfolding count_to
  other_counts k f ns = each_counts k 0 (λ n. count_other σ (record_of σ s c n) 0 s (one_curve n) k f) ns ∙ omega arith

-- ---- the records of all curves, numbered from s on
module _ (σ : Setting) (T : ℤ) where
  -- how many there are
  abbrev ends_in : List Curve → ℕ
  ends_in [] = 0
  ends_in (c ∷ cs) = length (ends_of σ T c) + ends_in cs

  all_length : (s : ℕ) (cs : List Curve) → length (all_records σ T s cs) ≡ record_length σ * ends_in cs
  unfolding all_records
  all_length s [] = omega arith
  all_length s (c ∷ cs) =
      length-append (records_of σ s c (ends_of σ T c)) (all_records σ T (suc s) cs)
      ∙ ap₂ ◌+◌ (records_length σ s c (ends_of σ T c)) (all_length (suc s) cs) ∙ out (record_length σ) (length (ends_of σ T c)) (ends_in cs)
    where
      out : (l x y : ℕ) → l * x + l * y ≡ l * (x + y)
      out l x y = omega arith

  all_counts : (s k : ℕ) (c : Curve) (cs : List Curve)
      → count_to σ (all_records σ T s (c ∷ cs)) k (ends_in (c ∷ cs))
      ≡ count_to σ (records_of σ s c (ends_of σ T c)) k (length (ends_of σ T c)) + count_to σ (all_records σ T (suc s) cs) k (ends_in cs)
  unfolding all_records
  all_counts s k c cs = count_both σ k (records_of σ s c (ends_of σ T c)) (all_records σ T (suc s) cs) (length (ends_of σ T c))
      (records_length σ s c (ends_of σ T c)) (ends_in cs)

  low_counts : (s k : ℕ) (cs : List Curve) → k < s → count_to σ (all_records σ T s cs) k (ends_in cs) ≡ 0
  unfolding count_to
  low_counts s k [] h = refl
  low_counts s k (c ∷ cs) h =
      all_counts s k c cs ∙ ap₂ ◌+◌ (other_counts σ s c k (λ e. omega arith) (ends_of σ T c)) (low_counts (suc s) k cs (omega arith))

  -- a curve's number stands in as many records as the curve has leaves
  curve_counts : (s : ℕ) (before : List Curve) (c : Curve) (after : List Curve)
      → count_to σ (all_records σ T s (before ++ c ∷ after)) (s + length before) (ends_in (before ++ c ∷ after)) ≡ length (ends_of σ T c)
  curve_counts s [] c after =
      let z : s + 0 ≡ s = omega arith in
      rw z (all_counts s s c after ∙ ap₂ ◌+◌ (own_counts σ s c (ends_of σ T c)) (low_counts (suc s) s after (omega arith)) ∙ omega arith)
  curve_counts s (d ∷ before) c after =
      let k = s + suc (length before) in
      all_counts s k d (before ++ c ∷ after)
      ∙ ap₂ ◌+◌ (other_counts σ s d k (λ e. omega arith) (ends_of σ T d))
      (ap (λ j. count_to σ (all_records σ T (suc s) (before ++ c ∷ after)) j (ends_in (before ++ c ∷ after))) {x = k} {y = suc s + length before} (omega arith)
      ∙ curve_counts (suc s) before c after)
      ∙ omega arith

  records_of_law : (cs : List Curve) → records_in σ (all_records σ T 0 cs) ≡ ends_in cs
  records_of_law cs = ap (λ n. n / record_length σ) (all_length 0 cs) ∙ mul-div_right (ends_in cs) (omega arith)

  pub count_of_curve : (before : List Curve) (c : Curve) (after : List Curve)
      → count σ (all_records σ T 0 (before ++ c ∷ after)) (length before) ≡ length (ends_of σ T c)
  count_of_curve before c after =
      let z : 0 + length before ≡ length before = omega arith in
      rw (records_of_law (before ++ c ∷ after)) (rw z at (curve_counts 0 before c after))

-- ---- sums
zero_sum : (f : ℕ → ℕ) → ((k : ℕ) → f k ≡ 0) → (n : ℕ) → sum_to f n ≡ 0
unfolding sum_to
zero_sum f e zero = refl
zero_sum f e (suc n) = ap₂ ◌+◌ (zero_sum f e n) (e n)

-- two that differ in one place alone, where the second is 0
one_apart : (f g : ℕ → ℕ) (s : ℕ) → ((k : ℕ) → (k ≡ s → ⊥) → f k ≡ g k) → g s ≡ 0 → (n : ℕ) → s < n → sum_to f n ≡ f s + sum_to g n
unfolding sum_to
one_apart f g s e z zero h = absurd (omega arith)
one_apart f g s e z (suc n) h = ⊎_elim
    (λ q. let a = sum_same f g n (λ k l. e k (λ r. omega arith)) in rw (← q) (rw (← q) at (ap (λ x. x + f n) a) ∙ last (sum_to g s) (f s) (g s) z))
    (λ q. ap₂ ◌+◌ (one_apart f g s e z n q) (e n (λ r. omega arith)) ∙ regrouped (f s) (sum_to g n) (g n))
    (eq-or-lt_of_le (le_of_suc-le-suc h))
  where
    last : (x y w : ℕ) → w ≡ 0 → x + y ≡ y + (x + w)
    last x y w p = omega arith

    regrouped : (x y w : ℕ) → x + y + w ≡ x + (y + w)
    regrouped x y w = omega arith

-- ---- what the numbers cost is what the curves cost
module _ (σ : Setting) (T : ℤ) where
  from_number : (cs : List Curve) (s n : ℕ) → s + length cs ≤ n
      → sum_to (λ k. price (count_to σ (all_records σ T s cs) k (ends_in σ T cs))) n ≡ curve_costs σ T cs
  unfolding count_to curve_costs
  from_number [] s n h = zero_sum (λ k. price (count_to σ (all_records σ T s []) k 0)) (λ k. refl) n
  from_number (c ∷ cs) s n h =
      let f : ℕ → ℕ = λ k. price (count_to σ (all_records σ T s (c ∷ cs)) k (ends_in σ T (c ∷ cs))) in
      let g : ℕ → ℕ = λ k. price (count_to σ (all_records σ T (suc s) cs) k (ends_in σ T cs)) in
      let here : count_to σ (all_records σ T s (c ∷ cs)) s (ends_in σ T (c ∷ cs)) ≡ length (ends_of σ T c) =
      all_counts σ T s s c cs ∙ ap₂ ◌+◌ (own_counts σ s c (ends_of σ T c)) (low_counts σ T (suc s) s cs (omega arith)) ∙ omega arith in
      one_apart f g s (λ k e. ap price (elsewhere k e)) (ap price (low_counts σ T (suc s) s cs (omega arith))) n (omega arith)
      ∙ ap₂ ◌+◌ (ap price here) (from_number cs (suc s) n (omega arith))
    where
      elsewhere : (k : ℕ) → (k ≡ s → ⊥)
          → count_to σ (all_records σ T s (c ∷ cs)) k (ends_in σ T (c ∷ cs)) ≡ count_to σ (all_records σ T (suc s) cs) k (ends_in σ T cs)
      elsewhere k e =
          all_counts σ T s k c cs
          ∙ ap (λ x. x + count_to σ (all_records σ T (suc s) cs) k (ends_in σ T cs)) (other_counts σ s c k e (ends_of σ T c)) ∙ omega arith

  pub costs_of_curves : (cs : List Curve) → length cs ≤ σ.most → costs σ (all_records σ T 0 cs) ≡ curve_costs σ T cs
  costs_of_curves cs h =
      ap (λ r. sum_to (λ k. price (count_to σ (all_records σ T 0 cs) k r)) σ.most) (records_of_law σ T cs)
      ∙ from_number cs 0 σ.most (omega arith)
