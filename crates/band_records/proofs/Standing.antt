-- Which record stands where in the list of all records: record i is that of an end of some curve, and every end of every curve has its record.
use mathlib.Core.Path.{◌≡◌, refl, ◌∙◌, ap, subst}
use mathlib.Core.Logic.{⊎_elim}
use mathlib.Core.List.Memᴰ
use mathlib.Core.List.{List, [], ◌∷◌, ◌++◌, Memᴰ}
use Prim.Native.Nat.{ℕ, zero, suc, ◌+◌, ◌*◌, ◌-◌, ◌≤◌, ◌<◌}
use native.Mathlib.Omega.{arith}
use lib.ListN.{length, length-append, get_or-append}
use lib.Seq.{get_or-append-add}
use lib.IntN.{ℤ, pos}
use Rattle.integers.specs.Entry.{entry}
use Rattle.integers.proofs.Order.{lt_or_ge}
use Rattle.curve_nodes.specs.declared.Curve.{Curve}
use Rattle.walk_curve.specs.Walked.{ends_of}
use Rattle.setting.specs.Setting.{Setting, record_length}
use Rattle.band_records.specs.Records.{record_of, records_of, all_records}
use Rattle.band_records.proofs.Lengths.{in_records, below_records, behind_records, record_length_law, records_length}

-- record i of the list has the numbers of r
pub record Stands (σ : Setting) (rs : List ℤ) (i : ℕ) (r : List ℤ) : Type 0 where
  pub inside : record_length σ * i < length rs
  pub number : (p : ℕ) → p < record_length σ → entry rs (record_length σ * i + p) ≡ entry r p

-- a record of the list, wherever it stands
pub record Found (σ : Setting) (rs r : List ℤ) : Type 0 where
  pub place : ℕ
  pub stands : Stands σ rs place r

-- ---- in two lists, one behind the other; the first has m records
module _ (σ : Setting) (a b : List ℤ) (m : ℕ) (whole : length a ≡ record_length σ * m) {i : ℕ} {r : List ℤ} where
  in_first : Stands σ a i r → Stands σ (a ++ b) i r
  in_first s = record {
    inside = omega (arith, length-append a b, s.inside);
    number = λ p h. get_or-append a b (pos 0) (record_length σ * i + p)
        (omega (arith, whole, in_records (record_length σ) i m p (below_records (record_length σ) i m (omega (arith, whole, s.inside))) h))
        ∙ s.number p h;
  }

  in_second : Stands σ b i r → Stands σ (a ++ b) (m + i) r
  in_second s = record {
    inside = omega (arith, length-append a b, s.inside);
    number = λ p h.
        ap (entry (a ++ b)) {x = record_length σ * (m + i) + p} {y = length a + (record_length σ * i + p)} (omega arith)
        ∙ get_or-append-add a b (record_length σ * i + p) (pos 0) ∙ s.number p h;
  }

-- ---- the records of some nodes of one curve
one_record : (σ : Setting) (k : ℕ) (c : Curve) (n : ℕ) → length (record_of σ k c n) ≡ record_length σ * 1
one_record σ k c n = omega (arith, record_length_law σ k c n)

module _ (σ : Setting) (k : ℕ) (c : Curve) where
  first_stands : (n : ℕ) (ns : List ℕ) → Stands σ (records_of σ k c (n ∷ ns)) 0 (record_of σ k c n)
  unfolding records_of
  first_stands n ns = in_first σ (record_of σ k c n) (records_of σ k c ns) 1 (one_record σ k c n)
      (record {
        inside = omega (arith, record_length_law σ k c n);
        number = λ p h. ap (entry (record_of σ k c n)) {x = record_length σ * 0 + p} {y = p} (omega arith);
      })

  next_stands : (n : ℕ) (ns : List ℕ) {i : ℕ} {r : List ℤ} → Stands σ (records_of σ k c ns) i r → Stands σ (records_of σ k c (n ∷ ns)) (suc i) r
  unfolding records_of
  next_stands n ns {i} {r} s = subst (λ j. Stands σ (records_of σ k c (n ∷ ns)) j r) {x = 1 + i} {y = suc i} (omega arith)
      (in_second σ (record_of σ k c n) (records_of σ k c ns) 1 (one_record σ k c n) s)

  node_stands : (ns : List ℕ) (n : ℕ) → Memᴰ n ns → Found σ (records_of σ k c ns) (record_of σ k c n)
  node_stands [] n h = absurd (Memᴰ.not-nil h)
  node_stands (m ∷ ns) n h = ⊎_elim
      (λ e. record { place = 0; stands = rw e (first_stands m ns) })
      (λ t. let s = node_stands ns n t in record { place = suc s.place; stands = next_stands m ns s.stands })
      (Memᴰ.cases_cons h)

  node_of : (ns : List ℕ) (i : ℕ) → i < length ns → (n : ℕ) × Memᴰ n ns × Stands σ (records_of σ k c ns) i (record_of σ k c n)
  node_of [] i h = absurd (omega arith)
  node_of (n ∷ ns) zero h = (n, Memᴰ.head refl, first_stands n ns)
  node_of (n ∷ ns) (suc i) h = let s = node_of ns i (omega arith) in (s.0, Memᴰ.tail s.1, next_stands n ns s.2)

-- ---- the records of all curves, numbered from k on
-- record i is that of an end of one of the curves
pub record OfCurve (σ : Setting) (T : ℤ) (k : ℕ) (cs : List Curve) (i : ℕ) : Type 0 where
  pub before : List Curve
  pub curve : Curve
  pub after : List Curve
  pub split : cs ≡ before ++ curve ∷ after
  pub node : ℕ
  pub end : Memᴰ node (ends_of σ T curve)
  pub stands : Stands σ (all_records σ T k cs) i (record_of σ (k + length before) curve node)

module _ (σ : Setting) (T : ℤ) where
  whole : (k : ℕ) (c : Curve) → length (records_of σ k c (ends_of σ T c)) ≡ record_length σ * length (ends_of σ T c)
  whole k c = records_length σ k c (ends_of σ T c)

  pub every_end_stands : (k : ℕ) (before : List Curve) (c : Curve) (after : List Curve) (n : ℕ) → Memᴰ n (ends_of σ T c)
      → Found σ (all_records σ T k (before ++ c ∷ after)) (record_of σ (k + length before) c n)
  unfolding all_records
  every_end_stands k [] c after n h =
      let s = node_stands σ k c (ends_of σ T c) n h in
      let e : k + 0 ≡ k = omega arith in
      record {
        place = s.place;
        stands = rw e (in_first σ (records_of σ k c (ends_of σ T c)) (all_records σ T (suc k) after) (length (ends_of σ T c)) (whole k c) s.stands);
      }
  every_end_stands k (b ∷ before) c after n h =
      let s = every_end_stands (suc k) before c after n h in
      let e : k + suc (length before) ≡ suc k + length before = omega arith in
      record {
        place = length (ends_of σ T b) + s.place;
        stands = rw e (in_second σ (records_of σ k b (ends_of σ T b)) (all_records σ T (suc k) (before ++ c ∷ after)) (length (ends_of σ T b)) (whole k b)
            s.stands);
      }

  of_first : (k : ℕ) (c : Curve) (cs : List Curve) (i : ℕ) → i < length (ends_of σ T c) → OfCurve σ T k (c ∷ cs) i
  unfolding all_records
  of_first k c cs i h =
      let s = node_of σ k c (ends_of σ T c) i h in
      let e : k + 0 ≡ k = omega arith in
      record {
        before = [];
        curve = c;
        after = cs;
        split = refl;
        node = s.0;
        end = s.1;
        stands = rw e (in_first σ (records_of σ k c (ends_of σ T c)) (all_records σ T (suc k) cs) (length (ends_of σ T c)) (whole k c) s.2);
      }

  of_rest : (k : ℕ) (c : Curve) (cs : List Curve) (i : ℕ) → OfCurve σ T (suc k) cs i → OfCurve σ T k (c ∷ cs) (length (ends_of σ T c) + i)
  unfolding all_records
  of_rest k c cs i s =
      let e : k + suc (length s.before) ≡ suc k + length s.before = omega arith in
      record {
        before = c ∷ s.before;
        curve = s.curve;
        after = s.after;
        split = ap (λ l. c ∷ l) s.split;
        node = s.node;
        end = s.end;
        stands = rw e (in_second σ (records_of σ k c (ends_of σ T c)) (all_records σ T (suc k) cs) (length (ends_of σ T c)) (whole k c) s.stands);
      }

  pub every_record_stands : (k : ℕ) (cs : List Curve) (i : ℕ) → record_length σ * i < length (all_records σ T k cs) → OfCurve σ T k cs i
  unfolding all_records
  every_record_stands k [] i h = absurd (omega arith)
  every_record_stands k (c ∷ cs) i h =
      let m = length (ends_of σ T c) in
      let l = length-append (records_of σ k c (ends_of σ T c)) (all_records σ T (suc k) cs) in
      ⊎_elim
      (of_first k c cs i)
      (λ (g : m ≤ i). subst (OfCurve σ T k (c ∷ cs)) {x = m + (i - m)} {y = i} (omega arith)
      (of_rest k c cs (i - m) (every_record_stands (suc k) cs (i - m) (omega (arith, h, l, whole k c, behind_records (record_length σ) i m g)))))
      (lt_or_ge i m)
