-- How many numbers a record has and some records have; records one after the other.
use mathlib.Core.Path.{◌≡◌, sym, ◌∙◌, ap, ap₂}
use mathlib.Core.List.{List, [], ◌∷◌, ◌++◌, append_assoc, append-nil}
use mathlib.Core.Logic.{⊎_elim}
use Prim.Native.Nat.{ℕ, suc, ◌+◌, ◌-◌, ◌*◌, ◌≤◌, ◌<◌}
use native.Mathlib.Nat.{mul-le-mul_left}
use native.Mathlib.Omega.{arith}
use lib.ListN.{length, length-append}
use Rattle.integers.proofs.Order.{lt_or_ge}
use Rattle.setting.specs.Setting.{Setting, break_points, record_length}
use Rattle.curve_nodes.specs.declared.Curve.{Curve}
use Rattle.curve_nodes.specs.Nodes.{depth, node_curve}
use Rattle.band_records.specs.Records.{record_of, records_of}
use Rattle.band_records.proofs.Writing.{boxes_length}

-- record i of m has its places among those of the m records
pub in_records : (l i m p : ℕ) → i < m → p < l → l * i + p < l * m
in_records l i m p h hp = omega (arith, mul-le-mul_left l h)

pub below_records : (l i m : ℕ) → l * i < l * m → i < m
below_records l i m h = ⊎_elim (λ b. b) (λ b. absurd (omega (arith, h, mul-le-mul_left l b))) (lt_or_ge i m)

pub behind_records : (l i m : ℕ) → m ≤ i → l * i ≡ l * m + l * (i - m)
behind_records l i m h = ap (λ n. l * n) {x = i} {y = m + (i - m)} (omega arith) ∙ out m (i - m)
  where
    out : (a b : ℕ) → l * (a + b) ≡ l * a + l * b
    out a b = omega arith

pub record_length_law : (σ : Setting) (k : ℕ) (c : Curve) (n : ℕ) → length (record_of σ k c n) ≡ record_length σ
unfolding record_of
record_length_law σ k c n = omega (arith, boxes_length σ (break_points σ) (depth n) (node_curve c n))

pub records_length : (σ : Setting) (k : ℕ) (c : Curve) (ns : List ℕ) → length (records_of σ k c ns) ≡ record_length σ * length ns
unfolding records_of
records_length σ k c [] = omega arith
records_length σ k c (n ∷ ns) =
    length-append (record_of σ k c n) (records_of σ k c ns) ∙ ap₂ ◌+◌ (record_length_law σ k c n) (records_length σ k c ns)
    ∙ more (record_length σ) (length ns)
  where
    more : (l m : ℕ) → l + l * m ≡ l * suc m
    more l m = omega arith

pub records_snoc : (σ : Setting) (k : ℕ) (c : Curve) (ns : List ℕ) (n : ℕ) → records_of σ k c (ns ++ n ∷ []) ≡ records_of σ k c ns ++ record_of σ k c n
unfolding records_of
records_snoc σ k c [] n = append-nil (record_of σ k c n)
records_snoc σ k c (m ∷ ns) n =
    ap (λ l. record_of σ k c m ++ l) (records_snoc σ k c ns n) ∙ sym (append_assoc (record_of σ k c m) (records_of σ k c ns) (record_of σ k c n))
