-- Judging refuses nothing where demand 3 speaks of it: the records that banding wrote pass checks 9 and 10, and a point of a curve passes check 11.
use mathlib.Core.Path.{◌≡◌, refl, ◌∙◌, ap, subst, subst₂}
use mathlib.Core.Bool.{true}
use mathlib.Core.List.{List, [], ◌∷◌}
use mathlib.Core.Option.{none}
use Prim.Native.Nat.{ℕ, zero, suc, ◌+◌, ◌*◌, ◌/◌, ◌%◌, ◌<◌}
use native.Mathlib.Nat.{zero-add, div-add-mod, mul-mod_right}
use native.Mathlib.Omega.{arith}
use lib.Dec.{eqb-suc-zero}
use lib.ListN.{length}
use lib.IntN.{ℤ, pos, neg_ℤ, ◌*ℤ◌, pow}
use lib.Signed.{◌≤ℤ◌, ◌<ℤ◌}
use Rattle.integers.specs.Entry.{entry}
use Rattle.integers.proofs.Ring.{sides}
use Rattle.integers.proofs.Order.{gap, gap<, natural, balance, le_by, pos_le, pos_lt, pow_positive, times_positive, *ℤ_cancel, ◌+₀◌, ◌×₀◌}
use Rattle.integers.proofs.Ranges.{yes_le, yes_lt}
use Rattle.integers.proofs.First.{bad_none}
use Rattle.curve_bernstein.specs.Value.{value}
use Rattle.curve_halves.specs.Sizes.{Each}
use Rattle.curve_nodes.specs.Points.{scaled, sixteenths}
use Rattle.curve_nodes.proofs.Values.{value_high, value_low}
use Rattle.boxes.specs.Ranges.{farthest, in_range, low_fine, box_number_fine}
use Rattle.setting.specs.Setting.{Setting, HasRows, record_length}
use Rattle.setting.proofs.Pieces.{has_rows_fine}
use Rattle.boxes.proofs.Faults.{interval_low, interval_high}
use Rattle.boxes.proofs.Records.{place_below, record_below}
use Rattle.band_records.specs.Ranges.{SoundRecord, SoundList}
use Rattle.band_records.proofs.Sound.{each_side}
use Rattle.judge_list.specs.Checks.{length_fine, number_fine, number_fault}
use Rattle.judge.specs.Judging.{point_fault, list_fault, judging_fault}

-- ---- 9
module _ (σ : Setting) where
  fine_length : (n : ℕ) → 0 < n → n % record_length σ ≡ 0 → length_fine σ n ≡ true
  fine_length zero h e = absurd (omega arith)
  fine_length (suc m) h e = rw (eqb-suc-zero m, e)

  pub length_fine_law : (n records : ℕ) → 0 < records → n ≡ record_length σ * records → length_fine σ n ≡ true
  length_fine_law n records some e =
      fine_length n (omega (arith, e, some)) (ap (λ k. k % record_length σ) e ∙ mul-mod_right (record_length σ) records)

-- ---- 10
module _ {σ : Setting} {number : ℕ → ℤ} (s : SoundRecord σ number) where
  -- place p of the boxes, which stand behind the curve and the node; its remainder tells a low from a high
  box_number_law : (p b : ℕ) → p % 2 ≡ b → suc (suc p) < record_length σ
      → box_number_fine p (number (suc (suc p))) (number (suc (suc (suc p)))) ≡ true
  box_number_law p zero e h = rw (e, box_number_fine)
      (subst₂ (λ i j. low_fine (number i) (number j) ≡ true) {x = 2 * (p / 2) + 2} {y = suc (suc p)} {u = 2 * (p / 2) + 3} {v = suc (suc (suc p))}
      (omega arith) (omega arith) (interval_low (each_side s (p / 2) (omega arith))))
  box_number_law p (suc b) e h = rw (e, box_number_fine) (subst (λ i. in_range (number i) ≡ true) {x = 2 * (p / 2) + 3} {y = suc (suc p)} (omega arith)
      (interval_high (each_side s (p / 2) (omega arith))))

  each_fine : (p : ℕ) → p < record_length σ → number_fine σ.most p (number p) (number (suc p)) ≡ true
  each_fine zero h = rw (yes_le s.curve_from, yes_lt s.curve_below)
  each_fine (suc zero) h = rw (yes_le s.node_from, yes_le s.node_to)
  each_fine (suc (suc p)) h = box_number_law p (p % 2) refl h

pub no_bad_number : {σ : Setting} {n : ℕ} {rs : List ℤ} → SoundList σ n rs → number_fault σ rs ≡ none
unfolding number_fault
no_bad_number {σ} {n} {rs} l = bad_none (λ i. number_fine σ.most (i % record_length σ) (entry rs i) (entry rs (suc i))) (length rs) 0 (λ i h.
    let L = record_length σ in
    let k = i / L in
    let p = i % L in
    let j : i < L * n = omega (arith, h, l.whole) in
    let e = div-add-mod i L in
    rw zero-add
    (subst₂ (λ a b. number_fine σ.most p (entry rs a) (entry rs b) ≡ true) {x = L * k + p} {y = i} {u = L * k + suc p} {v = suc i}
    e (omega (arith, e)) (each_fine (l.each k (record_below L n j)) p (place_below L n j))))

-- ---- 11: a coordinate of a point that equals a curve is within 16 · 2^20, whatever the scale s
pub coordinate_fine_law : (s : ℕ) → 0 < s → (d : ℕ) (cs : List ℤ) → Each 1048576 cs → (p r : ℕ) → 0 < p + r → (z : ℤ)
    → scaled s d p r z ≡ sixteenths d p r cs → in_range z ≡ true
coordinate_fine_law s hs d cs each p r some z e =
    let w = pow (pos (p + r)) d in
    let v = value (pos p) (pos r) d cs in
    let positive = pow_positive (pos_lt some) d in
    let k : pos 0 <ℤ (pos s *ℤ w) = times_positive (pos_lt hs) positive in
    let more = natural 536870912 ×₀ gap (pos_le hs) ×₀ (gap< positive +₀ natural 1) +₀ natural 520093696 ×₀ gap< positive +₀ natural 520093696 in
    let low : neg_ℤ (pos farthest) ≤ℤ z = *ℤ_cancel k (le_by (pos s ∷ w ∷ v ∷ z ∷ [])
    (natural 16 ×₀ gap (value_low p r 1048576 d cs each) +₀ balance (pos 1) e +₀ more)
    (search sides depth 20) refl) in
    let high : z ≤ℤ pos farthest = *ℤ_cancel k (le_by (pos s ∷ w ∷ v ∷ z ∷ [])
    (natural 16 ×₀ gap (value_high p r 1048576 d cs each) +₀ balance (neg_ℤ (pos 1)) e +₀ more)
    (search sides depth 20) refl) in
    rw (yes_le low, yes_le high)

-- ---- all of them, with 18
pub none_refused : (σ : Setting) → HasRows σ.pieces → {n : ℕ} {rs : List ℤ} → 0 < n → SoundList σ n rs
    → (x y : ℤ) → in_range x ≡ true → in_range y ≡ true → judging_fault σ rs x y ≡ none
unfolding judging_fault
none_refused σ rows {n} {rs} some sound x y fx fy = rw (
  judging_fault,
  list_fault,
  has_rows_fine σ.pieces rows,
  length_fine_law σ (length rs) n some sound.whole,
  no_bad_number sound,
  point_fault,
  fx,
  fy,
)
