-- How large the numbers of a decision are: `search sizes`; and that what is picked or cut from small weights is small.
use mathlib.Core.Path.{◌≡◌, sym, ◌∙◌, ap}
use mathlib.Core.Bool.{Bool, true, false}
use Prim.Native.Nat.{ℕ, ◌^◌, ◌≤◌}
use native.Mathlib.Nat.{le_trans, le_of_eq, add-le-add}
use lib.Dec.{lit≤}
use lib.IntN.{ℤ, pos, neg_ℤ, nat_abs, ◌-ℤ◌}
use lib.Signed.{lt_z}
use mir.Syntax.{w32, w64}
use mir.Val.{SFits}
use mir.Facts.{to_z-of_z}
use Rattle.boxes.specs.Ranges.{farthest}
use Rattle.integers.proofs.Ranges.{stored}
use Rattle.integers.proofs.Size.{Size, abs_neg, abs_add, fits_size}
use Rattle.integers.proofs.Machine.{tests}
use Rattle.judge_cover.specs.declared.held.Weights.{Weights}
use Rattle.judge_cover.specs.declared.held.Range.{Range}
use Rattle.judge_cover.specs.declared.held.Sides.{Sides}
use Rattle.judge_cover.specs.Deciding.{ordered, later, earlier, sides_of, apart, cut, cut_sides, whole}
use Rattle.judge_cover.specs.Inside.{SmallWeights, SmallRange, SmallSides, SpanInRange}

module _ {w : Weights} (h : SmallWeights w) where
  abbrev pub size_first : Size w.first
  size_first = record { bound = 2 ^ 30; under = h.first }

  abbrev pub size_second : Size w.second
  size_second = record { bound = 2 ^ 30; under = h.second }

module _ {low high : ℤ} (h : SpanInRange low high) where
  abbrev pub size_low : Size low
  size_low = record { bound = farthest; under = h.low }

  abbrev pub size_high : Size high
  size_high = record { bound = farthest; under = h.high }

module _ {s : Sides} (h : SmallSides s) where
  abbrev pub size_low_first : Size s.low_first
  size_low_first = record { bound = 2 ^ 30; under = h.low_first }

  abbrev pub size_low_second : Size s.low_second
  size_low_second = record { bound = 2 ^ 30; under = h.low_second }

  abbrev pub size_high_first : Size s.high_first
  size_high_first = record { bound = 2 ^ 30; under = h.high_first }

  abbrev pub size_high_second : Size s.high_second
  size_high_second = record { bound = 2 ^ 30; under = h.high_second }

pub record Small (B : ℕ) (z : ℤ) : Type 0 where
  pub small : nat_abs z ≤ B

abbrev pub size_small : {B : ℕ} {z : ℤ} → Small B z → Size z
size_small {B} s = record { bound = B; under = s.small }

pub ruleset sizes =
    (size_first, size_second, size_low, size_high, size_low_first, size_low_second, size_high_first, size_high_second, size_small, tests)

-- ---- a small number is what the machine keeps of it
pub kept : (z : ℤ) → nat_abs z ≤ 2 ^ 30 → stored w64 z ≡ z
kept z h = to_z-of_z {w = w64} (fits_size (record { bound = 2 ^ 30; under = h }) tt)

kept_in : (z : ℤ) → nat_abs z ≤ farthest → stored w32 z ≡ z
kept_in z h = to_z-of_z {w = w32} (fits_size (record { bound = farthest; under = h }) tt)

-- ---- what is picked or cut is small
pick_small : {p q : Weights} → SmallWeights p → SmallWeights q → (b : Bool) → SmallWeights (elim b [ true ↦ p | false ↦ q ])
pick_small hp hq true = hp
pick_small hp hq false = hq

pub later_small : {p q : Weights} → SmallWeights p → SmallWeights q → SmallWeights (later p q)
later_small {p} {q} hp hq = pick_small hq hp (ordered p q)

pub earlier_small : {p q : Weights} → SmallWeights p → SmallWeights q → SmallWeights (earlier p q)
earlier_small {p} {q} hp hq = pick_small hp hq (ordered p q)

pub turned : (a : ℤ) → nat_abs a ≤ 2 ^ 30 → nat_abs (pos 0 -ℤ a) ≤ 2 ^ 30
turned a h = le_trans (abs_add (pos 0) (neg_ℤ a)) (add-le-add {b = 0} (lit≤ tt) (le_trans (le_of_eq (abs_neg a)) h))

-- the edge of a side, as the machine keeps it
abbrev pub weights : ℤ → ℤ → Weights
weights a b = record { first = a; second = b }

weights_are : {a b c d : ℤ} → a ≡ c → b ≡ d → weights a b ≡ weights c d
weights_are e f = λ i. weights (e i) (f i)

kept_turned : (a : ℤ) → nat_abs a ≤ 2 ^ 30 → stored w64 (pos 0 -ℤ stored w64 a) ≡ pos 0 -ℤ a
kept_turned a h = ap (λ z. stored w64 (pos 0 -ℤ z)) (kept a h) ∙ kept (pos 0 -ℤ a) (turned a h)

module _ (a b : ℤ) (ha : nat_abs a ≤ 2 ^ 30) (hb : nat_abs b ≤ 2 ^ 30) where
  pub edge_low : weights (stored w64 b) (stored w64 (pos 0 -ℤ stored w64 a)) ≡ weights b (pos 0 -ℤ a)
  edge_low = weights_are (kept b hb) (kept_turned a ha)

  pub edge_high : weights (stored w64 (pos 0 -ℤ stored w64 b)) (stored w64 a) ≡ weights (pos 0 -ℤ b) a
  edge_high = weights_are (kept_turned b hb) (kept a ha)

pub cut_small : (r : Range) (a b : ℤ) → SmallRange r → nat_abs a ≤ 2 ^ 30 → nat_abs b ≤ 2 ^ 30 → SmallRange (cut r a b)
cut_small r a b h ha hb = go (lt_z a (pos 0)) (lt_z b (pos 0))
  where
    go : (s t : Bool) → SmallRange (elim s [
      | true ↦ record { low = later r.low (record { first = b; second = pos 0 -ℤ a }); high = r.high }
      | false ↦ elim t [ true ↦ record { low = r.low; high = earlier r.high (record { first = pos 0 -ℤ b; second = a }) } | false ↦ r ]
    ])
    go true t = record { low = later_small h.low (record { first = hb; second = turned a ha }); high = h.high }
    go false true = record { low = h.low; high = earlier_small h.high (record { first = turned b hb; second = ha }) }
    go false false = h

pub sides_small : (r : Range) (s : Sides) → SmallRange r → SmallSides s → SmallRange (cut_sides r s)
sides_small r s h k =
    cut_small (cut r s.low_first s.low_second) s.high_first s.high_second
    (cut_small r s.low_first s.low_second h k.low_first k.low_second) k.high_first k.high_second

pub whole_small : SmallRange whole
whole_small = record { low = record { first = lit≤ tt; second = lit≤ tt }; high = record { first = lit≤ tt; second = lit≤ tt } }

-- ---- the sides of small numbers are small
apart_small : (a b : ℤ) → nat_abs a ≤ farthest → nat_abs b ≤ farthest → nat_abs (a -ℤ b) ≤ 2 ^ 30
apart_small a b ha hb = le_trans (abs_add a (neg_ℤ b)) (add-le-add ha (le_trans (le_of_eq (abs_neg b)) hb))

sides_small_of : {l h l₁ h₁ : ℤ} (z : ℤ) → SpanInRange l h → SpanInRange l₁ h₁ → nat_abs z ≤ farthest → SmallSides (sides_of l h l₁ h₁ z)
sides_small_of {l} {h} {l₁} {h₁} z p q e = record {
  low_first = apart_small z l e p.low;
  low_second = apart_small z l₁ e q.low;
  high_first = apart_small h z p.high e;
  high_second = apart_small h₁ z q.high e;
}

-- and what the machine keeps of the numbers does not change them
sides_kept : {l h l₁ h₁ : ℤ} (z : ℤ) → SpanInRange l h → SpanInRange l₁ h₁
    → sides_of (stored w32 l) (stored w32 h) (stored w32 l₁) (stored w32 h₁) z ≡ sides_of l h l₁ h₁ z
sides_kept {l} {h} {l₁} {h₁} z p q = rw (kept_in l p.low, kept_in h p.high, kept_in l₁ q.low, kept_in h₁ q.high)

-- ---- the sides r of a coordinate z, as code has computed them
pub record Seen (r sides : Sides) : Type 0 where
  pub is : r ≡ sides
  pub small : SmallSides r

pub seen : {l h l₁ h₁ z : ℤ} → SFits w64 z → SpanInRange l h → SpanInRange l₁ h₁ → nat_abs z ≤ farthest → {r : Sides}
    → r ≡ sides_of (stored w32 l) (stored w32 h) (stored w32 l₁) (stored w32 h₁) (stored w64 z) → Seen r (sides_of l h l₁ h₁ z)
seen {z} fits p q near e =
    let f = (rw (to_z-of_z fits) at e) ∙ sides_kept z p q in
    record { is = f; small = rw f (sides_small_of z p q near) }

pub apart_seen : {r sides : Sides} → Seen r sides → {a t : Bool} → a ≡ apart r → a ≡ t → apart sides ≡ t
apart_seen s e f = ap apart (sym s.is) ∙ sym e ∙ f
