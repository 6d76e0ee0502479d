-- Putting rows into a list: numbers one after the other, and one row after the other.
use mathlib.Core.Path.{◌≡◌, refl, sym, ◌∙◌, ap, ap₂}
use mathlib.Core.Bool.{Bool, true, false, cond}
use mathlib.Core.List.{List}
use mathlib.Core.Logic.{⊎_elim}
use Prim.Native.Nat.{ℕ, zero, suc, ◌+◌, ◌*◌, ◌-◌, ◌/◌, ◌%◌, ◌≤◌, ◌<◌, zero-le, suc-le-suc}
use native.Mathlib.Nat.{le_refl, le_trans, le_of_eq, mul-le-mul, eq-or-lt_of_le, lt_irrefl, le_of_suc-le-suc, not-suc-le-zero}
use native.Mathlib.Nat.{mul-le-mul_left, mul_comm, add-mul, suc-mul}
use borrow.Author.Tests.{lt-ltb}
use native.Mathlib.Omega.{arith}
use lib.Dec.{eqb, ltb, lit≤}
use lib.ListN.{length, set, replicate, length-set}
use lib.Seq.{get_or-set_same, get_or-set_other}
use lib.IntN.{ℤ, pos, nat_abs, ◌*ℤ◌}
use mir.Syntax.{w64}
use mir.Val.{to_z}
use mir.Facts.{to_z_pos}
use Rattle.setting.specs.Setting.{HasRows, most_degree, degree_pieces}
use Rattle.setting.proofs.Pieces.{degree_takes}
use Rattle.integers.specs.Entry.{entry}
use Rattle.integers.proofs.Order.{cond_cases, lt_or_ge}
use Rattle.integers.proofs.Size.{abs_mul}
use Rattle.curve_halves.specs.Sizes.{Each}
use Rattle.bound_rows.specs.Rows.{Row, row_at}
use Rattle.bound_rows.specs.Table.{table, fewer, start_of, row_from, rows_at, rows_of}
use Rattle.bound_row_table.specs.Inside.{blocks_of, row_place, triple_at, copied_number, Put, PutRows, Copied}
use Rattle.bound_row_table.proofs.Entries.{entries_entry, table_entry_small, first_entry_small}

-- the entries of fewer pieces, of one second difference
pub fewer_small : {m : ℕ} → HasRows m → fewer m ≤ 70
fewer_small {m} h =
    let a : m - 1 ≤ 7 = omega arith in
    let b : m + 2 ≤ 10 = omega arith in
    mul-le-mul a b

pub fewer_some : {m : ℕ} → 3 ≤ m → 10 ≤ fewer m
fewer_some {m} h =
    let a : 2 ≤ m - 1 = omega arith in
    let b : 5 ≤ m + 2 = omega arith in
    mul-le-mul a b

-- a list filled with the number of pieces, as the code holds it
pub filled : {m : ℕ} → HasRows m → (n : ℕ) → Each (5000 * m) (replicate n (to_z w64 m))
filled {m} h n = record { under = each n }
  where
    small : nat_abs (to_z w64 m) ≤ 5000 * m
    small = let e : to_z w64 m ≡ pos m = to_z_pos w64 (omega (arith, h.most)) in rw e (omega arith)

    each : (n j : ℕ) → nat_abs (entry (replicate n (to_z w64 m)) j) ≤ 5000 * m
    each zero j = zero-le
    each (suc n) zero = small
    each (suc n) (suc j) = each n j

-- ---- numbers, one after the other
pub put_none : {at : ℕ} {number : ℕ → ℤ} {l : List ℤ} → Put at 0 number l l
put_none = record { here = λ p b. absurd (omega arith); earlier = λ p b. refl; later = λ p b. refl; whole = refl }

module _ {at : ℕ} {number : ℕ → ℤ} {l l' : List ℤ} where
  -- one more
  pub put_more : (n : ℕ) {more p : ℕ} {z : ℤ} → more ≡ n + 1 → p ≡ at + n → p < length l → z ≡ number n → Put at n number l l'
      → Put at more number l (set l' p z)
  put_more n {p = p} {z} next place inside is h = record {
    here = λ q b. ⊎_elim
        (λ e. ap (entry (set l' p z)) (omega arith) ∙ get_or-set_same l' p z (pos 0) (omega arith) ∙ is ∙ ap number (sym e))
        (λ b'. other (at + q) (λ e. lt_irrefl p (omega arith)) ∙ h.here q b')
        (eq-or-lt_of_le (le_of_suc-le-suc (omega arith)));
    earlier = λ q b. other q (λ e. lt_irrefl p (omega arith)) ∙ h.earlier q b;
    later = λ q b. other q (λ e. lt_irrefl p (omega arith)) ∙ h.later q (omega arith);
    whole = length-set l' p z ∙ h.whole;
  }
    where
      other : (q : ℕ) → (q ≡ p → ⊥) → entry (set l' p z) q ≡ entry l' q
      other q ne = get_or-set_other l' p q z (pos 0) ne

  -- small numbers, into a list of such
  pub put_small : {B n : ℕ} → ((p : ℕ) → p < n → nat_abs (number p) ≤ B) → Put at n number l l' → Each B l → Each B l'
  put_small {B} {n} small h each = record { under = λ q. ⊎_elim (λ b. rw (h.earlier q b) (each.under q)) (inside q) (lt_or_ge q at) }
    where
      inside : (q : ℕ) → at ≤ q → nat_abs (entry l' q) ≤ B
      inside q a = ⊎_elim
          (λ b. let e : q ≡ at + (q - at) = omega arith in rw (e, h.here (q - at) (omega arith)) (small (q - at) (omega arith)))
          (λ b. rw (h.later q b) (each.under q))
          (lt_or_ge q (at + n))

-- ---- the numbers of a row, three a break point
number_at : (m : ℕ) (ρ : Row) {p : ℕ} (i j : ℕ) → p ≡ 3 * i + j → j < 3 → copied_number m ρ p ≡ pos m *ℤ triple_at ρ i j
number_at m ρ {p} i j e h =
    let f : p / 3 ≡ i = omega arith in
    let g : p % 3 ≡ j = omega arith in
    ap₂ (λ i j. pos m *ℤ triple_at ρ i j) f g

module _ (m from : ℕ) where
  triple_entry : (i j : ℕ) → i ≤ m
      → triple_at (row_from m from) i j ≡ cond (eqb j 1) (entry table (from + (m + 1) + i)) (entry table (from + i))
  triple_entry i j hi =
      let b : i < m + 1 = omega arith in
      ap₂ (cond (eqb j 1)) (entries_entry (from + (m + 1)) (m + 1) i b) (entries_entry from (m + 1) i b)

  -- from a list that is the table
  module _ {t : List ℤ} (e : t ≡ table) where
    number_is : (i j : ℕ) {p : ℕ} → i ≤ m → j < 3 → p ≡ 3 * i + j
        → pos m *ℤ cond (eqb j 1) (entry t (from + (m + 1) + i)) (entry t (from + i)) ≡ copied_number m (row_from m from) p
    number_is i j hi hj place =
        rw e (ap (λ x. pos m *ℤ x) (sym (triple_entry i j hi)) ∙ sym (number_at m (row_from m from) i j place hj))

    -- the rows of one more break point
    pub row_more : {at i : ℕ} {l l' : List ℤ} {x y z : ℤ} → i ≤ m → at + 3 * (m + 1) ≤ length l
        → x ≡ pos m *ℤ entry t (from + i) → y ≡ pos m *ℤ entry t (from + (m + 1) + i) → z ≡ pos m *ℤ entry t (from + i)
        → Put at (3 * i) (copied_number m (row_from m from)) l l'
        → Put at (3 * (i + 1)) (copied_number m (row_from m from)) l (set (set (set l' (at + 3 * i) x) (at + 3 * i + 1) y) (at + 3 * i + 2) z)
    row_more {i = i} h room ex ey ez p =
        put_more (3 * i + 2) (omega arith) (omega arith) (omega arith) (ez ∙ number_is i 2 h (omega arith) refl)
        (put_more (3 * i + 1) (omega arith) (omega arith) (omega arith) (ey ∙ number_is i 1 h (omega arith) refl)
        (put_more (3 * i) refl refl (omega arith) (ex ∙ number_is i 0 {p = 3 * i} h (omega arith) (omega arith)) p))

  -- the entries of the row are at most B in size
  number_small : {B : ℕ} → ((q : ℕ) → q < from + 2 * (m + 1) → nat_abs (entry table q) ≤ B)
      → (p : ℕ) → p < 3 * (m + 1) → nat_abs (copied_number m (row_from m from) p) ≤ B * m
  number_small {B} entries p h =
      let x = triple_at (row_from m from) (p / 3) (p % 3) in
      let i : p / 3 ≤ m = omega arith in
      let small : nat_abs x ≤ B = rw (triple_entry (p / 3) (p % 3) i)
      (cond_cases (eqb (p % 3) 1) _ _ (λ z. nat_abs z ≤ B)
      (λ _. entries (from + (m + 1) + p / 3) (omega arith)) (λ _. entries (from + p / 3) (omega arith))) in
      le_trans (le_of_eq (abs_mul (pos m) x)) (le_trans (mul-le-mul_left m small) (le_of_eq (mul_comm m B)))

-- ---- rows, one after the other
-- row k of n and all before it end before the last does
pub row_inside : (m : ℕ) {k n : ℕ} → k < n → k * (2 * (m + 1)) + 2 * (m + 1) ≤ n * (2 * (m + 1))
row_inside m {k} {n} h = le_trans (le_of_eq (sym (suc-mul k (2 * (m + 1))))) (mul-le-mul h (le_refl (2 * (m + 1))))

pub rows_none : {at m from : ℕ} {l : List ℤ} → PutRows at 0 m from l l
rows_none = record {
  row = λ k i j hk hi hj. absurd (omega arith);
  earlier = λ p b. refl;
  later = λ p b. refl;
  small = λ B entries each. each;
  whole = refl;
}

-- one more
pub rows_more : {at n m from : ℕ} {l l' l'' : List ℤ} → m ≤ 8
    → Put (at + 27 * n) (3 * (m + 1)) (copied_number m (row_from m (from + n * (2 * (m + 1))))) l' l''
    → PutRows at n m from l l' → PutRows at (n + 1) m from l l''
rows_more {at} {n} {m} {from} {l} {l'} {l''} most p h = record {
  row = one;
  earlier = λ q b. p.earlier q (omega arith) ∙ h.earlier q b;
  later = λ q b. p.later q (omega arith) ∙ h.later q (omega arith);
  small = λ B entries each. put_small
      (number_small m (from + n * (2 * (m + 1))) (λ q b. entries q (omega (arith, add-mul n 1 (2 * (m + 1)))))) p
      (h.small B (λ q b. entries q (omega (arith, add-mul n 1 (2 * (m + 1))))) each);
  whole = p.whole ∙ h.whole;
}
  where
    one : (k i j : ℕ) → k < n + 1 → i ≤ m → j < 3
        → entry l'' (at + 27 * k + (3 * i + j)) ≡ pos m *ℤ triple_at (row_from m (from + k * (2 * (m + 1)))) i j
    one k i j hk hi hj =
        let last : k ≤ n = omega arith in
        ⊎_elim
        (λ g. rw g (p.here (3 * i + j) (omega arith) ∙ number_at m (row_from m (from + n * (2 * (m + 1)))) i j refl hj))
        (λ b. p.earlier (at + 27 * k + (3 * i + j)) (omega arith) ∙ h.row k i j b hi hj)
        (eq-or-lt_of_le last)

-- ---- the rows of a degree
row_from_law : (m at n k : ℕ) → k < n → row_at (rows_at m at n) k ≡ row_from m (at + k * (2 * (m + 1)))
row_from_law m at zero k h = absurd (not-suc-le-zero h)
row_from_law m at (suc n) zero h = ap (row_from m) (omega arith)
row_from_law m at (suc n) (suc k) h =
    row_from_law m (at + 2 * (m + 1)) n k (le_of_suc-le-suc h) ∙ ap (row_from m) (omega (arith, suc-mul k (2 * (m + 1))))

module _ {m at : ℕ} (d : ℕ) {l l' : List ℤ} (p : PutRows at (d - 1) m (start_of m d) l l') where
  of_degree : (k i j : ℕ) → k < d - 1 → i ≤ m → j < 3 → entry l' (at + 27 * k + (3 * i + j)) ≡ pos m *ℤ triple_at (row_at (rows_of m d) k) i j
  unfolding rows_of
  of_degree k i j hk hi hj =
      p.row k i j hk hi hj ∙ ap (λ (ρ : Row). pos m *ℤ triple_at ρ i j) (sym (row_from_law m (start_of m d) (d - 1) k hk))

place_is : (d k : ℕ) → k < d - 1 → row_place d k ≡ blocks_of d + 27 * k
place_is d k h = ap (λ (b : Bool). cond b (blocks_of d + 27 * k) 81) (lt-ltb (k + 1) d (omega arith))

-- the rows of degrees 2 and 3 stand first
pub low_place : (d k : ℕ) → d ≤ 3 → k ≤ 1 → row_place d k ≤ 81
low_place d k l hk = rw (lt-ltb d 4 (suc-le-suc l)) (cases (ltb (k + 1) d) (ltb d 3))
  where
    cases : (a b : Bool) → cond a (cond b 54 0 + 27 * k) 81 ≤ 81
    cases true true = omega arith
    cases true false = omega arith
    cases false b = omega arith

-- ---- degrees 3 and 2, and the zeros
pub record Begun (m : ℕ) (rows : List ℤ) : Type 0 where
  pub row : (d k i j : ℕ) → d ≤ 3 → k < d - 1 → i ≤ m → j < 3
      → entry rows (row_place d k + (3 * i + j)) ≡ pos m *ℤ triple_at (row_at (rows_of m d) k) i j
  pub none : (i : ℕ) → i < 27 → entry rows (81 + i) ≡ pos 0
  pub small : Each (5000 * m) rows
  pub whole : length rows ≡ 297

module _ {m : ℕ} {l cubics rows zeros : List ℤ} (has : HasRows m) (each : Each (5000 * m) l) (room : length l ≡ 297)
    (three : PutRows 0 2 m (start_of m 3) l cubics) (two : PutRows 54 1 m (start_of m 2) cubics rows)
    (none : Put 81 27 (λ p. pos 0) rows zeros) where
  abbrev Read : (d k i j : ℕ) → Type 0
  Read d k i j = entry zeros (blocks_of d + 27 * k + (3 * i + j)) ≡ pos m *ℤ triple_at (row_at (rows_of m d) k) i j

  read : (d k i j : ℕ) → d ≤ 3 → k < d - 1 → i ≤ m → j < 3 → Read d k i j
  read zero k i j l hk hi hj = absurd (omega arith)
  read (suc zero) k i j l hk hi hj = absurd (omega arith)
  read (suc (suc zero)) k i j l hk hi hj =
      none.earlier (54 + 27 * k + (3 * i + j)) (omega (arith, has.most)) ∙ of_degree 2 two k i j hk hi hj
  read (suc (suc (suc zero))) k i j l hk hi hj =
      none.earlier (0 + 27 * k + (3 * i + j)) (omega (arith, has.most))
      ∙ two.earlier (0 + 27 * k + (3 * i + j)) (omega (arith, has.most)) ∙ of_degree 3 three k i j hk hi hj
  read (suc (suc (suc (suc d)))) k i j l hk hi hj = absurd (omega arith)

  pub begun : Begun m zeros
  begun = record {
    row = λ d k i j l hk hi hj. ap (λ (p : ℕ). entry zeros (p + (3 * i + j))) (place_is d k hk) ∙ read d k i j l hk hi hj;
    none = none.here;
    small = put_small (λ p b. zero-le) none
        (two.small 5000 (λ q b. first_entry_small q (omega (arith, fewer_small has, has.most)))
        (three.small 5000 (λ q b. first_entry_small q (omega (arith, fewer_small has, has.most))) each));
    whole = none.whole ∙ two.whole ∙ three.whole ∙ room;
  }

larger : (m : ℕ) {rows : List ℤ} → Each (5000 * m) rows → Each (9000 * m) rows
larger m h = record { under = λ p. le_trans (h.under p) (omega arith) }

-- ---- all of them: one and two pieces have no rows of degrees 4 and 5
pub few_copied : {m : ℕ} {rows : List ℤ} → m < 3 → Begun m rows → Copied m rows
few_copied {m} few h = record {
  row = λ d k i j l takes. h.row d k i j (low d takes);
  none = h.none;
  small = λ p b. h.small.under p;
  each = larger m h.small;
  whole = h.whole;
}
  where
    low : (d : ℕ) → degree_pieces d m ≡ true → d ≤ 3
    low d takes = ⊎_elim (λ l. absurd (omega (arith, (degree_takes d m).0 takes l))) (λ l. l) (lt_or_ge 3 d)

module _ {m : ℕ} {begun quartics rows : List ℤ} (has : HasRows m) (h : Begun m begun)
    (four : PutRows 108 3 m (start_of m 4) begun quartics) (five : PutRows 189 4 m (start_of m 5) quartics rows) where
  same : (p : ℕ) → p < 108 → entry rows p ≡ entry begun p
  same p b = five.earlier p (omega arith) ∙ four.earlier p b

  row : (d k i j : ℕ) → d ≤ most_degree → k < d - 1 → i ≤ m → j < 3
      → entry rows (row_place d k + (3 * i + j)) ≡ pos m *ℤ triple_at (row_at (rows_of m d) k) i j
  row (suc (suc (suc (suc zero)))) k i j l hk hi hj =
      ap (λ (p : ℕ). entry rows (p + (3 * i + j))) (place_is 4 k hk)
      ∙ five.earlier (108 + 27 * k + (3 * i + j)) (omega (arith, has.most)) ∙ of_degree 4 four k i j hk hi hj
  row (suc (suc (suc (suc (suc zero))))) k i j l hk hi hj =
      ap (λ (p : ℕ). entry rows (p + (3 * i + j))) (place_is 5 k hk) ∙ of_degree 5 five k i j hk hi hj
  row (suc (suc (suc (suc (suc (suc d)))))) k i j l hk hi hj = absurd (omega arith)
  row zero k i j l hk hi hj = absurd (omega arith)
  row (suc zero) k i j l hk hi hj = absurd (omega arith)
  row (suc (suc zero)) k i j l hk hi hj =
      same (row_place 2 k + (3 * i + j)) (omega (arith, low_place 2 k (lit≤ tt) (omega arith), has.most)) ∙ h.row 2 k i j (lit≤ tt) hk hi hj
  row (suc (suc (suc zero))) k i j l hk hi hj =
      same (row_place 3 k + (3 * i + j)) (omega (arith, low_place 3 k (lit≤ tt) (omega arith), has.most)) ∙ h.row 3 k i j (lit≤ tt) hk hi hj

  pub all_copied : Copied m rows
  all_copied = record {
    row = λ d k i j l takes. row d k i j l;
    none = λ i b. same (81 + i) (omega arith) ∙ h.none i b;
    small = λ p b. rw (same p b) (h.small.under p);
    each = five.small 9000 (λ q b. table_entry_small q) (four.small 9000 (λ q b. table_entry_small q) (larger m h.small));
    whole = five.whole ∙ four.whole ∙ h.whole;
  }
