-- A number is read only where it is written: the bytes that it was read from are those that writing it gives.
use mathlib.Core.Path.{◌≡◌, refl, sym, ap, ap₂, ◌∙◌, subst}
use mathlib.Core.Bool.{Bool, true, false, ◌&&◌, cond}
use mathlib.Core.List.{List, [], ◌∷◌, ◌++◌, append_assoc, append-nil}
use Prim.Native.Nat.{ℕ, zero, suc, ◌+◌, ◌-◌, ◌*◌, ◌/◌, ◌%◌, ◌^◌, ◌≤◌, ◌<◌}
use native.Mathlib.Nat.{pow-suc, suc-add, add-zero, zero-add, add_comm}
use native.Mathlib.Omega.{arith}
use borrow.Author.Tests.{lt-ltb, le-ltb, ltb-true, ltb-false, leb-true, le-leb, eqb-true}
use lib.Dec.{leb, ltb, eqb}
use lib.ListN.{length, take, drop, take-append-drop, length-append}
use lib.Seq.{drop-drop, length-take-le}
use lib.IntN.{ℤ, pos, neg_ℤ}
use Rattle.std.proofs.lemmas.Option.{some_pair_parts}
use Rattle.std.specs.Prelude.{Option, Some, None}
use Rattle.text_numbers.specs.Numerals.{byte, is_digit, value_from, digit_count, natural_at, plus, minus, number_at}
use Rattle.text_numbers.proofs.Places.{byte_first, byte_inside}
use Rattle.text_numbers.proofs.Runs.{value_grows}
use Rattle.write_numbers.specs.Digits.{digits}
use Rattle.write_numbers.specs.Decimals.{decimal}
use Rattle.write_exact.specs.Written.{Written}
use Rattle.integers.proofs.Clash.{clash}
use Rattle.integers.proofs.Both.{both_true}

-- ---- how many places are allowed does not matter, where there are enough
one_more : (p k n : ℕ) → 10 ≤ n → digits p (n / 10) ≡ digits k (n / 10) → digits (suc p) n ≡ digits (suc k) n
unfolding digits
one_more p k n h e = simp (le-ltb _ _ h) (ap (λ (ds : List ℕ). ds ++ ((48 + n % 10) ∷ [])) e)

one_digit : (p k n : ℕ) → n < 10 → digits (suc p) n ≡ digits (suc k) n
unfolding digits
one_digit p k n h = simp (lt-ltb _ _ h)

digits_enough : (p k n : ℕ) → n < 10 ^ suc p → digits (suc (p + k)) n ≡ digits (suc p) n
digits_enough zero k n h = one_digit (0 + k) 0 n (omega arith)
digits_enough (suc p) k n h = either (λ g. digits_enough p k (n / 10) (below (10 ^ suc p) (rw pow-suc at h))) (ltb n 10) refl
  where
    below : (m : ℕ) → n < m * 10 → n / 10 < m
    below m l = omega arith

    either : (10 ≤ n → digits (suc (p + k)) (n / 10) ≡ digits (suc p) (n / 10)) → (b : Bool) → ltb n 10 ≡ b
        → digits (suc (suc p + k)) n ≡ digits (suc (suc p)) n
    either again true e = one_digit (suc p + k) (suc p) n (ltb-true _ _ e)
    either again false e =
        let l = ltb-false _ _ e in
        one_more (suc p + k) (suc p) n l (ap (λ (m : ℕ). digits m (n / 10)) (suc-add p k) ∙ again l)

-- two numbers of places that are both enough
digits_same : (p q n : ℕ) → n < 10 ^ suc p → n < 10 ^ suc q → digits (suc p) n ≡ digits (suc q) n
digits_same p q n h k = sym (digits_enough p q n h) ∙ ap (λ (m : ℕ). digits (suc m) n) (add_comm p q) ∙ digits_enough q p n k

-- ---- a digit more: 10 v + d
last_digit : (p v d : ℕ) → 1 ≤ v → d < 10 → digits (suc p) (10 * v + d) ≡ digits p v ++ ((48 + d) ∷ [])
unfolding digits
last_digit p v d l h =
    let q : (10 * v + d) / 10 ≡ v = omega arith in
    let r : (10 * v + d) % 10 ≡ d = omega arith in
    let g : 10 ≤ 10 * v + d = omega arith in
    simp (le-ltb _ _ g, q, r)

-- ---- a digit is a byte from 48 to 57
digit_range : (b : ℕ) → is_digit b ≡ true → (48 ≤ b) × (b ≤ 57)
digit_range b e = let r = both_true (leb 48 b) (leb b 57) e in (leb-true 48 b r.0, leb-true b 57 r.1)

-- ---- the digits that bytes start with, after a number v of which p + 1 places are written
read_digits : (bs : List ℕ) (p v : ℕ) → 1 ≤ v → digits (suc p + digit_count bs) (value_from v bs) ≡ digits (suc p) v ++ take (digit_count bs) bs
unfolding value_from digit_count
read_digits [] p v l = ap (λ (m : ℕ). digits m v) (add-zero (suc p)) ∙ sym (append-nil (digits (suc p) v))
read_digits (b ∷ bs) p v l = either (is_digit b) refl (read_digits bs (suc p) (10 * v + (b - 48)) (omega arith))
  where
    either : (t : Bool) → is_digit b ≡ t
        → digits (suc (suc p) + digit_count bs) (value_from (10 * v + (b - 48)) bs) ≡ digits (suc (suc p)) (10 * v + (b - 48))
        ++ take (digit_count bs) bs
        → digits (suc p + cond t (suc (digit_count bs)) 0) (cond t (value_from (10 * v + (b - 48)) bs) v) ≡ digits (suc p) v
        ++ take (cond t (suc (digit_count bs)) 0) (b ∷ bs)
    either false e again = ap (λ (m : ℕ). digits m v) (add-zero (suc p)) ∙ sym (append-nil (digits (suc p) v))
    either true e again =
        let r = digit_range b e in
        let places : suc p + suc (digit_count bs) ≡ suc (suc p) + digit_count bs = omega arith in
        let same : 48 + (b - 48) ≡ b = omega arith in
        ap (λ (m : ℕ). digits m (value_from (10 * v + (b - 48)) bs)) places
        ∙ again
        ∙ ap (λ (ds : List ℕ). ds ++ take (digit_count bs) bs) (last_digit (suc p) v (b - 48) l (omega arith))
        ∙ append_assoc (digits (suc p) v) ((48 + (b - 48)) ∷ []) (take (digit_count bs) bs)
        ∙ ap (λ (c : ℕ). digits (suc p) v ++ (c ∷ take (digit_count bs) bs)) same

value_below : (bs : List ℕ) (p v : ℕ) → v < 10 ^ p → value_from v bs < 10 ^ (p + digit_count bs)
unfolding value_from digit_count
value_below [] p v h = subst (λ (m : ℕ). v < 10 ^ m) (sym (add-zero p)) h
value_below (b ∷ bs) p v h = either (is_digit b) refl (λ g. value_below bs (suc p) (10 * v + (b - 48)) (rw pow-suc (step (10 ^ p) h g)))
  where
    step : (m : ℕ) → v < m → b ≤ 57 → 10 * v + (b - 48) < m * 10
    step m l g = omega arith

    either : (t : Bool) → is_digit b ≡ t → (b ≤ 57 → value_from (10 * v + (b - 48)) bs < 10 ^ (suc p + digit_count bs))
        → cond t (value_from (10 * v + (b - 48)) bs) v < 10 ^ (p + cond t (suc (digit_count bs)) 0)
    either false e again = subst (λ (m : ℕ). v < 10 ^ m) (sym (add-zero p)) h
    either true e again =
        let places : suc p + digit_count bs ≡ p + suc (digit_count bs) = omega arith in
        subst (λ (m : ℕ). value_from (10 * v + (b - 48)) bs < 10 ^ m) places (again (digit_range b e).1)

-- ---- a natural
first_digit : (b : ℕ) (bs : List ℕ) → 49 ≤ b → b ≤ 57
    → (value_from 0 (b ∷ bs) ≡ value_from (b - 48) bs) × (digit_count (b ∷ bs) ≡ suc (digit_count bs))
unfolding value_from digit_count
first_digit b bs l h =
    let d : is_digit b ≡ true = simp (le-leb 48 b (omega arith), le-leb b 57 h) in
    let z : 10 * 0 + (b - 48) ≡ b - 48 = omega arith in
    (rw (value_from, d) (ap (λ (v : ℕ). value_from v bs) z), rw (digit_count, d))

alone : (b : ℕ) → 49 ≤ b → b ≤ 57 → digits 1 (b - 48) ≡ b ∷ []
unfolding digits
alone b l h =
    let m : b - 48 < 10 = omega arith in
    let e : 48 + (b - 48) ≡ b = omega arith in
    simp (lt-ltb _ _ m) (ap (λ (c : ℕ). c ∷ []) e)

natural_bytes : (b : ℕ) (bs : List ℕ) → 49 ≤ b → b ≤ 57 → value_from 0 (b ∷ bs) ≤ 2147483648
    → take (digit_count (b ∷ bs)) (b ∷ bs) ≡ digits 10 (value_from 0 (b ∷ bs))
natural_bytes b bs l h k =
    let f = first_digit b bs l h in
    let n = value_from (b - 48) bs in
    let low : n ≤ 2147483648 = subst (λ (m : ℕ). m ≤ 2147483648) f.0 k in
    ap (λ (m : ℕ). take m (b ∷ bs)) f.1
    ∙ ap (λ (ds : List ℕ). ds ++ take (digit_count bs) bs) (sym (alone b l h))
    ∙ sym (read_digits bs 0 (b - 48) (omega arith))
    ∙ ap (λ (m : ℕ). digits m n) (suc-add 0 (digit_count bs) ∙ ap suc (zero-add (digit_count bs)))
    ∙ digits_same (digit_count bs) 9 n (subst (λ (m : ℕ). n < 10 ^ m) (suc-add 0 (digit_count bs) ∙ ap suc (zero-add (digit_count bs)))
    (value_below bs 1 (b - 48) (omega arith))) (omega arith)
    ∙ ap (digits 10) (sym f.0)

count_inside : (bs : List ℕ) → digit_count bs ≤ length bs
unfolding digit_count
count_inside [] = omega arith
count_inside (b ∷ bs) = either (is_digit b) (count_inside bs)
  where
    either : (t : Bool) → digit_count bs ≤ length bs → cond t (suc (digit_count bs)) 0 ≤ suc (length bs)
    either true h = omega arith
    either false h = omega arith

three_true : (a b c : Bool) → (a && b && c) ≡ true → (a ≡ true) × (b ≡ true) × (c ≡ true)
three_true true true true e = (refl, refl, refl)
three_true true true false e = clash (cc)
three_true true false c e = clash (cc)
three_true false b c e = clash (cc)

found : (t : Bool) (n k m j : ℕ) → ◌≡◌ {A = Option (ℕ × ℕ)} (cond t (Some (n, k)) None) (Some (m, j)) → (t ≡ true) × (n ≡ m) × (k ≡ j)
found true n k m j e = let p = some_pair_parts n m k j e in (refl, p.0, p.1)
found false n k m j e = clash (cc)

value_grown : (b : ℕ) (bs : List ℕ) → 49 ≤ b → b ≤ 57 → 1 ≤ value_from 0 (b ∷ bs)
value_grown b bs l h = omega (arith, (first_digit b bs l h).0, value_grows (b - 48) bs)

natural_written : (s : List ℕ) (i n j : ℕ) → natural_at s i ≡ Some (n, j) → Written s i j (digits 10 n) × (1 ≤ n)
unfolding natural_at
natural_written s i n j e =
    let bs = drop i s in
    let f = found (leb 49 (byte s i) && leb (byte s i) 57 && leb (value_from 0 (drop i s)) 2147483648) (value_from 0 (drop i s))
    (i + digit_count (drop i s)) n j e in
    let t = three_true (leb 49 (byte s i)) (leb (byte s i) 57) (leb (value_from 0 (drop i s)) 2147483648) f.0 in
    let l = leb-true 49 (byte s i) t.0 in
    let h = leb-true (byte s i) 57 t.1 in
    let k = leb-true (value_from 0 (drop i s)) 2147483648 t.2 in
    go (byte s i) (drop (i + 1) s) l h (byte_first s i (byte_inside s i (byte s i) (omega arith) refl)) k f.1 f.2
  where
    go : (b : ℕ) (bs : List ℕ) → 49 ≤ b → b ≤ 57 → drop i s ≡ b ∷ bs → value_from 0 (drop i s) ≤ 2147483648 → value_from 0 (drop i s) ≡ n
        → i + digit_count (drop i s) ≡ j
        → Written s i j (digits 10 n) × (1 ≤ n)
    go b bs l h q k p r =
        let front : take (digit_count (drop i s)) (drop i s) ≡ digits 10 n = rw q (natural_bytes b bs l h (rw q at k))
        ∙ ap (digits 10) (rw q at p) in (
          record {
            bytes_there =
                sym (take-append-drop (digit_count (drop i s)) (drop i s))
                ∙ ap₂ (λ (xs ys : List ℕ). xs ++ ys) front (drop-drop (digit_count (drop i s)) i s ∙ ap (λ (m : ℕ). drop m s) r);
            end_there =
                sym r ∙ ap (λ (m : ℕ). i + m) (sym (length-take-le (digit_count (drop i s)) (drop i s) (count_inside (drop i s))) ∙ ap length front);
          },
          subst (λ (m : ℕ). 1 ≤ m) (rw q at p) (value_grown b bs l h),
        )

-- ---- parts one after the other
pub written_both : (s : List ℕ) (i j k : ℕ) (xs ys : List ℕ) → Written s i j xs → Written s j k ys → Written s i k (xs ++ ys)
written_both s i j k xs ys p q = record {
  bytes_there = p.bytes_there ∙ ap (λ (l : List ℕ). xs ++ l) q.bytes_there ∙ sym (append_assoc xs ys (drop k s));
  end_there = omega (arith, p.end_there, q.end_there, length-append xs ys);
}

pub byte_written : (s : List ℕ) (i b : ℕ) → 0 < b → byte s i ≡ b → Written s i (i + 1) (b ∷ [])
byte_written s i b h e = record { bytes_there = byte_first s i (byte_inside s i b h e) ∙ ap (λ (c : ℕ). c ∷ drop (i + 1) s) e; end_there = refl }

-- ---- a number
pub negative_decimal : (n : ℕ) → 1 ≤ n → decimal (neg_ℤ (pos n)) ≡ 45 ∷ digits 10 n
unfolding decimal
negative_decimal zero h = absurd (omega arith)
negative_decimal (suc n) h = refl

pub positive_decimal : (n : ℕ) → decimal (pos n) ≡ digits 10 n
unfolding decimal
positive_decimal n = let h : 0 ≤ n = omega arith in simp (le-ltb n 0 h)

pub zero_decimal : decimal (pos 0) ≡ 48 ∷ []
unfolding decimal digits
zero_decimal = refl

pub number_written : (s : List ℕ) (i : ℕ) (z : ℤ) (j : ℕ) → number_at s i ≡ Some (z, j) → Written s i j (decimal z)
unfolding number_at
number_written s i z j e = either (eqb (byte s i) 48) refl (eqb (byte s i) 45) refl (natural_at s (i + 1)) refl (natural_at s i) refl e
  where
    signed : (a : Option (ℕ × ℕ)) → natural_at s (i + 1) ≡ a → byte s i ≡ 45 → minus a ≡ Some (z, j) → Written s i j (decimal z)
    signed None f g h = clash (cc)
    signed (Some (n, k)) f g h =
        let w = natural_written s (i + 1) n k f in
        let parts = some_pair_parts (neg_ℤ (pos n)) z k j h in
        let y = parts.0 in
        let x = parts.1 in
        subst (λ (m : ℕ). Written s i m (decimal z)) x (subst (λ (v : ℤ). Written s i k (decimal v)) y
        (subst (λ (xs : List ℕ). Written s i k xs) (sym (negative_decimal n w.1))
        (written_both s i (i + 1) k (45 ∷ []) (digits 10 n) (byte_written s i 45 (omega arith) g) w.0)))

    plain : (a : Option (ℕ × ℕ)) → natural_at s i ≡ a → plus a ≡ Some (z, j) → Written s i j (decimal z)
    plain None f h = clash (cc)
    plain (Some (n, k)) f h = within_range (leb n 2147483647) h
      where
        within_range : (t : Bool) → ◌≡◌ {A = Option (ℤ × ℕ)} (cond t (Some (pos n, k)) None) (Some (z, j)) → Written s i j (decimal z)
        within_range false q = clash (cc)
        within_range true q =
            let parts = some_pair_parts (pos n) z k j q in
            let y = parts.0 in
            let x = parts.1 in
            subst (λ (m : ℕ). Written s i m (decimal z)) x (subst (λ (v : ℤ). Written s i k (decimal v)) y
            (subst (λ (xs : List ℕ). Written s i k xs) (sym (positive_decimal n)) (natural_written s i n k f).0))

    either : (t : Bool) → eqb (byte s i) 48 ≡ t → (u : Bool) → eqb (byte s i) 45 ≡ u → (a : Option (ℕ × ℕ)) → natural_at s (i + 1) ≡ a
        → (b : Option (ℕ × ℕ))
        → natural_at s i ≡ b
        → cond t (Some (pos 0, i + 1)) (cond u (minus a) (plus b)) ≡ Some (z, j) → Written s i j (decimal z)
    either true f u g a p b q h =
        let parts = some_pair_parts (pos 0) z (i + 1) j h in
        let y = parts.0 in
        let x = parts.1 in
        subst (λ (m : ℕ). Written s i m (decimal z)) x (subst (λ (v : ℤ). Written s i (i + 1) (decimal v)) y
        (subst (Written s i (i + 1)) (sym zero_decimal) (byte_written s i 48 (omega arith) (eqb-true (byte s i) 48 f))))
    either false f true g a p b q h = signed a p (eqb-true (byte s i) 45 g) h
    either false f false g a p b q h = plain b q h
