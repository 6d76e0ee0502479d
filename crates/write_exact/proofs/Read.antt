-- What is written is read: where the bytes of a number stand and no digit follows, the number is read. With `number_written` this says exactly what
-- is read as a number.
use mathlib.Core.Path.{◌≡◌, refl, sym, ap, ◌∙◌, subst}
use mathlib.Core.Bool.{Bool, true, false}
use mathlib.Core.List.{List, [], ◌∷◌, ◌++◌, append_assoc}
use Prim.Native.Nat.{ℕ, zero, suc, ◌+◌, ◌-◌, ◌*◌, ◌/◌, ◌%◌, ◌^◌, ◌≤◌, ◌<◌}
use native.Mathlib.Nat.{pow-suc}
use native.Mathlib.Omega.{arith}
use borrow.Author.Tests.{lt-ltb, le-ltb, ltb-true, ltb-false, le-leb, eq-eqb, ne_eqb}
use lib.Dec.{ltb}
use lib.ListN.{length, drop, length-append}
use lib.Seq.{get_or-drop, drop-drop}
use lib.IntN.{ℤ, pos, negsuc, neg_ℤ}
use lib.Signed.{mag}
use Rattle.std.specs.Prelude.{Some}
use Rattle.text_numbers.specs.Numerals.{byte, is_digit, value_from, digit_count, natural_at, number_at}
use Rattle.write_numbers.specs.Digits.{digits}
use Rattle.write_numbers.specs.Decimals.{decimal}
use Rattle.write_exact.specs.Written.{Written}
use Rattle.write_exact.proofs.Decimals.{zero_decimal, positive_decimal, negative_decimal}

-- ---- a digit in front
module _ (d : ℕ) (h : d < 10) (ys : List ℕ) where
  is_digit_law : is_digit (48 + d) ≡ true
  is_digit_law = let a : 48 ≤ 48 + d = omega arith in let b : 48 + d ≤ 57 = omega arith in simp (le-leb 48 (48 + d) a, le-leb (48 + d) 57 b)

  value_digit : (v : ℕ) → value_from v ((48 + d) ∷ ys) ≡ value_from (10 * v + d) ys
  unfolding value_from
  value_digit v = let e : 10 * v + (48 + d - 48) ≡ 10 * v + d = omega arith in rw (value_from, is_digit_law) (ap (λ (w : ℕ). value_from w ys) e)

  count_digit : digit_count ((48 + d) ∷ ys) ≡ suc (digit_count ys)
  unfolding digit_count
  count_digit = rw (digit_count, is_digit_law)

-- ---- the digits of n in front
record ReadBack (n : ℕ) (ds ys : List ℕ) : Type 0 where
  value : value_from 0 (ds ++ ys) ≡ value_from n ys
  count : digit_count (ds ++ ys) ≡ length ds + digit_count ys

one_back : (p n : ℕ) (ys : List ℕ) → n < 10 → ReadBack n (digits (suc p) n) ys
unfolding digits
one_back p n ys h =
    let e : digits (suc p) n ≡ (48 + n) ∷ [] = simp (lt-ltb _ _ h) in
    let z : 10 * 0 + n ≡ n = omega arith in
    subst (λ (ds : List ℕ). ReadBack n ds ys) (sym e) (record {
      value = value_digit n h ys 0 ∙ ap (λ (v : ℕ). value_from v ys) z;
      count = omega (arith, count_digit n h ys);
    })

more_back : (p n : ℕ) (ys : List ℕ) → 10 ≤ n → ReadBack (n / 10) (digits p (n / 10)) ((48 + n % 10) ∷ ys) → ReadBack n (digits (suc p) n) ys
unfolding digits
more_back p n ys h r =
    let l : n % 10 < 10 = omega arith in
    let e : 10 * (n / 10) + n % 10 ≡ n = omega arith in
    let f : digits (suc p) n ≡ digits p (n / 10) ++ ((48 + n % 10) ∷ []) = simp (le-ltb _ _ h) in
    subst (λ (ds : List ℕ). ReadBack n ds ys) (sym f)
    (record {
      value =
          ap (value_from 0) (append_assoc (digits p (n / 10)) ((48 + n % 10) ∷ []) ys) ∙ r.value ∙ value_digit (n % 10) l ys (n / 10)
          ∙ ap (λ (v : ℕ). value_from v ys) e;
      count =
          ap digit_count (append_assoc (digits p (n / 10)) ((48 + n % 10) ∷ []) ys) ∙ r.count
          ∙ omega (arith, count_digit (n % 10) l ys, length-append (digits p (n / 10)) ((48 + n % 10) ∷ []));
    })

digits_back : (p n : ℕ) (ys : List ℕ) → n < 10 ^ suc p → ReadBack n (digits (suc p) n) ys
digits_back zero n ys h = one_back 0 n ys (omega arith)
digits_back (suc p) n ys h = either (ltb n 10) refl (λ l. digits_back p (n / 10) ((48 + n % 10) ∷ ys) (below (10 ^ suc p) (rw pow-suc at h)))
  where
    below : (m : ℕ) → n < m * 10 → n / 10 < m
    below m l = omega arith

    either : (b : Bool) → ltb n 10 ≡ b → (10 ≤ n → ReadBack (n / 10) (digits (suc p) (n / 10)) ((48 + n % 10) ∷ ys))
        → ReadBack n (digits (suc (suc p)) n) ys
    either true e again = one_back (suc p) n ys (ltb-true _ _ e)
    either false e again = more_back (suc p) n ys (ltb-false _ _ e) (again (ltb-false _ _ e))

-- ---- the first digit is 1 to 9
record Leads (ds : List ℕ) : Type 0 where
  first : ℕ
  rest : List ℕ
  is : ds ≡ first ∷ rest
  least : 49 ≤ first
  most : first ≤ 57

leads_more : (ds ys : List ℕ) → Leads ds → Leads (ds ++ ys)
leads_more ds ys l = record { first = l.first; rest = l.rest ++ ys; is = ap (λ (xs : List ℕ). xs ++ ys) l.is; least = l.least; most = l.most }

one_leads : (p n : ℕ) → 1 ≤ n → n < 10 → Leads (digits (suc p) n)
unfolding digits
one_leads p n l h = record { first = 48 + n; rest = []; is = simp (lt-ltb _ _ h); least = omega arith; most = omega arith }

more_leads : (p n : ℕ) → 10 ≤ n → Leads (digits p (n / 10)) → Leads (digits (suc p) n)
unfolding digits
more_leads p n h l =
    let f : digits (suc p) n ≡ digits p (n / 10) ++ ((48 + n % 10) ∷ []) = simp (le-ltb _ _ h) in
    subst Leads (sym f) (leads_more (digits p (n / 10)) ((48 + n % 10) ∷ []) l)

digits_lead : (p n : ℕ) → 1 ≤ n → n < 10 ^ suc p → Leads (digits (suc p) n)
digits_lead zero n l h = one_leads 0 n l (omega arith)
digits_lead (suc p) n l h = either (ltb n 10) refl (λ k. digits_lead p (n / 10) (omega arith) (below (10 ^ suc p) (rw pow-suc at h)))
  where
    below : (m : ℕ) → n < m * 10 → n / 10 < m
    below m k = omega arith

    either : (b : Bool) → ltb n 10 ≡ b → (10 ≤ n → Leads (digits (suc p) (n / 10))) → Leads (digits (suc (suc p)) n)
    either true e again = one_leads (suc p) n l (ltb-true _ _ e)
    either false e again = more_leads (suc p) n (ltb-false _ _ e) (again (ltb-false _ _ e))

-- ---- a natural, and a number
stops : (n : ℕ) (ys : List ℕ) → is_digit (byte ys 0) ≡ false → (value_from n ys ≡ n) × (digit_count ys ≡ 0)
unfolding value_from digit_count
stops n [] e = (refl, refl)
stops n (y ∷ ys) e = (rw (value_from, e), rw (digit_count, e))

pub byte_of : (s : List ℕ) (i b : ℕ) (bs : List ℕ) → drop i s ≡ b ∷ bs → byte s i ≡ b
byte_of s i b bs e =
    let z : i ≡ i + 0 = omega arith in
    ap (byte s) z ∙ sym (get_or-drop i s 0 0) ∙ ap (λ (l : List ℕ). byte l 0) e

byte_from : (s : List ℕ) (j : ℕ) → byte (drop j s) 0 ≡ byte s j
byte_from s j = let z : j + 0 ≡ j = omega arith in get_or-drop j s 0 0 ∙ ap (byte s) z

natural_read : (s : List ℕ) (i n j : ℕ) → 1 ≤ n → n ≤ 2147483648 → Written s i j (digits 10 n) → is_digit (byte s j) ≡ false
    → natural_at s i ≡ Some (n, j)
unfolding natural_at
natural_read s i n j l h w d =
    let r = digits_back 9 n (drop j s) (omega arith) in
    let t = stops n (drop j s) (ap is_digit (byte_from s j) ∙ d) in
    let a = digits_lead 9 n l (omega arith) in
    let b : byte s i ≡ a.first = byte_of s i a.first (a.rest ++ drop j s) (w.bytes_there ∙ ap (λ (ds : List ℕ). ds ++ drop j s) a.is) in
    let v : value_from 0 (drop i s) ≡ n = ap (value_from 0) w.bytes_there ∙ r.value ∙ t.0 in
    let c : i + digit_count (drop i s) ≡ j = omega (arith, ap digit_count w.bytes_there, r.count, t.1, w.end_there) in
    simp (v, c, b, le-leb 49 a.first a.least, le-leb a.first 57 a.most, le-leb n 2147483648 h)

-- ---- a number, where its bytes stand and no digit follows
zero_read : (s : List ℕ) (i j : ℕ) → Written s i j (48 ∷ []) → number_at s i ≡ Some (pos 0, j)
unfolding number_at
zero_read s i j w = simp (eq-eqb (byte s i) 48 (byte_of s i 48 (drop j s) w.bytes_there)) (ap (λ (k : ℕ). Some (pos 0, k)) (sym w.end_there))

plain_read : (s : List ℕ) (i n j : ℕ) → 1 ≤ n → n ≤ 2147483647 → Written s i j (digits 10 n) → is_digit (byte s j) ≡ false
    → number_at s i ≡ Some (pos n, j)
unfolding number_at
plain_read s i n j l h w d =
    let a = digits_lead 9 n l (omega arith) in
    let b : byte s i ≡ a.first = byte_of s i a.first (a.rest ++ drop j s) (w.bytes_there ∙ ap (λ (ds : List ℕ). ds ++ drop j s) a.is) in
    let m = a.least in
    simp (
      ne_eqb (byte s i) 48 (λ e. omega arith),
      ne_eqb (byte s i) 45 (λ e. omega arith),
      natural_read s i n j l (omega arith) w d,
      le-leb n 2147483647 h,
    )

signed_read : (s : List ℕ) (i n j : ℕ) → 1 ≤ n → n ≤ 2147483648 → Written s i j (45 ∷ digits 10 n) → is_digit (byte s j) ≡ false
    → number_at s i ≡ Some (neg_ℤ (pos n), j)
unfolding number_at
signed_read s i n j l h w d =
    let b : byte s i ≡ 45 = byte_of s i 45 (digits 10 n ++ drop j s) w.bytes_there in
    let v : Written s (i + 1) j (digits 10 n) = record {
      bytes_there = sym (drop-drop 1 i s) ∙ ap (drop 1) w.bytes_there;
      end_there = omega (arith, w.end_there);
    } in
    simp (ne_eqb (byte s i) 48 (λ e. omega arith), eq-eqb (byte s i) 45 b, natural_read s (i + 1) n j l h v d)

pub number_read : (s : List ℕ) (i : ℕ) (z : ℤ) (j : ℕ) → mag z < 2 ^ 31 → Written s i j (decimal z) → is_digit (byte s j) ≡ false
    → number_at s i ≡ Some (z, j)
number_read s i (pos zero) j h w d = zero_read s i j (rw zero_decimal at w)
number_read s i (pos (suc n)) j h w d = plain_read s i (suc n) j (omega arith) (omega arith) (rw (positive_decimal (suc n)) at w) d
number_read s i (negsuc n) j h w d = signed_read s i (suc n) j (omega arith) (omega arith) (rw (negative_decimal (suc n) (omega arith)) at w) d
