-- Check 10, box by box and record by record: the search for the first bad number in parts.
use mathlib.Core.Path.{◌≡◌, refl, sym, ◌∙◌, ap, subst}
use mathlib.Core.Bool.{Bool, true, false, ◌&&◌}
use mathlib.Core.Logic.{⊎_elim}
use mathlib.Core.List.{List}
use mathlib.Core.Option.{Option, none, some}
use Prim.Native.Nat.{ℕ, zero, suc, ◌+◌, ◌*◌, ◌-◌, ◌/◌, ◌%◌, ◌≤◌, ◌<◌}
use native.Mathlib.Nat.{zero-add, zero-mod, div-add-mod, mod-lt, mul-mod_right, eq-or-lt_of_le, le_of_suc-le-suc}
use native.Mathlib.Omega.{arith}
use lib.ListN.{length}
use lib.IntN.{ℤ}
use Rattle.std.specs.Prelude.{Some, None}
use Rattle.std.proofs.lemmas.Option.{none-some, same_Some}
use Rattle.integers.specs.Entry.{entry}
use Rattle.integers.specs.First.{first_bad}
use Rattle.integers.proofs.Clash.{clash}
use Rattle.integers.proofs.Order.{lt_or_ge}
use Rattle.integers.proofs.First.{or_else, moved, bad_parts, bad_moved, none_bad, bad_none, bad_below, bad_is, bad_first}
use Rattle.integers.proofs.Both.{both_true}
use Rattle.setting.specs.Setting.{Setting, break_points, record_length}
use Rattle.boxes.specs.Ranges.{low_fine, in_range, box_number_fine, numbers_of, box_fault}
use Rattle.boxes.specs.Inside.{side_fine}
use Rattle.boxes.specs.Records.{box_at_index}
use Rattle.boxes.proofs.Records.{whole_is, record_left, record_next, place_in, record_is}
use Rattle.boxes.proofs.Faults.{fault_at_law, interval, interval_low, interval_high, side_interval, interval_side}
use Rattle.judge_list.specs.Checks.{number_fine, number_fault}
use Rattle.judge_list.specs.Inside.{in_boxes, box_fine_at, boxes_fault_at, fine_at, record_fault_at, sides_fine, record_fine, record_start}

-- ---- a search that found nothing among the first a places goes on with the next b
module _ (fine : ℕ → Bool) (a b : ℕ) (e : first_bad fine a 0 ≡ none) where
  pub gone_on : first_bad fine (a + b) 0 ≡ first_bad fine b (0 + a)
  gone_on = bad_parts fine a b 0 ∙ ap (λ o. or_else o (first_bad fine b (0 + a))) e

-- and what it finds there, it finds of all
pub found_first : (fine : ℕ → Bool) (a b p : ℕ) → first_bad fine a 0 ≡ some p → first_bad fine (a + b) 0 ≡ some p
found_first fine a b p e = bad_parts fine a b 0 ∙ ap (λ o. or_else o (first_bad fine b (0 + a))) e

-- ---- boxes
module _ (ns : List ℤ) where
  low : (p j k l m : ℕ) → p % 2 ≡ 0 → j ≡ k → l ≡ m → box_number_fine p (entry ns j) (entry ns l) ≡ low_fine (entry ns k) (entry ns m)
  low p j k l m e f g = rw (box_number_fine, e, f, g)

  high : (p j k l : ℕ) → p % 2 ≡ 1 → j ≡ k → box_number_fine p (entry ns j) (entry ns l) ≡ in_range (entry ns k)
  high p j k l e f = rw (box_number_fine, e, f)

module _ (ns : List ℤ) (at : ℕ) where
  abbrev box_number : ℕ → Bool
  box_number = box_fine_at ns at

  -- box i's numbers
  box_part : (i : ℕ) → first_bad box_number 4 (4 * i) ≡ moved (4 * i) (box_fault (box_at_index ns (at + 4 * i)))
  box_part i = fault_at_law box_number (4 * i) (box_at_index ns (at + 4 * i)) each
    where
      each : (p : ℕ) → p < 4
          → box_number (4 * i + p)
          ≡ box_number_fine p (entry (numbers_of (box_at_index ns (at + 4 * i))) p) (entry (numbers_of (box_at_index ns (at + 4 * i))) (suc p))
      each zero h =
          low ns (4 * i + 0) (at + (4 * i + 0)) (at + 4 * i) (at + suc (4 * i + 0)) (at + 4 * i + 1) (omega arith) (omega arith) (omega arith)
      each (suc zero) h = high ns (4 * i + 1) (at + (4 * i + 1)) (at + 4 * i + 1) (at + suc (4 * i + 1)) (omega arith) (omega arith)
      each (suc (suc zero)) h =
          low ns (4 * i + 2) (at + (4 * i + 2)) (at + 4 * i + 2) (at + suc (4 * i + 2)) (at + 4 * i + 3) (omega arith) (omega arith) (omega arith)
      each (suc (suc (suc zero))) h = high ns (4 * i + 3) (at + (4 * i + 3)) (at + 4 * i + 3) (at + suc (4 * i + 3)) (omega arith) (omega arith)
      each (suc (suc (suc (suc p)))) h = absurd (omega arith)

  module _ (i : ℕ) (e : boxes_fault_at ns at (4 * i) ≡ none) where
    with_box : boxes_fault_at ns at (4 * i + 4) ≡ moved (4 * i) (box_fault (box_at_index ns (at + 4 * i)))
    with_box = gone_on box_number (4 * i) 4 e ∙ ap (first_bad box_number 4) {x = 0 + 4 * i} {y = 4 * i} (omega arith) ∙ box_part i

    pub box_fine : box_fault (box_at_index ns (at + 4 * i)) ≡ none → boxes_fault_at ns at (4 * (i + 1)) ≡ none
    box_fine b =
        ap (boxes_fault_at ns at) {x = 4 * (i + 1)} {y = 4 * i + 4} (omega arith) ∙ with_box ∙ ap (moved (4 * i)) b

    pub box_bad : (n p : ℕ) → i < n → box_fault (box_at_index ns (at + 4 * i)) ≡ some p → boxes_fault_at ns at (4 * n) ≡ some (4 * i + p)
    box_bad n p h b =
        let g = found_first box_number (4 * i + 4) (4 * n - (4 * i + 4)) (4 * i + p) (with_box ∙ ap (moved (4 * i)) b) in
        let m : 4 * n ≡ 4 * i + 4 + (4 * n - (4 * i + 4)) = omega arith in
        ap (boxes_fault_at ns at) m ∙ g

pub boxes_below : (ns : List ℤ) (at n p : ℕ) → boxes_fault_at ns at n ≡ some p → p < n
boxes_below ns at n p e = omega (arith, bad_below (box_fine_at ns at) n 0 p e)

-- ---- a record: its curve, its node, its boxes
module _ (σ : Setting) (ns : List ℤ) (at : ℕ) where
  abbrev number : ℕ → Bool
  number = fine_at σ.most ns at

  box_number_law : (k : ℕ) → number (2 + k) ≡ box_fine_at ns (at + 2) k
  box_number_law k =
      let e : 2 + k ≡ suc (suc k) = omega arith in
      let f : at + suc (suc k) ≡ at + 2 + k = omega arith in
      let g : at + suc (suc (suc k)) ≡ at + 2 + suc k = omega arith in
      rw (e, f, g)

  two_more : record_length σ ≡ suc (suc (in_boxes σ))
  two_more = omega arith

  pub curve_bad : number 0 ≡ false → record_fault_at σ ns at ≡ some 0
  unfolding record_fault_at first_bad
  curve_bad e = rw (record_fault_at, two_more, first_bad, e)

  module _ (curve : number 0 ≡ true) where
    after_curve : record_fault_at σ ns at ≡ first_bad number (suc (in_boxes σ)) 1
    unfolding record_fault_at first_bad
    after_curve = rw (record_fault_at, two_more, first_bad, curve)

    pub node_bad : number 1 ≡ false → record_fault_at σ ns at ≡ some 1
    unfolding first_bad
    node_bad e = after_curve ∙ rw (first_bad, e)

    module _ (node : number 1 ≡ true) where
      after_node : first_bad number (suc (in_boxes σ)) 1 ≡ first_bad number (in_boxes σ) 2
      unfolding first_bad
      after_node = rw (first_bad, node)

      pub boxes_next : record_fault_at σ ns at ≡ moved 2 (boxes_fault_at ns (at + 2) (in_boxes σ))
      boxes_next = after_curve ∙ after_node ∙ bad_moved number 2 (box_fine_at ns (at + 2)) (in_boxes σ) (λ k h. box_number_law k)

-- ---- a record at once
in_turn : (a b c : Bool) → (a && (b && c)) ≡ ((a && b) && c)
in_turn true b c = refl
in_turn false b c = refl

and_true : (a : Bool) → (a && true) ≡ a
and_true true = refl
and_true false = refl

-- a + b sides are a of them and then b
sides_parts : (ns : List ℤ) (at a b : ℕ) → (sides_fine ns at a && sides_fine ns (at + 2 * a) b) ≡ sides_fine ns at (a + b)
sides_parts ns at a zero = and_true (sides_fine ns at a) ∙ ap (sides_fine ns at) {x = a} {y = a + 0} (omega arith)
sides_parts ns at a (suc b) =
    let low : at + 2 * a + 2 * b ≡ at + 2 * (a + b) = omega arith in
    let high : at + 2 * a + suc (2 * b) ≡ at + suc (2 * (a + b)) = omega arith in
    let last = side_fine (entry ns (at + 2 * a + 2 * b)) (entry ns (at + 2 * a + suc (2 * b))) in
    in_turn (sides_fine ns at a) (sides_fine ns (at + 2 * a) b) last
    ∙ (rw (low, high, sides_parts ns at a b) refl ∙ ap (sides_fine ns at) {x = suc (a + b)} {y = a + suc b} (omega arith))

-- the sides in two parts, after what else is looked at
pub sides_in_turn : (rest : Bool) (ns : List ℤ) (at a b : ℕ)
    → ((rest && sides_fine ns at a) && sides_fine ns (at + 2 * a) b) ≡ (rest && sides_fine ns at (a + b))
sides_in_turn rest ns at a b =
    sym (in_turn rest (sides_fine ns at a) (sides_fine ns (at + 2 * a) b)) ∙ ap (λ all. rest && all) (sides_parts ns at a b)

module _ (ns : List ℤ) (at : ℕ) where
  abbrev side : ℕ → Bool
  side i = side_fine (entry ns (at + 2 * i)) (entry ns (at + suc (2 * i)))

  each_side : (n : ℕ) → sides_fine ns at n ≡ true → (i : ℕ) → i < n → side i ≡ true
  each_side zero e i h = absurd (omega arith)
  each_side (suc n) e i h =
      let s = both_true (sides_fine ns at n) (side n) e in ⊎_elim (λ f. rw f s.1) (each_side n s.0 i) (eq-or-lt_of_le (le_of_suc-le-suc h))

  all_sides : (n : ℕ) → ((i : ℕ) → i < n → side i ≡ true) → sides_fine ns at n ≡ true
  all_sides zero f = refl
  all_sides (suc n) f = rw (all_sides n (λ i h. f i (omega arith)), f n (omega arith))

  -- side i is at places 2i and 2i + 1
  even : (i : ℕ) → box_fine_at ns at (2 * i) ≡ low_fine (entry ns (at + 2 * i)) (entry ns (at + suc (2 * i)))
  even i = low ns (2 * i) (at + 2 * i) (at + 2 * i) (at + suc (2 * i)) (at + suc (2 * i)) (omega arith) refl refl

  odd : (i : ℕ) → box_fine_at ns at (suc (2 * i)) ≡ in_range (entry ns (at + suc (2 * i)))
  odd i = high ns (suc (2 * i)) (at + suc (2 * i)) (at + suc (2 * i)) (at + suc (suc (2 * i))) (omega arith) refl

  sides_boxes : (n : ℕ) → sides_fine ns at (2 * n) ≡ true → (k : ℕ) → k < 4 * n → box_fine_at ns at k ≡ true
  sides_boxes n e k h =
      let i = k / 2 in
      let s = side_interval (entry ns (at + 2 * i)) (entry ns (at + suc (2 * i))) (each_side (2 * n) e i (omega arith)) in
      ⊎_elim
      (λ l. subst (λ p. box_fine_at ns at p ≡ true) {x = 2 * i} {y = k} (omega arith) (even i ∙ interval_low s))
      (λ l. subst (λ p. box_fine_at ns at p ≡ true) {x = suc (2 * i)} {y = k} (omega arith) (odd i ∙ interval_high s))
      (lt_or_ge (k % 2) 1)

  boxes_sides : (n : ℕ) → ((k : ℕ) → k < 4 * n → box_fine_at ns at k ≡ true) → sides_fine ns at (2 * n) ≡ true
  boxes_sides n f = all_sides (2 * n) (λ i h.
      interval_side (entry ns (at + 2 * i)) (entry ns (at + suc (2 * i)))
      (interval (sym (even i) ∙ f (2 * i) (omega arith)) (sym (odd i) ∙ f (suc (2 * i)) (omega arith))))

module _ (σ : Setting) (ns : List ℤ) (at : ℕ) where
  abbrev each : ℕ → Bool
  each = fine_at σ.most ns at

  pub record_fine_law : record_fine σ ns at ≡ true → record_fault_at σ ns at ≡ none
  record_fine_law e =
      let n = in_boxes σ in
      let a = both_true (each 0 && each 1) (sides_fine ns (at + 2) (2 * break_points σ)) e in
      let b = both_true (each 0) (each 1) a.0 in
      let f = bad_none (box_fine_at ns (at + 2)) n 0 (λ k h. rw zero-add (sides_boxes ns (at + 2) (break_points σ) a.1 k h)) in
      boxes_next σ ns at b.0 b.1 ∙ ap (moved 2) f

  pub record_unfine : record_fine σ ns at ≡ false → record_fault_at σ ns at ≡ none → ⊥
  unfolding record_fault_at
  record_unfine e l = clash (cc (e, fine l))
    where
      fine : first_bad each (record_length σ) 0 ≡ none → record_fine σ ns at ≡ true
      fine n =
          let all : (k : ℕ) → k < record_length σ → each k ≡ true = λ k h. rw (zero-add k) at (none_bad each (record_length σ) 0 n k h) in
          rw (all 0 (omega arith), all 1 (omega arith))
          (boxes_sides ns (at + 2) (break_points σ) (λ k h. sym (box_number_law σ ns at k) ∙ all (2 + k) (omega arith)))

  pub record_below : (p : ℕ) → record_fault_at σ ns at ≡ some p → p < record_length σ
  unfolding record_fault_at
  record_below p e = omega (arith, bad_below each (record_length σ) 0 p e)

-- ---- a list of records
module _ (σ : Setting) (ns : List ℤ) where
  abbrev pub in_list : ℕ → Bool
  in_list i = number_fine σ.most (i % record_length σ) (entry ns i) (entry ns (suc i))

  -- a number of the list is one of the record that begins at index `at`
  pub in_record : (at : ℕ) → at % record_length σ ≡ 0 → (k : ℕ) → k < record_length σ → in_list (at + k) ≡ fine_at σ.most ns at k
  in_record at e k h =
      let g : suc (at + k) ≡ at + suc k = omega arith in
      rw (place_in (record_length σ) h at e, g)

  record_part : (at : ℕ) → at % record_length σ ≡ 0 → first_bad in_list (record_length σ) at ≡ moved at (record_fault_at σ ns at)
  unfolding record_fault_at
  record_part at e = bad_moved in_list at (fine_at σ.most ns at) (record_length σ) (in_record at e)

  -- the first `at` numbers are whole records, and are fine
  pub record ReadTo (at : ℕ) : Type 0 where
    pub whole : at % record_length σ ≡ 0
    pub inside : at ≤ length ns
    pub fine : first_bad in_list at 0 ≡ none

  pub read_none : ReadTo 0
  unfolding first_bad
  read_none = record { whole = zero-mod (record_length σ); inside = omega arith; fine = refl }

  -- a turn of a loop over the records: one more is there
  pub record Turn (at : ℕ) : Type 0 where
    pub read : ReadTo at
    pub more : at + record_length σ ≤ length ns

  pub turn_at : {at : ℕ} → ReadTo at → length ns % record_length σ ≡ 0 → at < length ns → Turn at
  turn_at r e h = record { read = r; more = record_left (record_length σ) r.whole e h }

  module _ (at : ℕ) (t : Turn at) where
    with_record : first_bad in_list (at + record_length σ) 0 ≡ moved at (record_fault_at σ ns at)
    with_record =
        gone_on in_list at (record_length σ) t.read.fine ∙ ap (first_bad in_list (record_length σ)) {x = 0 + at} {y = at} (omega arith)
        ∙ record_part at t.read.whole

    pub read_more : record_fault_at σ ns at ≡ none → ReadTo (at + record_length σ)
    read_more e =
        record { whole = record_next (record_length σ) at t.read.whole; inside = t.more; fine = with_record ∙ ap (moved at) e }

    pub record_bad : (p : ℕ) → record_fault_at σ ns at ≡ some p → number_fault σ ns ≡ some (at + p)
    unfolding number_fault
    record_bad p e =
        let h = t.more in
        let g = found_first in_list (at + record_length σ) (length ns - (at + record_length σ)) (at + p) (with_record ∙ ap (moved at) e) in
        let n : length ns ≡ at + record_length σ + (length ns - (at + record_length σ)) = omega arith in
        ap (λ m. first_bad in_list m 0) n ∙ g

  pub read_whole : (at : ℕ) → ReadTo at → length ns ≤ at → number_fault σ ns ≡ none
  unfolding number_fault
  read_whole at r l =
      let i = r.inside in
      let e : at ≡ length ns = omega arith in
      rw e at r.fine

  -- ---- the record of the first bad number
  start_is : (at p : ℕ) → at % record_length σ ≡ 0 → p < record_length σ → record_length σ * ((at + p) / record_length σ) ≡ at
  start_is at p e l =
      let w = whole_is (record_length σ) at e in
      ap (λ n. record_length σ * ((n + p) / record_length σ)) w
      ∙ ap (λ k. record_length σ * k) (record_is (record_length σ) l (at / record_length σ)) ∙ sym w

  pub begins_bad : (at : ℕ) → Turn at → record_fine σ ns at ≡ false → Some at ≡ record_start σ (number_fault σ ns)
  begins_bad at t b = go (record_fault_at σ ns at) refl
    where
      go : (o : Option ℕ) → record_fault_at σ ns at ≡ o → Some at ≡ record_start σ (number_fault σ ns)
      go none e = absurd (record_unfine σ ns at b e)
      go (some p) e = sym
          (ap (record_start σ) (record_bad at t p e) ∙ ap Some (start_is at p t.read.whole (record_below σ ns at p e)))

  pub begins_nowhere : (at : ℕ) → ReadTo at → length ns ≤ at → None ≡ record_start σ (number_fault σ ns)
  begins_nowhere at r l = sym (ap (record_start σ) (read_whole at r l))

  pub starts_none : None ≡ record_start σ (number_fault σ ns) → number_fault σ ns ≡ none
  starts_none e = go (number_fault σ ns) e
    where
      go : (o : Option ℕ) → None ≡ record_start σ o → o ≡ none
      go none f = refl
      go (some i) f = absurd (none-some _ f)

  fault_below : (f : ℕ) → number_fault σ ns ≡ some f → f < length ns
  unfolding number_fault
  fault_below f e = omega (arith, bad_below in_list (length ns) 0 f e)

  fine_before : (f : ℕ) → number_fault σ ns ≡ some f → (k : ℕ) → k < f → in_list k ≡ true
  unfolding number_fault
  fine_before f e k h = bad_first in_list (length ns) 0 f e k (omega arith) h

  found_bad : (f : ℕ) → number_fault σ ns ≡ some f → in_list f ≡ false
  unfolding number_fault
  found_bad f e = bad_is in_list (length ns) 0 f e

  module _ (w : length ns % record_length σ ≡ 0) {at : ℕ} (s : Some at ≡ record_start σ (number_fault σ ns)) where
    record Begins : Type 0 where
      found : ℕ
      is : number_fault σ ns ≡ some found
      start : at ≡ record_length σ * (found / record_length σ)

    begins : Begins
    begins = go (number_fault σ ns) refl s
      where
        go : (o : Option ℕ) → number_fault σ ns ≡ o → Some at ≡ record_start σ o → Begins
        go none e f = absurd (none-some at (sym f))
        go (some i) e f = record { found = i; is = e; start = same_Some at _ f }

    after : at ≤ begins.found
    after = let b = begins in omega (arith, b.start, div-add-mod b.found (record_length σ))

    -- the first bad number is one of the record that begins there
    pub bad_turn : Turn at
    bad_turn = let b = begins in turn_at (record {
      whole = subst (λ n. n % record_length σ ≡ 0) (sym b.start) (mul-mod_right (record_length σ) (b.found / record_length σ));
      inside = omega (arith, after, fault_below b.found b.is);
      fine = bad_none in_list at 0 (λ k l. fine_before b.found b.is (0 + k) (omega (arith, after)));
    }) w (omega (arith, after, fault_below b.found b.is))

    pub bad_there : (p : ℕ) → record_fault_at σ ns at ≡ some p → number_fault σ ns ≡ some (at + p)
    bad_there p e = record_bad at bad_turn p e

    pub bad_within : (p : ℕ) → record_fault_at σ ns at ≡ some p → at + p < length ns
    bad_within p e = fault_below (at + p) (bad_there p e)

    pub bad_somewhere : record_fault_at σ ns at ≡ none → ⊥
    bad_somewhere e =
        let b = begins in
        let t = bad_turn in
        let within : b.found < at + record_length σ
        = omega (arith, b.start, div-add-mod b.found (record_length σ), mod-lt b.found {m = record_length σ} (omega arith)) in
        let f = rw (zero-add b.found) at (none_bad in_list (at + record_length σ) 0 (read_more at t e).fine b.found within) in
        clash (cc (f, found_bad b.found b.is))
