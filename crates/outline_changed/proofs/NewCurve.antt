-- An outline in which other numbers stand for a curve's: they are read as by themselves, and the curve after them as it was.
use mathlib.Core.Path.{◌≡◌, refl, sym, ◌∙◌, ap, ap₂}
use mathlib.Core.Bool.{Bool, true, false, ◌||◌, ◌&&◌}
use mathlib.Core.List.{List, [], ◌∷◌, ◌++◌}
use mathlib.Core.Option.{Option, none, some}
use Prim.Native.Nat.{ℕ, zero, suc, ◌+◌, ◌-◌, ◌≤◌, ◌<◌}
use native.Mathlib.Nat.{zero-add, add-zero, not-suc-le-zero}
use native.Mathlib.Omega.{arith}
use borrow.Author.Tests.{le-ltb, le-leb, lt-leb, ltb-false}
use lib.Dec.{ltb}
use lib.ListN.{length, take, drop, length-append, length-drop, get_or-append}
use lib.Seq.{length-take-le, get_or-take, get_or-drop, get_or-append-add}
use lib.IntN.{ℤ, pos}
use Rattle.setting.specs.Setting.{degree_pieces}
use Rattle.integers.specs.Entry.{entry}
use Rattle.integers.specs.Equal.{equal}
use Rattle.integers.specs.First.{first_bad}
use Rattle.integers.proofs.Clash.{clash}
use Rattle.integers.proofs.First.{moved, bad_moved, none_bad}
use Rattle.refusals.specs.declared.Refusal.{Refusal}
use Rattle.refusals.specs.declared.Refusal.TheVariants.{Degree, Coordinate, Gap, DegreePieces}
use Rattle.curve_nodes.specs.declared.Curve.{Curve}
use Rattle.outline.specs.Curves.{degree_fine, coordinates, degree_at, next_at, curve_at}
use Rattle.outline.specs.Faults.{coordinate_fine, first_beyond, meets_before, fault_at}
use Rattle.outline.specs.Checks.{curves, faulty, with_curve, outline_from}
use Rattle.outline.proofs.Degrees.{degree_most}
use Rattle.outline.proofs.Faultless.{fault_degree, fault_pieces, faultless}
use Rattle.outline.proofs.Steps.{outline_begins, outline_ends, outline_ended, outline_step, outline_faulty}
use Rattle.outline_changed.specs.Inside.{same_point, own_fault, meets_old, meets_next}
use Rattle.outline_changed.proofs.Transfer.{fault_beyond, Sound, sound, sound_none, sound_gap, same_degree, same_next, same_curve, same_sound}

-- ---- the list with other numbers from index p up to q
abbrev numbers : List ℤ → List ℤ
numbers new = take (next_at new 0) new

abbrev pub put : List ℤ → (p q : ℕ) → (new : List ℤ) → List ℤ
put ns p q new = take p ns ++ (numbers new ++ drop q ns)

module _ (ns new : List ℤ) (p q : ℕ) (inside : p ≤ length ns) where
  front_long : length (take p ns) ≡ p
  front_long = length-take-le p ns inside

  pub put_before : (i : ℕ) → i < p → entry (put ns p q new) i ≡ entry ns i
  put_before i h =
      get_or-append (take p ns) (numbers new ++ drop q ns) (pos 0) i (omega (arith, front_long)) ∙ get_or-take p ns i (pos 0) h

  put_from : (i : ℕ) → entry (put ns p q new) (p + i) ≡ entry (numbers new ++ drop q ns) i
  put_from i =
      ap (λ n. entry (put ns p q new) (n + i)) (sym front_long) ∙ get_or-append-add (take p ns) (numbers new ++ drop q ns) i (pos 0)

  put_new : (i : ℕ) → i < next_at new 0 → next_at new 0 ≤ length new → entry (put ns p q new) (p + i) ≡ entry new i
  put_new i h l =
      put_from i ∙ get_or-append (numbers new) (drop q ns) (pos 0) i (omega (arith, length-take-le (next_at new 0) new l))
      ∙ get_or-take (next_at new 0) new i (pos 0) h

  put_behind : (i : ℕ) → next_at new 0 ≤ length new → entry (put ns p q new) (p + next_at new 0 + i) ≡ entry ns (q + i)
  put_behind i l =
      let long = length-take-le (next_at new 0) new l in
      let a : p + next_at new 0 + i ≡ p + (length (numbers new) + i) = omega (arith, long) in
      ap (entry (put ns p q new)) a ∙ put_from (length (numbers new) + i) ∙ get_or-append-add (numbers new) (drop q ns) i (pos 0)
      ∙ get_or-drop q ns i (pos 0)

  put_length : q ≤ length ns → next_at new 0 ≤ length new → length (put ns p q new) + q ≡ p + next_at new 0 + length ns
  put_length h l =
      omega (
        arith,
        length-append (take p ns) (numbers new ++ drop q ns),
        length-append (numbers new) (drop q ns),
        length-drop q ns,
        front_long,
        length-take-le (next_at new 0) new l,
      )

  -- its first number stands there, whatever it is
  first_number : 0 < length new → entry (put ns p q new) p ≡ entry new 0
  first_number h = ap (entry (put ns p q new)) {x = p} {y = p + 0} (omega arith) ∙ put_from 0 ∙ go new h
    where
      go : (l : List ℤ) → 0 < length l → entry (numbers l ++ drop q ns) 0 ≡ entry l 0
      go [] h = absurd (not-suc-le-zero h)
      go (z ∷ l) h = let n : next_at (z ∷ l) 0 ≡ suc (coordinates (degree_at (z ∷ l) 0)) = omega arith in rw n

  pub begun : 0 < length new → p < length (put ns p q new)
  begun h = omega (arith, length-append (take p ns) (numbers new ++ drop q ns), length-append (numbers new) (drop q ns), front_long, go new h)
    where
      go : (l : List ℤ) → 0 < length l → 0 < length (numbers l)
      go [] h = absurd (not-suc-le-zero h)
      go (z ∷ l) h = let n : next_at (z ∷ l) 0 ≡ suc (coordinates (degree_at (z ∷ l) 0)) = omega arith in rw n (omega arith)

-- ---- the new curve
module _ (m : ℕ) (ns new : List ℤ) (p q : ℕ) (inside : p ≤ length ns) (behind : q ≤ length ns) (long : length new ≡ 13) where
  abbrev ch : List ℤ
  ch = put ns p q new

  first : entry ch p ≡ entry new 0
  first = first_number ns new p q inside (omega arith)

  module _ (fine : degree_fine (entry new 0) ≡ true) where
    room : next_at new 0 ≤ length new
    room = omega (arith, degree_most new 0 fine)

    same_new : (i : ℕ) → i < 1 + coordinates (degree_at new 0) → entry ch (p + i) ≡ entry new (0 + i)
    same_new i h = put_new ns new p q inside i (omega arith) room ∙ ap (entry new) (sym (zero-add i))

    pub new_curve : curve_at ch p ≡ curve_at new 0
    new_curve = same_curve new ch 0 p same_new

    pub new_next : next_at ch p ≡ p + next_at new 0
    new_next = same_next new ch 0 p same_new ∙ omega arith

    new_ends : p + next_at new 0 ≤ length ch
    new_ends = omega (arith, put_length ns new p q inside behind room)

    -- 4, found as many places on
    beyond_moved : (n : ℕ) → n ≤ coordinates (degree_at new 0) → first_beyond ch n (p + 1) ≡ moved p (first_beyond new n 1)
    beyond_moved n h =
        bad_moved (λ k. coordinate_fine (entry ch k)) (p + 1) other n (λ k l. ap coordinate_fine (there k l))
        ∙ twice (first_bad other n 0) ∙ ap (moved p) (sym (bad_moved (λ k. coordinate_fine (entry new k)) 1 other n (λ k l. refl)))
      where
        other : ℕ → Bool
        other k = coordinate_fine (entry new (1 + k))

        there : (k : ℕ) → k < n → entry ch (p + 1 + k) ≡ entry new (1 + k)
        there k l = ap (entry ch) {x = p + 1 + k} {y = p + (1 + k)} (omega arith) ∙ put_new ns new p q inside (1 + k) (omega arith) room

        twice : (o : Option ℕ) → moved (p + 1) o ≡ moved p (moved 1 o)
        twice none = refl
        twice (some k) = ap some {x = p + 1 + k} {y = p + (1 + k)} (omega arith)

  -- a fault of its own is a fault there
  pub own_there : (r : Refusal) → own_fault m new p ≡ some r → fault_at m ch p ≡ some r
  unfolding own_fault
  own_there r = go (degree_fine (entry new 0)) refl (degree_pieces (degree_at new 0) m) refl (first_beyond new (coordinates (degree_at new 0)) 1) refl
    where
      found : (fine : degree_fine (entry new 0) ≡ true) → degree_pieces (degree_at new 0) m ≡ true → (i : ℕ)
          → first_beyond new (coordinates (degree_at new 0)) 1 ≡ some i → fault_at m ch p ≡ some (Coordinate (p + i))
      found fine e i f =
          let d : degree_at ch p ≡ degree_at new 0 = same_degree new ch 0 p (same_new fine) in
          let b = beyond_moved fine (coordinates (degree_at new 0)) (omega arith) ∙ ap (moved p) f in
          fault_beyond m ch p (p + i) (rw first fine) (rw d e) (omega (arith, new_ends fine, new_next fine))
          (ap (λ n. first_beyond ch (coordinates n) (p + 1)) d ∙ b)

      go : (b : Bool) → degree_fine (entry new 0) ≡ b → (e : Bool) → degree_pieces (degree_at new 0) m ≡ e → (o : Option ℕ)
          → first_beyond new (coordinates (degree_at new 0)) 1 ≡ o
          → ◌≡◌ {A = Option Refusal} (elim b [
            | false ↦ some (Degree p)
            | true ↦ elim e [ false ↦ some (DegreePieces p) | true ↦ elim o [ some i ↦ some (Coordinate (p + i)) | none ↦ none ] ]
          ]) (some r)
          → fault_at m ch p ≡ some r
      go false b e d o f g = fault_degree m ch p (rw first b) ∙ g
      go true b false d o f g =
          fault_pieces m ch p (rw first b) (rw (same_degree new ch 0 p (same_new b)) d) ∙ g
      go true b true d (some i) f g = found b d i f ∙ g
      go true b true d none f g = clash (cc)

  -- with none of its own it has none there, but perhaps 17
  pub own_sound : own_fault m new p ≡ none → Sound m ch p
  unfolding own_fault
  own_sound = go (degree_fine (entry new 0)) refl (degree_pieces (degree_at new 0) m) refl (first_beyond new (coordinates (degree_at new 0)) 1) refl
    where
      go : (b : Bool) → degree_fine (entry new 0) ≡ b → (e : Bool) → degree_pieces (degree_at new 0) m ≡ e → (o : Option ℕ)
          → first_beyond new (coordinates (degree_at new 0)) 1 ≡ o
          → ◌≡◌ {A = Option Refusal} (elim b [
            | false ↦ some (Degree p)
            | true ↦ elim e [ false ↦ some (DegreePieces p) | true ↦ elim o [ some i ↦ some (Coordinate (p + i)) | none ↦ none ] ]
          ]) none
          → Sound m ch p
      go false b e d o f g = clash (cc)
      go true b false d o f g = clash (cc)
      go true b true d (some i) f g = clash (cc)
      go true b true d none f g =
          same_sound new ch 0 p (same_new b) m
          (record {
            degree = b;
            enough = d;
            ends = room b;
            fine = none_bad (λ k. coordinate_fine (entry new k)) (coordinates (degree_at new 0)) 1 f;
          })
          (omega (arith, new_ends b))

  -- 17 of it
  pub meets_there : degree_fine (entry new 0) ≡ true → meets_before ch p ≡ meets_old ns p new
  meets_there fine = go (ltb p 2) refl
    where
      go : (b : Bool) → ltb p 2 ≡ b
          → b || (equal (entry ch (p - 2)) (entry ch (p + 1)) && equal (entry ch (p - 1)) (entry ch (p + 2))) ≡ b || same_point ns (p - 2) new 1
      go true e = refl
      go false e =
          let h = ltb-false p 2 e in
          let x = put_before ns new p q inside (p - 2) (omega arith) in
          let y = put_before ns new p q inside (p - 1) (omega arith) in
          let u = put_new ns new p q inside 1 (omega arith) (room fine) in
          let v = put_new ns new p q inside 2 (omega arith) (room fine) in
          let a : p - 2 + 1 ≡ p - 1 = omega arith in
          rw (x, y, u, v, a)

  -- ---- the curves after it: from there on the two lists have the same numbers
  module _ (fine : degree_fine (entry new 0) ≡ true) where
    abbrev a : ℕ
    a = p + next_at new 0

    tail : (i : ℕ) → entry ch (a + i) ≡ entry ns (q + i)
    tail i = put_behind ns new p q inside i (room fine)

    tail_long : length ch + q ≡ a + length ns
    tail_long = put_length ns new p q inside behind (room fine)

    same_tail : (i j : ℕ) → entry ch (a + i + j) ≡ entry ns (q + i + j)
    same_tail i j =
        let x : a + i + j ≡ a + (i + j) = omega arith in
        let y : q + i + j ≡ q + (i + j) = omega arith in
        rw (x, y) (tail (i + j))

    tail_sound : (i : ℕ) → Sound m ns (q + i) → Sound m ch (a + i)
    tail_sound i s =
        same_sound ns ch (q + i) (a + i) (λ j h. same_tail i j) m s (omega (arith, s.ends, tail_long))

    meets_tail : (i : ℕ) → 2 ≤ i → meets_before ch (a + i) ≡ meets_before ns (q + i)
    meets_tail i h =
        let e : a + i - 2 ≡ a + (i - 2) = omega arith in
        let f : q + i - 2 ≡ q + (i - 2) = omega arith in
        let g : a + i - 1 ≡ a + (i - 1) = omega arith in
        let k : q + i - 1 ≡ q + (i - 1) = omega arith in
        rw (le-ltb (a + i) 2 (omega arith), le-ltb (q + i) 2 (omega arith), e, f, g, k, tail (i - 2), tail (i - 1), same_tail i 1, same_tail i 2)

    -- all but the first of them
    later : (left i : ℕ) (cs : List Curve) → 2 ≤ i → outline_from left m ns (q + i) ≡ curves cs → outline_from left m ch (a + i) ≡ curves cs
    later left i [] h e = outline_ended m ch (a + i) left (omega (arith, outline_ends left m ns (q + i) e, tail_long))
    later zero i (c ∷ cs) h e = absurd (not-suc-le-zero (outline_begins 0 m ns (q + i) c cs e).some)
    later (suc left) i (c ∷ cs) h e =
        let b = outline_begins (suc left) m ns (q + i) c cs e in
        let s = sound m ns (q + i) b.no_fault in
        let n = 1 + coordinates (degree_at ns (q + i)) in
        let none_here = sound_none m ch (a + i) (tail_sound i s) (meets_tail i h ∙ (faultless m ns (q + i) b.no_fault).meets) in
        let x : suc left - 1 ≡ left = omega arith in
        let y : next_at ns (q + i) ≡ q + (i + n) = omega arith in
        let z : a + i + n ≡ a + (i + n) = omega arith in
        outline_step m ch (a + i) left none_here
        ∙ ap₂ with_curve (same_curve ns ch (q + i) (a + i) (λ j l. same_tail i j) ∙ sym b.is)
        (ap (outline_from left m ch) (same_next ns ch (q + i) (a + i) (λ j l. same_tail i j) ∙ z)
        ∙ later left (i + n) cs (omega arith) (rw (x, y) at b.rest))

    -- 17 of the first of them
    meets_after : q < length ns → meets_before ch a ≡ meets_next ns q new
    meets_after h =
        let e : a - 2 ≡ p + (next_at new 0 - 2) = omega arith in
        let f : a - 1 ≡ p + (next_at new 0 - 2 + 1) = omega arith in
        let g : q + 1 + 1 ≡ q + 2 = omega arith in
        rw (
          le-ltb a 2 (omega arith),
          lt-leb (length ns) q h,
          e,
          f,
          put_new ns new p q inside (next_at new 0 - 2) (omega arith) (room fine),
          put_new ns new p q inside (next_at new 0 - 2 + 1) (omega arith) (room fine),
          tail 1,
          tail 2,
          g,
        )

    pub after_new : (left : ℕ) (cs : List Curve) → outline_from left m ns q ≡ curves cs
        → outline_from left m ch a ≡ elim (meets_next ns q new) [ true ↦ curves cs | false ↦ faulty (Gap a) ]
    after_new left [] e =
        let o = outline_ends left m ns q e in rw (le-leb (length ns) q o) (outline_ended m ch a left (omega (arith, o, tail_long)))
    after_new zero (c ∷ cs) e = absurd (not-suc-le-zero (outline_begins 0 m ns q c cs e).some)
    after_new (suc left) (c ∷ cs) e = go (meets_next ns q new) refl
      where
        go : (t : Bool) → meets_next ns q new ≡ t → outline_from (suc left) m ch a ≡ elim t [ true ↦ curves (c ∷ cs) | false ↦ faulty (Gap a) ]
        go t f =
            let b = outline_begins (suc left) m ns q c cs e in
            let q0 : q + 0 ≡ q = add-zero q in
            let a0 : a + 0 ≡ a = add-zero a in
            let s = rw a0 at (tail_sound 0 (rw q0 (sound m ns q b.no_fault))) in
            let meets = meets_after b.inside ∙ f in
            let same : (j : ℕ) → j < 1 + coordinates (degree_at ns q) → entry ch (a + j) ≡ entry ns (q + j) = (λ j l. tail j) in
            let n = 1 + coordinates (degree_at ns q) in
            let x : suc left - 1 ≡ left = omega arith in
            let y : next_at ns q ≡ q + n = omega arith in
            by t s meets
            (λ none_here.
            outline_step m ch a left none_here ∙ ap₂ with_curve (same_curve ns ch q a same ∙ sym b.is)
            (ap (outline_from left m ch) (same_next ns ch q a same) ∙ later left n cs (omega arith) (rw (x, y) at b.rest)))
            b.inside
          where
            by : (t : Bool) → Sound m ch a → meets_before ch a ≡ t → (fault_at m ch a ≡ none → outline_from (suc left) m ch a ≡ curves (c ∷ cs))
                → q < length ns → outline_from (suc left) m ch a ≡ elim t [ true ↦ curves (c ∷ cs) | false ↦ faulty (Gap a) ]
            by true s g on h = on (sound_none m ch a s g)
            by false s g on h = outline_faulty m ch a left (Gap a) (omega (arith, tail_long)) (sound_gap m ch a s g)
