-- What judging answers, check by check.
use mathlib.Core.Path.{◌≡◌, refl, sym, ◌∙◌, subst}
use mathlib.Core.Bool.{Bool, true, false, not}
use mathlib.Core.List.{List}
use mathlib.Core.Option.{Option, none, some}
use Prim.Native.Nat.{ℕ, ◌%◌, ◌<◌}
use borrow.Author.Tests.{not-true, not-false, lt-leb}
use lib.Dec.{T, eqb, leb, eqb→eq, eqb_refl}
use lib.ListN.{length}
use lib.IntN.{ℤ}
use mir.Syntax.{w32}
use mir.Val.{SFits}
use mir.Facts.{to_z-of_z}
use Rattle.std.specs.Prelude.{Ok, Err}
use Rattle.refusals.specs.declared.Refusal.{Refusal}
use Rattle.refusals.specs.declared.Refusal.TheVariants.{Pieces, LeafListLength, LeafListNumber, PointX, PointY}
use Rattle.boxes.specs.Ranges.{in_range}
use Rattle.setting.specs.Setting.{Setting, pieces_fine, HasRows, record_length}
use Rattle.setting.proofs.Pieces.{fine_has_rows, has_rows_fine}
use Rattle.judge_list.specs.Checks.{length_fine, number_fault}
use Rattle.judge.specs.Judging.{Judgement, list_fault, judging_fault, Passed, Verdict, Judged}
use Rattle.judge.specs.Inside.{checked_of}
use Rattle.integers.proofs.Clash.{clash}
use Rattle.integers.proofs.Both.{and_false}
use Rattle.integers.proofs.Ranges.{stored}

eqb_is : (a b : ℕ) → a ≡ b → eqb a b ≡ true
eqb_is a b e = go (eqb a b) (subst (λ n. T (eqb a n)) e (eqb_refl a))
  where
    go : (t : Bool) → T t → t ≡ true
    go true u = refl
    go false u = absurd u

eqb_not : (a b : ℕ) → (a ≡ b → ⊥) → eqb a b ≡ false
eqb_not a b n = go (eqb a b) (λ t. n (eqb→eq a b t))
  where
    go : (t : Bool) → (T t → ⊥) → t ≡ false
    go false u = refl
    go true u = absurd (u tt)

-- ---- the number of pieces
pub pieces_none : {m : ℕ} → m < 1 → pieces_fine m ≡ false
pieces_none {m} h = rw (lt-leb 1 m h)

pub pieces_many : {m : ℕ} → 8 < m → pieces_fine m ≡ false
pieces_many {m} h = rw (lt-leb m 8 h) (and_false (leb 1 m))

module _ (σ : Setting) (ns : List ℤ) where
  -- ---- 18
  pub pieces_bad : pieces_fine σ.pieces ≡ false → list_fault σ ns ≡ some Pieces
  pieces_bad e = rw (list_fault, e)

  module _ (has : HasRows σ.pieces) where
    -- ---- 9
    length_bad : length_fine σ (length ns) ≡ false → list_fault σ ns ≡ some (LeafListLength (length ns))
    length_bad e = rw (list_fault, has_rows_fine σ.pieces has, e)

    pub list_empty : length ns ≡ 0 → list_fault σ ns ≡ some (LeafListLength (length ns))
    list_empty e = length_bad (rw (eqb_is (length ns) 0 e))

    pub list_cut : (length ns % record_length σ ≡ 0 → ⊥) → list_fault σ ns ≡ some (LeafListLength (length ns))
    list_cut n = length_bad (rw (eqb_not (length ns % record_length σ) 0 n) (and_false (not (eqb (length ns) 0))))

    module _ (some-numbers : length ns ≡ 0 → ⊥) (whole : length ns % record_length σ ≡ 0) where
      length_fine_law : length_fine σ (length ns) ≡ true
      length_fine_law = rw (eqb_not (length ns) 0 some-numbers, eqb_is (length ns % record_length σ) 0 whole)

      -- ---- 10
      pub number_bad : (i : ℕ) → number_fault σ ns ≡ some i → list_fault σ ns ≡ some (LeafListNumber i)
      number_bad i e = rw (list_fault, has_rows_fine σ.pieces has, length_fine_law, e)

      pub list_fine : number_fault σ ns ≡ none → list_fault σ ns ≡ none
      list_fine e = rw (list_fault, has_rows_fine σ.pieces has, length_fine_law, e)

  -- ---- a list that passed
  pub list_passed : list_fault σ ns ≡ none → HasRows σ.pieces × Passed σ ns
  list_passed e = go (pieces_fine σ.pieces) (length_fine σ (length ns)) (number_fault σ ns) refl refl refl e
    where
      go : (a b : Bool) (o : Option ℕ) → pieces_fine σ.pieces ≡ a → length_fine σ (length ns) ≡ b → number_fault σ ns ≡ o
          → ◌≡◌ {A = Option Refusal} (elim a [
            | false ↦ some Pieces
            | true ↦ elim b [
              | false ↦ some (LeafListLength (length ns))
              | true ↦ elim o [ some i ↦ some (LeafListNumber i) | none ↦ none ]
            ]
          ]) none → HasRows σ.pieces × Passed σ ns
      go true true none p l n f = (fine_has_rows σ.pieces p, record { whole = l; numbers = n })
      go true true (some i) p l n f = clash (cc)
      go true false o p l n f = clash (cc)
      go false b o p l n f = clash (cc)

  pub checked_fine : Ok tt ≡ checked_of (list_fault σ ns) → list_fault σ ns ≡ none
  checked_fine e = go (list_fault σ ns) e
    where
      go : (o : Option Refusal) → Ok tt ≡ checked_of o → o ≡ none
      go none f = refl
      go (some r) f = clash (cc)

  pub checked_refused : {r : Refusal} → Err r ≡ checked_of (list_fault σ ns) → list_fault σ ns ≡ some r
  checked_refused {r} e = go (list_fault σ ns) e
    where
      go : (o : Option Refusal) → Err r ≡ checked_of o → o ≡ some r
      go none f = clash (cc)
      go (some q) f = cc

-- ---- the test of a coordinate z, as the code has it
module _ {z : ℤ} (fits : SFits w32 z) {r : Bool} (e : r ≡ in_range (stored w32 z)) where
  pub range_bad : not r ≡ true → in_range z ≡ false
  range_bad h = rw (to_z-of_z fits) at (sym e ∙ not-true r h)

  pub range_fine : not r ≡ false → in_range z ≡ true
  range_fine h = rw (to_z-of_z fits) at (sym e ∙ not-false r h)

module _ (σ : Setting) (ns : List ℤ) (x y : ℤ) where
  -- ---- 18, 9 and 10 come before the point
  pub list_first : {r : Refusal} → list_fault σ ns ≡ some r → judging_fault σ ns x y ≡ some r
  unfolding judging_fault
  list_first e = rw (judging_fault, e)

  -- ---- 11, of a list that passed
  module _ (has : HasRows σ.pieces) (p : Passed σ ns) where
    pub x_bad : in_range x ≡ false → judging_fault σ ns x y ≡ some PointX
    unfolding judging_fault
    x_bad e = rw (judging_fault, list_fault, has_rows_fine σ.pieces has, p.whole, p.numbers, e)

    pub y_bad : in_range x ≡ true → in_range y ≡ false → judging_fault σ ns x y ≡ some PointY
    unfolding judging_fault
    y_bad e f = rw (judging_fault, list_fault, has_rows_fine σ.pieces has, p.whole, p.numbers, e, f)

    pub none_bad : in_range x ≡ true → in_range y ≡ true → judging_fault σ ns x y ≡ none
    unfolding judging_fault
    none_bad e f = rw (judging_fault, list_fault, has_rows_fine σ.pieces has, p.whole, p.numbers, e, f)

  -- ---- the answer
  pub judged_refused : (r : Refusal) → judging_fault σ ns x y ≡ some r → Judged σ ns x y (Err r)
  judged_refused r e = subst (λ o. Verdict σ o ns x y (Err r)) (sym e) refl

  pub judged_found : (a : Judgement) → judging_fault σ ns x y ≡ none → Verdict σ none ns x y a → Judged σ ns x y a
  judged_found a e v = subst (λ o. Verdict σ o ns x y a) (sym e) v
