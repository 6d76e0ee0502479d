-- A curve banded by itself: how many leaves it has, whatever is lent, and its records in a part of a list that is as long as they are.
use mathlib.Core.Path.{◌≡◌, refl, sym, ◌∙◌, ap, ap₂}
use mathlib.Core.Bool.{Bool, true, false}
use mathlib.Core.List.{List, [], ◌∷◌, ◌++◌, append-nil, append_assoc}
use mathlib.Core.Option.{Option, none, some}
use Prim.Native.Nat.{ℕ, ◌+◌, ◌-◌, ◌*◌, ◌≤◌}
use native.Mathlib.Omega.{arith}
use borrow.Author.Tests.{le-ltb}
use lib.Dec.{ltb}
use lib.ListN.{length, take, drop, drop_of_length-le}
use lib.Seq.{sets, sets-eq, drop-drop}
use lib.IntN.{ℤ}
use Rattle.std.specs.Prelude.{Result, Ok, Err}
use Rattle.setting.specs.Setting.{Setting, lists, relimited, record_length}
use Rattle.setting.proofs.Pieces.{record_length_is}
use Rattle.integers.proofs.Clash.{clash}
use Rattle.refusals.specs.declared.Refusal.{Refusal}
use Rattle.refusals.specs.declared.Refusal.TheVariants.{TooWide, TooFewRecords, TooManyLeaves}
use Rattle.refusals.specs.Refusals.{spot_of}
use Rattle.curve_nodes.specs.declared.Curve.{Curve}
use Rattle.walk_tree.specs.Tree.{first_failing}
use Rattle.walk_curve.specs.Walked.{node_meets, ends_of}
use Rattle.walk_curve.specs.Inside.{walked_of}
use Rattle.band_records.specs.Records.{records_of, all_records}
use Rattle.band_records.proofs.Lengths.{records_length}
use Rattle.band_passes.specs.Leaves.{first_too_wide, leaves_of, nodes_of}
use Rattle.band_passes.proofs.Wide.{wide_later, wide_here}
use Rattle.band_passes.proofs.Counting.{few_leaves}
use Rattle.band_banded.specs.declared.banding.Banded.{Banded}
use Rattle.band_banded.specs.Banding.{done, answer_for, band_curves, written_by}
use Rattle.band_banded.proofs.ByPieces.{band_curves_same}

-- ---- what the walk of a curve says
abbrev found : Option ℕ → ℕ → Result ℕ ℕ
found o l = elim o [ some n ↦ Err n | none ↦ Ok l ]

walked_leaves : (o : Option ℕ) (l m : ℕ) → Ok m ≡ found o l → (o ≡ none) × (m ≡ l)
walked_leaves none l m e = (refl, cc)
walked_leaves (some n) l m e = clash (cc)

walked_wide : (o : Option ℕ) (l m : ℕ) → Err m ≡ found o l → o ≡ some m
walked_wide none l m e = clash (cc)
walked_wide (some n) l m e = cc

pub new_wide : (σ : Setting) (T : ℤ) (c : Curve) (n : ℕ) → Err n ≡ walked_of σ T c → first_failing (node_meets σ T c) (ends_of σ T c) ≡ some n
unfolding walked_of
new_wide σ T c n e = walked_wide (first_failing (node_meets σ T c) (ends_of σ T c)) (length (ends_of σ T c)) n e

pub new_leaves : (σ : Setting) (T : ℤ) (c : Curve) (n : ℕ) → Ok n ≡ walked_of σ T c
    → (first_failing (node_meets σ T c) (ends_of σ T c) ≡ none) × (n ≡ length (ends_of σ T c))
unfolding walked_of
new_leaves σ T c n e = walked_leaves (first_failing (node_meets σ T c) (ends_of σ T c)) (length (ends_of σ T c)) n e

-- ---- what banding says of it, by what the walk finds and by the tests of 19 and 8
abbrev said : Option ℕ → (many few : Bool) → (l nodes : ℕ) → Result Banded Refusal
said o many few l nodes =
    elim o [
      | some n ↦ Err (TooWide 0 n)
      | none ↦ elim many [ true ↦ Err (TooManyLeaves l) | false ↦ elim few [ true ↦ Err (TooFewRecords l) | false ↦ done 1 l nodes ] ]
    ]

ok_is : {v w : Banded} → ◌≡◌ {A = Result Banded Refusal} (Ok v) (Ok w) → v ≡ w
ok_is e = cc

done_found : (o : Option ℕ) (t u : Bool) (l nodes a b c : ℕ) → done a b c ≡ said o t u l nodes → Ok b ≡ found o l
done_found (some n) t u l nodes a b c e = clash (cc)
done_found none true u l nodes a b c e = clash (cc)
done_found none false true l nodes a b c e = clash (cc)
done_found none false false l nodes a b c e = ap Ok (ap (λ (v : Banded). v.leaves) (ok_is e))

wide_found : (o : Option ℕ) (t u : Bool) (l nodes k n : ℕ) → Err (TooWide k n) ≡ said o t u l nodes → o ≡ some n
wide_found (some n) t u l nodes k i e = cc
wide_found none true u l nodes k i e = clash (cc)
wide_found none false true l nodes k i e = clash (cc)
wide_found none false false l nodes k i e = clash (cc)

other_found : (o : Option ℕ) (t u : Bool) (l nodes : ℕ) (r : Refusal) → Err r ≡ said o t u l nodes → ((k n : ℕ) → r ≡ TooWide k n → ⊥)
    → Ok (spot_of r) ≡ found o l
other_found (some n) t u l nodes r e s = let z : r ≡ TooWide 0 n = cc in absurd (s 0 n z)
other_found none true u l nodes r e s = let z : r ≡ TooManyLeaves l = cc in rw z
other_found none false true l nodes r e s = let z : r ≡ TooFewRecords l = cc in rw z
other_found none false false l nodes r e s = clash (cc)

module _ (m : ℕ) (T : ℤ) (c : Curve) where
  abbrev σ : Setting
  σ = lists m

  abbrev fails : Option ℕ
  fails = first_failing (node_meets σ T c) (ends_of σ T c)

  abbrev leaves : ℕ
  leaves = length (ends_of σ T c)

  one_leaves : leaves_of σ T (c ∷ []) ≡ leaves
  unfolding leaves_of
  one_leaves = omega arith

  none_after : first_too_wide σ T 1 [] ≡ none
  unfolding first_too_wide
  none_after = refl

  pub leaves_few : leaves ≤ 256
  leaves_few = omega (arith, few_leaves σ T (c ∷ []), one_leaves)

  module _ (room : ℕ) where
    abbrev pub alone : Result Banded Refusal
    alone = band_curves (relimited σ 1 1048576) T (c ∷ []) room

    alone_said : alone ≡ said fails (ltb 1048576 leaves) (ltb room (record_length σ * leaves)) leaves (nodes_of σ T (c ∷ []))
    unfolding band_curves
    alone_said =
        sym (band_curves_same σ 1 T (c ∷ []) room)
        ∙ ap (λ l. answer_for σ room (first_too_wide σ T 0 (c ∷ [])) 1 l (nodes_of σ T (c ∷ []))) one_leaves ∙ go fails refl
      where
        go : (o : Option ℕ) → fails ≡ o
            → answer_for σ room (first_too_wide σ T 0 (c ∷ [])) 1 leaves (nodes_of σ T (c ∷ []))
            ≡ said o (ltb 1048576 leaves) (ltb room (record_length σ * leaves)) leaves (nodes_of σ T (c ∷ []))
        go (some n) e = ap (λ w. answer_for σ room w 1 leaves (nodes_of σ T (c ∷ []))) (wide_here σ T 0 c [] n e)
        go none e = ap (λ w. answer_for σ room w 1 leaves (nodes_of σ T (c ∷ []))) (wide_later σ T 0 c [] e ∙ none_after)

    pub alone_done : (a b d : ℕ) → done a b d ≡ alone → Ok b ≡ walked_of σ T c
    unfolding walked_of
    alone_done a b d e = done_found fails (ltb 1048576 leaves) (ltb room (record_length σ * leaves)) leaves (nodes_of σ T (c ∷ [])) a b d (e ∙ alone_said)

    pub alone_wide : (k n : ℕ) → Err (TooWide k n) ≡ alone → Err n ≡ walked_of σ T c
    unfolding walked_of
    alone_wide k n e =
        sym (ap (λ o. found o leaves) (wide_found fails (ltb 1048576 leaves) (ltb room (record_length σ * leaves)) leaves (nodes_of σ T (c ∷ [])) k n (e ∙ alone_said)))

    pub alone_leaves : (r : Refusal) → Err r ≡ alone → ((k n : ℕ) → r ≡ TooWide k n → ⊥) → Ok (spot_of r) ≡ walked_of σ T c
    unfolding walked_of
    alone_leaves r e s = other_found fails (ltb 1048576 leaves) (ltb room (record_length σ * leaves)) leaves (nodes_of σ T (c ∷ [])) r (e ∙ alone_said) s

  -- ---- its records, where they fit in just so
  module _ (n : ℕ) (w : Ok n ≡ walked_of σ T c) (part : List ℤ) (long : length part ≡ (6 + 4 * m) * n) where
    pub own_long : length (records_of σ 0 c (ends_of σ T c)) ≡ length part
    own_long =
        records_length σ 0 c (ends_of σ T c) ∙ ap (λ k. record_length σ * k) (sym (new_leaves σ T c n w).1)
        ∙ ap (λ k. k * n) (sym (record_length_is m)) ∙ sym long

    all_own : all_records σ T 0 (c ∷ []) ≡ records_of σ 0 c (ends_of σ T c)
    unfolding all_records
    all_own = append-nil (records_of σ 0 c (ends_of σ T c))

    fits : ltb (length part) (record_length σ * leaves) ≡ false
    fits = le-ltb (length part) (record_length σ * leaves) (omega (arith, own_long, records_length σ 0 c (ends_of σ T c)))

    pub alone_written : (r : Result Banded Refusal) (l : List ℤ) → r ≡ alone (length part)
        → l ≡ written_by r (all_records σ T 0 (c ∷ [])) part → l ≡ records_of σ 0 c (ends_of σ T c)
    alone_written r l e f =
        let few = le-ltb 1048576 leaves (omega (arith, leaves_few)) in
        let said_done : r ≡ done 1 leaves (nodes_of σ T (c ∷ []))
        = e ∙ alone_said (length part)
        ∙ ap (λ o. said o (ltb 1048576 leaves) (ltb (length part) (record_length σ * leaves)) leaves (nodes_of σ T (c ∷ []))) (new_leaves σ T c n w).0
        ∙ ap₂ (λ t u. said none t u leaves (nodes_of σ T (c ∷ []))) few fits in
        f ∙ ap₂ (λ q rs. written_by q rs part) said_done all_own
        ∙ ap (λ q. records_of σ 0 c (ends_of σ T c) ++ q) (drop_of_length-le part {i = length (records_of σ 0 c (ends_of σ T c))} (omega (arith, own_long)))
        ∙ append-nil (records_of σ 0 c (ends_of σ T c))

-- ---- a part of a list written anew
pub part_written : (xs ys : List ℤ) (place over : ℕ) → place ≤ over → over ≤ length xs → length ys ≡ over - place
    → take place xs ++ (ys ++ drop (over - place) (drop place xs)) ≡ sets xs place ys
part_written xs ys place over h l e =
    ap (λ q. take place xs ++ (ys ++ q)) (drop-drop (over - place) place xs
    ∙ ap (λ k. drop (place + k) xs) (sym e))
    ∙ sym (append_assoc (take place xs) ys (drop (place + length ys) xs))
    ∙ sym (sets-eq ys xs place (omega (arith, e)))
