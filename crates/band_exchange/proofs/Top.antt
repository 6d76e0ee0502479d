-- The old outline's own checks, 22 and 23, and the whole answer.
use mathlib.Core.Path.{◌≡◌, refl, sym, ◌∙◌, ap, ap₂}
use mathlib.Core.Bool.{Bool, true, false, ◌&&◌}
use mathlib.Core.List.{List}
use mathlib.Core.Option.{Option, none, some}
use Prim.Native.Nat.{ℕ, suc, ◌*◌, ◌/◌, ◌^◌, ◌≤◌, ◌<◌, min}
use native.Mathlib.Omega.{arith}
use borrow.Author.Tests.{lt-ltb, le-ltb, eqb-true, eqb-false}
use lib.Dec.{eqb, eqb→eq}
use lib.ListN.{length, take}
use lib.IntN.{ℤ, pos, negsuc}
use Rattle.std.specs.Prelude.{Result, Ok, Err}
use Rattle.setting.specs.Setting.{Setting, lists, record_length, pieces_fine, HasRows}
use Rattle.integers.proofs.Both.{both_true}
use Rattle.integers.proofs.Clash.{clash}
use Rattle.integers.proofs.Between.{between_low, between_high}
use Rattle.integers.proofs.Order.{le_pos}
use Rattle.bound_coordinate.specs.Inside.{Small}
use Rattle.bound_pieces.proofs.Corners.{pieces_tested}
use Rattle.refusals.specs.declared.Refusal.{Refusal}
use Rattle.refusals.specs.declared.Refusal.TheVariants.{NoSuchCurve, OtherRecords}
use Rattle.curve_nodes.specs.declared.Curve.{Curve}
use Rattle.outline.specs.Checks.{tolerance_fine, curves, outlined}
use Rattle.outline.specs.Inside.{checked_of}
use Rattle.outline.proofs.Accepted.{accepted_most}
use Rattle.outline_changed.specs.Changed.{changed}
use Rattle.band_records.specs.Records.{all_records}
use Rattle.band_passes.specs.Forms.{Outline}
use Rattle.band_passes.specs.Leaves.{curves_of, first_too_wide, leaves_of, nodes_of}
use Rattle.band_passes.specs.Inside.{read_at, next_of, curves_in, Readable}
use Rattle.band_passes.proofs.Reading.{curves_count}
use Rattle.band_passes.proofs.Wide.{none_wide}
use Rattle.band_passes.proofs.Among.{all_records_length}
use Rattle.band_passes.proofs.Counting.{few_leaves}
use Rattle.band_comparing.specs.declared.Stand.{Stand}
use Rattle.band_comparing.specs.declared.Compared.{Compared}
use Rattle.band_comparing.specs.Inside.{reach_of, stand_of, compared_of}
use Rattle.band_banded.specs.declared.banding.Banded.{Banded}
use Rattle.band_banded.specs.Banding.{done as report, band_curves, band_outlined, band_given, banded, written_by}
use Rattle.band_banded.proofs.Cases.{done_said}
use Rattle.band_banded.proofs.Answers.{outline_read}
use Rattle.band_exchanged.specs.Exchange.{records_for, other_records, exchanged_after, exchanged, exchanged_list}
use Rattle.band_exchanged.proofs.Reaching.{others_reach, others_long, others_none, others_are}
use Rattle.band_exchange.specs.Inside.{Exchangeable, exchanged_read}

-- ---- 5040 is a multiple of every number of pieces
abbrev scale_fine : ℕ → Bool
scale_fine m = eqb (5040 / m * m) 5040

pub scale_is : (m : ℕ) → HasRows m → 5040 / m * m ≡ 5040
scale_is m h = eqb→eq (5040 / m * m) 5040 (pieces_tested scale_fine tt m h)

pub tolerance_few : (t : ℤ) → tolerance_fine t ≡ true → Small (2 ^ 27) t
tolerance_few (pos n) e = record { size = omega (arith, le_pos (between_high (pos 2) (pos 1048576) (pos n) e)) }
tolerance_few (negsuc n) e = absurd (between_low (pos 2) (pos 1048576) (negsuc n) e).le

-- ---- what the pass that compares finds
abbrev found : Option Refusal → Compared → Result Compared Refusal
found o w = elim o [ some r ↦ Err r | none ↦ Ok w ]

through_is : (o : Option Refusal) (w w' : Compared) → Ok w ≡ found o w' → (o ≡ none) × (w ≡ w')
through_is none w w' e = (refl, cc)
through_is (some r) w w' e = clash (cc)

stopped_is : (o : Option Refusal) (r : Refusal) (w : Compared) → Err r ≡ found o w → o ≡ some r
stopped_is none r w e = clash (cc)
stopped_is (some q) r w e = cc

-- ---- an exchange asked of an outline without faults that has n curves: `shown` of the numbers given are in the list
pub record Asked (m : ℕ) (T : ℤ) (ns : List ℤ) (n k : ℕ) (new : List ℤ) (count : ℕ) (lent : List ℤ) (shown : ℕ) : Type 0 where
  pub checked : Ok n ≡ checked_of (outlined 4096 m ns)
  pub seen : shown ≡ min count (length lent)

module _ {m : ℕ} {T : ℤ} {ns : List ℤ} {n k : ℕ} {new : List ℤ} {count : ℕ} {lent : List ℤ} {shown : ℕ}
    (q : Asked m T ns n k new count lent shown) where
  abbrev σ : Setting
  σ = lists m

  abbrev all : List Curve
  all = curves_in Outline ns n

  pub readable : Readable (lists m) Outline ns n
  readable = (outline_read 4096 1048576 m ns (omega arith) q.checked).readable

  is : outlined 4096 m ns ≡ curves all
  is = (outline_read 4096 1048576 m ns (omega arith) q.checked).is

  count_all : length all ≡ n
  count_all = curves_count (read_at Outline ns) (next_of Outline ns) n 0

  few : n ≤ 4096
  few = omega (arith, accepted_most 4096 m ns all is, count_all)

  own : records_for σ T ns ≡ all_records σ T 0 all
  own = ap (λ o. all_records σ T 0 (curves_of o)) is

  own_long : length (records_for σ T ns) ≡ record_length σ * leaves_of σ T all
  own_long = ap length own ∙ all_records_length σ T 0 all

  abbrev rest : Result Banded Refusal
  rest = band_outlined σ T (outlined 4096 m (changed ns k new)) (length lent)

  -- the rest of the answer, by what banding says of the old outline
  by_own : (x : Result Banded Refusal) → band_curves σ T all (length (records_for σ T ns)) ≡ x
      → exchanged_read σ T ns k new count lent ≡ exchanged_after x k (other_records count lent (records_for σ T ns)) rest
  unfolding exchanged_read
  by_own x f =
      ap (λ b. exchanged_after b k (other_records count lent (records_for σ T ns)) rest)
      (ap (λ o. band_outlined σ T o (length (records_for σ T ns))) is ∙ f)

  pub read_wide : (r : Refusal) → Err r ≡ compared_of σ T ns n k lent shown → Err r ≡ exchanged_read σ T ns k new count lent
  unfolding compared_of band_curves
  read_wide r f =
      let w = stopped_is (first_too_wide σ T 0 all) r _ f in sym (by_own (Err r) (rw w))

  module _ {w : Compared} (t : Ok w ≡ compared_of σ T ns n k lent shown) where
    told : (first_too_wide σ T 0 all ≡ none) × (w.first ≡ stand_of σ T ns n (min n k)) × (w.second ≡ stand_of σ T ns n (min n (suc k)))
        × (w.whole ≡ record_length σ * leaves_of σ T all) × (w.reach ≡ reach_of lent shown 0 (all_records σ T 0 all))
    unfolding compared_of
    told =
        let both = through_is (first_too_wide σ T 0 all) w _ t in (
          both.0,
          ap (λ (v : Compared). v.first) both.1,
          ap (λ (v : Compared). v.second) both.1,
          ap (λ (v : Compared). v.whole) both.1,
          ap (λ (v : Compared). v.reach) both.1,
        )

    whole_is : w.whole ≡ length (records_for σ T ns)
    whole_is = told.3 ∙ sym own_long

    reach_is : w.reach ≡ reach_of lent (min count (length lent)) 0 (records_for σ T ns)
    reach_is = told.4 ∙ ap₂ (λ a b. reach_of lent a 0 b) q.seen (sym own)

    old_report : band_curves σ T all (length (records_for σ T ns)) ≡ report n (leaves_of σ T all) (nodes_of σ T all)
    old_report = done_said σ T all (length (records_for σ T ns)) (record {
      meet = (none_wide σ T 0 all).0 told.0;
      taken = omega (arith, few_leaves σ T all, count_all, few);
      enough = omega (arith, own_long);
      curves = count_all;
      leaves = refl;
      nodes = refl;
    })

    -- 22
    pub read_none : n ≤ k → Err (NoSuchCurve k) ≡ exchanged_read σ T ns k new count lent
    read_none h = sym (by_own (report n (leaves_of σ T all) (nodes_of σ T all)) old_report ∙ rw (exchanged_after, le-ltb k n h))

    module _ (h : k < n) where
      on : (o : Option ℕ) → other_records count lent (records_for σ T ns) ≡ o
          → exchanged_read σ T ns k new count lent ≡ elim o [ some i ↦ Err (OtherRecords i) | none ↦ rest ]
      on o f = by_own (report n (leaves_of σ T all) (nodes_of σ T all)) old_report ∙ rw (exchanged_after, lt-ltb k n h, f)

      -- 23: they do not agree as far as they are given, or they are not as many
      pub read_other : (eqb w.reach count && eqb count w.whole) ≡ false → (i : ℕ) → i ≡ min w.reach w.whole
          → Err (OtherRecords i) ≡ exchanged_read σ T ns k new count lent
      read_other other i g =
          ap (λ j. Err (OtherRecords j)) (g ∙ ap (min w.reach) whole_is)
          ∙ sym (on (some (min w.reach (length (records_for σ T ns)))) (go (eqb w.reach count) refl (eqb count w.whole) refl other))
        where
          go : (a : Bool) → eqb w.reach count ≡ a → (b : Bool) → eqb count w.whole ≡ b → (a && b) ≡ false
              → other_records count lent (records_for σ T ns) ≡ some (min w.reach (length (records_for σ T ns)))
          go false d b f o = others_reach count lent (records_for σ T ns) w.reach reach_is (eqb-false w.reach count d)
          go true d false f o =
              others_long count lent (records_for σ T ns) w.reach reach_is (eqb-true w.reach count d) (λ x. eqb-false count w.whole f (x ∙ sym whole_is))
          go true d true f o = clash (cc)

      module _ (fine : (eqb w.reach count && eqb count w.whole) ≡ true) where
        just : count ≡ w.whole
        just = eqb-true count w.whole (both_true (eqb w.reach count) (eqb count w.whole) fine).1

        none_other : other_records count lent (records_for σ T ns) ≡ none
        none_other = others_none count lent (records_for σ T ns) w.reach reach_is
            (eqb-true w.reach count (both_true (eqb w.reach count) (eqb count w.whole) fine).0) (just ∙ whole_is)

        pub read_on : band_outlined σ T (outlined 4096 m (changed ns k new)) (length lent) ≡ exchanged_read σ T ns k new count lent
        read_on = sym (on none none_other)

        pub exchangeable : Exchangeable (lists m) T ns n k w.first w.second w.whole lent
        exchangeable =
            let given = others_are count lent (records_for σ T ns) none_other in
            let a : min n k ≡ k = omega (arith, h) in
            let b : min n (suc k) ≡ suc k = omega (arith, h) in
            let f = told.1 ∙ ap (stand_of σ T ns n) a in
            let g = told.2 ∙ ap (stand_of σ T ns n) b in
            record {
              all = all;
              is = is;
              count = count_all;
              few = few;
              meet = (none_wide σ T 0 all).0 told.0;
              number = h;
              units = refl;
              first_at = ap (λ (p : Stand). p.at) f;
              first_place = ap (λ (p : Stand). p.place) f;
              second_at = ap (λ (p : Stand). p.at) g;
              second_place = ap (λ (p : Stand). p.place) g;
              records = ap (λ j. take j lent) (sym just) ∙ given.0 ∙ own;
              long = told.3;
              room = omega (arith, just, given.2);
            }

-- ---- the whole
banded_is : (m : ℕ) (T : ℤ) (l : List ℤ) (room : ℕ) → pieces_fine m ≡ true → tolerance_fine T ≡ true
    → banded (lists m) T l room ≡ band_outlined (lists m) T (outlined 4096 m l) room
unfolding band_given
banded_is m T l room rows fine = rw (band_given, rows, fine)

module _ (m : ℕ) (T : ℤ) (ns : List ℤ) (k : ℕ) (new : List ℤ) (count : ℕ) (lent : List ℤ) where
  pub exchanged_read_law : pieces_fine m ≡ true → tolerance_fine T ≡ true
      → exchanged_read (lists m) T ns k new count lent ≡ exchanged (lists m) T ns k new count lent
  unfolding exchanged exchanged_read
  exchanged_read_law rows fine =
      sym (ap₂ (λ a b. exchanged_after a k (other_records count lent (records_for (lists m) T ns)) b)
      (banded_is m T ns (length (records_for (lists m) T ns)) rows fine) (banded_is m T (changed ns k new) (length lent) rows fine))

  pub exchanged_list_law : (b : Result Banded Refusal) (l' : List ℤ) → b ≡ exchanged (lists m) T ns k new count lent
      → l' ≡ written_by b (records_for (lists m) T (changed ns k new)) lent → l' ≡ exchanged_list (lists m) T ns k new count lent
  unfolding exchanged_list
  exchanged_list_law b l' e f = f ∙ ap (λ q. written_by q (records_for (lists m) T (changed ns k new)) lent) e

  -- the old outline is refused: the answer, and the list as it was
  pub exchanged_refused : (r : Refusal) → Err r ≡ banded (lists m) T ns (length (records_for (lists m) T ns))
      → (Err r ≡ exchanged (lists m) T ns k new count lent) × (lent ≡ exchanged_list (lists m) T ns k new count lent)
  unfolding exchanged
  exchanged_refused r e = (early, exchanged_list_law (Err r) lent early refl)
    where
      early : Err r ≡ exchanged (lists m) T ns k new count lent
      early =
          ap (λ b. exchanged_after b k (other_records count lent (records_for (lists m) T ns)) (banded (lists m) T (changed ns k new) (length lent))) e
