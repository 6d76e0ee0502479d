-- The changed outline's checks and records: the answer from each case of the checks of the new curve, and what stands at the front of the list.
use mathlib.Core.Path.{◌≡◌, refl, sym, ◌∙◌, ap, ap₂}
use mathlib.Core.Bool.{true}
use mathlib.Core.List.Memᴰ
use mathlib.Core.List.{List, [], ◌∷◌, ◌++◌, Memᴰ}
use mathlib.Core.Option.{Option, none, some}
use mathlib.Core.Logic.{⊎_elim}
use Prim.Native.Nat.{ℕ, zero, suc, ◌+◌, ◌-◌, ◌*◌, ◌≤◌, ◌<◌}
use native.Mathlib.Nat.{not-suc-le-zero, le_of_suc-le-suc}
use native.Mathlib.Omega.{arith}
use lib.ListN.{length, take, drop, take-append-drop}
use lib.Seq.{length-take-le}
use lib.IntN.{ℤ}
use Rattle.std.specs.Prelude.{Result, Err}
use Rattle.setting.specs.Setting.{Setting, record_length}
use Rattle.integers.specs.Entry.{entry}
use Rattle.refusals.specs.declared.Refusal.{Refusal}
use Rattle.curve_nodes.specs.declared.Curve.{Curve}
use Rattle.outline.specs.Curves.{degree_fine, next_at, curve_at}
use Rattle.outline.specs.Checks.{curves, outline_from, outlined}
use Rattle.outline.specs.Places.{place_of}
use Rattle.outline.proofs.Degrees.{degree_most}
use Rattle.outline.proofs.Faultless.{faultless}
use Rattle.outline.proofs.Steps.{Begins, outline_begins, outline_continues}
use Rattle.outline.proofs.Accepted.{outlined_from, accepted_all, accepted_pieces}
use Rattle.outline_changed.specs.Changed.{changed}
use Rattle.outline_changed.specs.Inside.{changed_fault}
use Rattle.outline_changed.proofs.OwnFaults.{own_fine, own_none}
use Rattle.outline_changed.proofs.NewCurve.{begun}
use Rattle.outline_changed.proofs.Changed.{rest_at, old, old_begins, outlined_or, changed_outline}
use Rattle.walk_curve.specs.Walked.{ends_of}
use Rattle.band_records.specs.Records.{all_records}
use Rattle.band_passes.specs.Leaves.{curves_of, leaves_of}
use Rattle.band_passes.specs.Inside.{Readable, end, more}
use Rattle.band_passes.specs.Forms.{Outline}
use Rattle.band_passes.proofs.Among.{leaves_among}
use Rattle.band_comparing.specs.declared.Stand.{Stand}
use Rattle.band_comparing.proofs.CompareLaws.{take_one_more}
use Rattle.band_banded.specs.declared.banding.Banded.{Banded}
use Rattle.band_banded.specs.Banding.{band_curves, band_outlined, written_by}
use Rattle.band_exchanged.specs.Exchange.{records_for}
use Rattle.band_exchange.specs.Inside.{Front, Replaced, Exchangeable}

outlined_list : (most m : ℕ) (l : List ℤ) → 0 < length l → outlined most m l ≡ outline_from most m l 0
unfolding outlined
outlined_list most m [] h = absurd (not-suc-le-zero h)
outlined_list most m (z ∷ l) h = refl

begun_changed : (ns new : List ℤ) (k : ℕ) → place_of ns 0 k ≤ length ns → 0 < length new → 0 < length (changed ns k new)
begun_changed ns new k h l = omega (arith, begun ns new (place_of ns 0 k) (place_of ns 0 (suc k)) h l)

-- ---- lists of curves
mem_left : (xs ys : List Curve) (c : Curve) → Memᴰ c xs → Memᴰ c (xs ++ ys)
mem_left [] ys c i = absurd (Memᴰ.not-nil i)
mem_left (x ∷ xs) ys c i = ⊎_elim (λ e. Memᴰ.head e) (λ j. Memᴰ.tail (mem_left xs ys c j)) (Memᴰ.cases_cons i)

mem_right : (xs ys : List Curve) (c : Curve) → Memᴰ c ys → Memᴰ c (xs ++ ys)
mem_right [] ys c i = i
mem_right (x ∷ xs) ys c i = Memᴰ.tail (mem_right xs ys c i)

no_leaves : (σ : Setting) (T : ℤ) → leaves_of σ T [] ≡ 0
unfolding leaves_of
no_leaves σ T = refl

-- ---- an outline that passed all of its own checks
module _ {σ : Setting} {T : ℤ} {ns : List ℤ} {n k : ℕ} {first second : Stand} {whole : ℕ} {lent : List ℤ}
    (x : Exchangeable σ T ns n k first second whole lent) where
  read : outline_from σ.most σ.pieces ns 0 ≡ curves x.all
  read = outlined_from σ.most σ.pieces ns x.all x.is

  inside_all : k < length x.all
  inside_all = omega (arith, x.number, x.count)

  -- ---- where curve k stands
  place_few : (left at j : ℕ) (cs : List Curve) → outline_from left σ.pieces ns at ≡ curves cs → j ≤ length cs → place_of ns at j ≤ at + 13 * j
  place_few left at zero cs e h = omega arith
  place_few left at (suc j) [] e h = absurd (not-suc-le-zero h)
  place_few left at (suc j) (c ∷ cs) e h =
      let b = outline_begins left σ.pieces ns at c cs e in
      let d = degree_most ns at (faultless σ.pieces ns at b.no_fault).degree in
      omega (arith, d, place_few (left - 1) (next_at ns at) j cs b.rest (le_of_suc-le-suc h))

  module _ (new : List ℤ) (long : length new ≡ 13) where
    was : (c : Curve) × (ds : List Curve) × (drop k x.all ≡ c ∷ ds) × (drop (suc k) x.all ≡ ds)
    was = old σ.most σ.pieces ns new k x.all read inside_all long

    begins : Begins (σ.most - k) σ.pieces ns (place_of ns 0 k) was.0 was.1
    unfolding was
    begins = old_begins σ.most σ.pieces ns new k x.all read inside_all long

    pub at_few : first.at ≤ 1048576
    at_few = omega (arith, x.first_at, place_few σ.most 0 k x.all read (omega (arith, inside_all)), x.number, x.few)

    place_inside : place_of ns 0 k ≤ length ns
    place_inside = omega (arith, begins.inside)

    pub at_inside : first.at ≤ length ns
    at_inside = omega (arith, place_inside, x.first_at)

    pub next_inside : second.at < length ns → second.at + 2 < length ns
    next_inside h =
        let q = place_of ns 0 (suc k) in
        let e = rest_at ns σ.pieces σ.most 0 (suc k) x.all read inside_all in
        let c = outline_continues (σ.most - suc k) σ.pieces ns q (drop (suc k) x.all) e (omega (arith, h, x.second_at)) in
        omega (arith, c.begins.ends, x.second_at)

    -- ---- the changed outline
    abbrev cs : List Curve
    cs = take k x.all ++ curve_at new 0 ∷ drop (suc k) x.all

    after : outlined σ.most σ.pieces (changed ns k new)
        ≡ outlined_or (changed_fault σ.pieces ns (place_of ns 0 k) (place_of ns 0 (suc k)) new) cs
    after =
        outlined_list σ.most σ.pieces (changed ns k new) (begun_changed ns new k place_inside (omega (arith, long)))
        ∙ changed_outline σ.most σ.pieces ns new k x.all read inside_all long

    fault_is : (q : Option Refusal) → changed_fault σ.pieces ns first.at second.at new ≡ q
        → outlined σ.most σ.pieces (changed ns k new) ≡ outlined_or q cs
    fault_is q f =
        after ∙ ap (λ g. outlined_or g cs) (ap₂ (λ p r. changed_fault σ.pieces ns p r new) (sym x.first_at) (sym x.second_at) ∙ f)

    pub by_fault : (r : Refusal) → changed_fault σ.pieces ns first.at second.at new ≡ some r
        → Err r ≡ band_outlined σ T (outlined σ.most σ.pieces (changed ns k new)) (length lent)
    by_fault r f = sym (ap (λ o. band_outlined σ T o (length lent)) (fault_is (some r) f))

    module _ (f : changed_fault σ.pieces ns first.at second.at new ≡ none) where
      by_curves : band_outlined σ T (outlined σ.most σ.pieces (changed ns k new)) (length lent) ≡ band_curves σ T cs (length lent)
      by_curves = ap (λ o. band_outlined σ T o (length lent)) (fault_is none f)

      by_records : records_for σ T (changed ns k new) ≡ all_records σ T 0 cs
      by_records = ap (λ o. all_records σ T 0 (curves_of o)) (fault_is none f)

      accepted : outline_from σ.most σ.pieces (changed ns k new) 0 ≡ curves cs
      accepted = outlined_from σ.most σ.pieces (changed ns k new) cs (fault_is none f)

      member : Memᴰ (curve_at new 0) cs
      member = mem_right (take k x.all) (curve_at new 0 ∷ drop (suc k) x.all) (curve_at new 0) (Memᴰ.head refl)

      new_fine : degree_fine (entry new 0) ≡ true
      new_fine = own_fine σ.pieces new first.at (own_none σ.pieces ns first.at second.at new f)

      -- the new curve can be read and walked
      pub new_readable : Readable σ Outline new 1
      new_readable = record {
        all = more (record {
          stands = (new_fine, omega (arith, degree_most new 0 new_fine, long));
          sized = accepted_all σ.most σ.pieces (changed ns k new) 0 cs accepted (curve_at new 0) member;
          suits = record {
            takes = accepted_pieces σ.most σ.pieces (changed ns k new) 0 cs accepted (curve_at new 0) member;
            units = λ h. x.units;
          };
        }) end;
        few = omega arith;
      }

      -- ---- the records at the front of the list
      split : x.all ≡ take k x.all ++ was.0 ∷ drop (suc k) x.all
      split = sym (take-append-drop k x.all) ∙ ap (λ l. take k x.all ++ l) (was.2 ∙ ap (λ l. was.0 ∷ l) (sym was.3))

      end_is : second.place ≡ first.place + record_length σ * length (ends_of σ T was.0)
      end_is =
          let l = ap (leaves_of σ T) (take_one_more k x.all was.0 was.1 was.2) ∙ leaves_among σ T was.0 [] (take k x.all)
          ∙ ap (λ m. leaves_of σ T (take k x.all) + (length (ends_of σ T was.0) + m)) (no_leaves σ T) in
          omega (arith, x.second_place, x.first_place, ap (λ m. record_length σ * m) l)

      pub front : Front σ T lent n whole k first.place second.place
      front = record {
        before = take k x.all;
        curve = was.0;
        after = drop (suc k) x.all;
        records = x.records ∙ ap (all_records σ T 0) split;
        count = ap length (sym split) ∙ x.count;
        few = x.few;
        all = x.long ∙ ap (λ l. record_length σ * leaves_of σ T l) split;
        number = length-take-le k x.all (omega (arith, inside_all));
        here = x.first_place;
        over = end_is;
        room = x.room;
        meet_before = record { each = λ q i. x.meet.each q (rw split (mem_left (take k x.all) (was.0 ∷ drop (suc k) x.all) q i)) };
        meet_after = record {
          each = λ q i. x.meet.each q
              (rw split (mem_right (take k x.all) (was.0 ∷ drop (suc k) x.all) q (Memᴰ.tail i)));
        };
      }

      -- what replacing left
      pub by_replaced : (r : Result Banded Refusal) (l' : List ℤ) → Replaced σ T lent n whole k first.place second.place (curve_at new 0) r l'
          → (r ≡ band_outlined σ T (outlined σ.most σ.pieces (changed ns k new)) (length lent))
          × (l' ≡ written_by r (records_for σ T (changed ns k new)) lent)
      unfolding front
      by_replaced r l' q =
          (q.answer front ∙ sym by_curves, q.list front ∙ ap (λ rs. written_by r rs lent) (sym by_records))
