-- The tightest band, in words: its answer, case by case. The least tolerance of the span that fits; that none does, exactly where the curves have
-- more than R leaves at the largest one; and otherwise the refusal that banding gives at every tolerance. A tolerance fits exactly where banding
-- accepts with room for R leaves.
use mathlib.Core.Path.{◌≡◌, refl, sym, ◌∙◌, ap, subst}
use mathlib.Core.Bool.{true, false}
use mathlib.Core.Logic.{◌⊎◌, inl, inr, ⊎_elim, ◌↔◌}
use mathlib.Core.List.{List}
use mathlib.Core.Option.{Option, none, some}
use Prim.Native.Nat.{ℕ, ◌+◌, ◌-◌, ◌*◌, ◌≤◌, ◌<◌}
use native.Mathlib.Nat.{le_refl, mul-le-mul, le_of_mul-le-mul_left}
use native.Mathlib.Omega.{arith}
use lib.ListN.{length}
use lib.IntN.{ℤ, pos}
use Rattle.std.specs.Prelude.{Some, None, Result, Ok, Err}
use Rattle.setting.specs.Setting.{Setting, lists, pieces_fine, record_length}
use Rattle.integers.specs.First.{first_bad}
use Rattle.integers.proofs.First.{none_bad, bad_below, bad_from, bad_at, bad_is, bad_first}
use Rattle.integers.proofs.Clash.{clash}
use Rattle.integers.proofs.Order.{pos_le, lt_or_ge}
use Rattle.integers.proofs.Ranges.{yes_le}
use Rattle.refusals.specs.declared.Refusal.{Refusal}
use Rattle.refusals.specs.declared.Refusal.TheVariants.{Pieces}
use Rattle.curve_nodes.specs.declared.Curve.{Curve}
use Rattle.outline.specs.Checks.{Outlined, curves, faulty, tolerance_fine, outlined}
use Rattle.outline.proofs.Accepted.{accepted_most}
use Rattle.walk_tree.proofs.Tree.{either, not_both}
use Rattle.band_passes.specs.Leaves.{leaves_of, nodes_of}
use Rattle.band_passes.proofs.Counting.{few_leaves}
use Rattle.band_banded.specs.Banding.{done, band_given, banded}
use Rattle.band_banded.proofs.Theorems.{done_exactly}
use Rattle.band_banded.proofs.Given.{outline_given}
use Rattle.band_tightest.specs.Tightest.{too_tight, tightest_of, tightest}
use Rattle.band_tightest.specs.Fitting.{Fine, Fits, LeastFits}
use Rattle.band_tightest.proofs.Looser.{widest_meets}
use Rattle.band_tightest.proofs.Answers.{answer_curves}
use Rattle.band_tightest.proofs.Span.{said, loose, loose_meets, loose_few, nothing_fits}

-- ---- of curves
said_least : (o : Option ℕ) (T : ℕ) → said o ≡ Ok (Some T) → o ≡ some T
said_least none T e = clash (cc)
said_least (some S) T e = cc

said_nothing : (o : Option ℕ) → said o ≡ Ok None → o ≡ none
said_nothing none e = refl
said_nothing (some S) e = clash (cc)

never_refused : (o : Option ℕ) (r : Refusal) → said o ≡ Err r → ⊥
never_refused none r e = clash (cc)
never_refused (some S) r e = clash (cc)

module _ (σ : Setting) (cs : List Curve) (R : ℕ) where
  fits_loose : {T : ℕ} → Fits σ cs R T → too_tight σ cs R T ≡ false
  fits_loose {T} f = loose σ cs R T f.meet f.few

  loose_fits : {T : ℕ} → 2 ≤ T → T ≤ 1048576 → too_tight σ cs R T ≡ false → Fits σ cs R T
  loose_fits {T} low high e = record { low = low; high = high; meet = loose_meets σ cs R T e; few = loose_few σ cs R T e }

  misfit : {T : ℕ} → 2 ≤ T → T ≤ 1048576 → (Fits σ cs R T → ⊥) → too_tight σ cs R T ≡ true
  misfit {T} low high h = ⊎_elim (λ t. t) (λ e. absurd (h (loose_fits low high e))) (either (too_tight σ cs R T))

  least_of : (T : ℕ) → tightest_of σ cs R ≡ Ok (Some T) → LeastFits σ cs R T
  unfolding tightest_of
  least_of T e =
      let f = said_least (first_bad (too_tight σ cs R) 1048575 2) T e in
      let high = bad_below (too_tight σ cs R) 1048575 2 T f in record {
        fits = loose_fits (bad_from (too_tight σ cs R) 1048575 2 T f) (omega arith) (bad_is (too_tight σ cs R) 1048575 2 T f);
        least = λ S h. ⊎_elim
            (λ l. absurd (not_both (bad_first (too_tight σ cs R) 1048575 2 T f S h.low l) (fits_loose h)))
            (λ l. l)
            (lt_or_ge S T);
      }

  of_least : (T : ℕ) → LeastFits σ cs R T → tightest_of σ cs R ≡ Ok (Some T)
  unfolding tightest_of
  of_least T l =
      let high = l.fits.high in
      ap said (bad_at (too_tight σ cs R) 1048575 2 T l.fits.low (omega arith) (fits_loose l.fits)
      (λ k low h. misfit low (omega arith) (λ f. let m = l.least k f in omega arith)))

  none_of : tightest_of σ cs R ≡ Ok None → (T : ℕ) → Fits σ cs R T → ⊥
  unfolding tightest_of
  none_of e T f =
      let low = f.low in
      let high = f.high in
      let is : 2 + (T - 2) ≡ T = omega arith in
      let tight = none_bad (too_tight σ cs R) 1048575 2 (said_nothing (first_bad (too_tight σ cs R) 1048575 2) e) (T - 2) (omega arith) in
      not_both (rw is at tight) (fits_loose f)

  of_none : ((T : ℕ) → Fits σ cs R T → ⊥) → tightest_of σ cs R ≡ Ok None
  of_none h = sym (nothing_fits σ cs R (misfit (omega arith) (omega arith) (h 1048576)))

-- ---- of an outline
module _ (σ : Setting) (ns : List ℤ) (R : ℕ) where
  of_fine : {cs : List Curve} → Fine σ ns cs → tightest σ ns R ≡ tightest_of σ cs R
  of_fine f = sym (answer_curves σ ns R f)

  -- the checks of m and of the outline find no fault, or the refusal is that of banding at every tolerance of the span
  pub early_alike : ((cs : List Curve) × Fine σ ns cs)
      ⊎ ((r : Refusal) × (tightest σ ns R ≡ Err r) × ((T : ℤ) (room : ℕ) → tolerance_fine T ≡ true → banded σ T ns room ≡ Err r))
  unfolding tightest band_given
  early_alike = ⊎_elim
      (λ fine. go fine (outlined σ.most σ.pieces ns) refl)
      (λ (e : pieces_fine σ.pieces ≡ false). inr (Pieces, rw (e, tightest), λ T room f. rw (e, band_given)))
      (either (pieces_fine σ.pieces))
    where
      go : pieces_fine σ.pieces ≡ true → (o : Outlined) → outlined σ.most σ.pieces ns ≡ o → ((cs : List Curve) × Fine σ ns cs)
          ⊎ ((r : Refusal) × (tightest σ ns R ≡ Err r) × ((T : ℤ) (room : ℕ) → tolerance_fine T ≡ true → banded σ T ns room ≡ Err r))
      go fine (curves cs) e = inl (cs, record { pieces = fine; outline = e })
      go fine (faulty r) e = inr (r, rw (fine, e, tightest), λ T room f. rw (fine, f, e, band_given))

  -- an answer that is no refusal is the answer for the outline's curves
  of_curves : {v : Result (Rattle.std.specs.Prelude.Option ℕ) Refusal} → ((r : Refusal) → Err r ≡ v → ⊥) → tightest σ ns R ≡ v
      → (cs : List Curve) × Fine σ ns cs × (tightest_of σ cs R ≡ v)
  of_curves not_refused e = ⊎_elim
      (λ t. (t.0, t.1, sym (of_fine t.1) ∙ e))
      (λ r. absurd (not_refused r.0 (sym r.1 ∙ e)))
      early_alike

  pub least_exactly : (T : ℕ) → (tightest σ ns R ≡ Ok (Some T)) ↔ ((cs : List Curve) × Fine σ ns cs × LeastFits σ cs R T)
  least_exactly T = (
    λ e. let h = of_curves (λ r f. clash (cc)) e in (h.0, h.1, least_of σ h.0 R T h.2),
    λ h. of_fine h.1 ∙ of_least σ h.0 R T h.2,
  )

  pub nothing_exactly : (tightest σ ns R ≡ Ok None) ↔ ((cs : List Curve) × Fine σ ns cs × ((T : ℕ) → Fits σ cs R T → ⊥))
  nothing_exactly = (
    λ e. let h = of_curves (λ r f. clash (cc)) e in (h.0, h.1, none_of σ h.0 R h.2),
    λ h. of_fine h.1 ∙ of_none σ h.0 R h.2,
  )

  -- none fits exactly where there are more than R leaves at the largest tolerance, where nothing is too wide
  pub nothing_by_leaves : (tightest σ ns R ≡ Ok None) ↔ ((cs : List Curve) × Fine σ ns cs × (R < leaves_of σ (pos 1048576) cs))
  nothing_by_leaves = (
    λ e.
        let h = nothing_exactly.0 e in (
          h.0,
          h.1,
          ⊎_elim (λ l. l) (λ l. absurd (h.2 1048576 (at_most h.0 h.1 l))) (lt_or_ge R (leaves_of σ (pos 1048576) h.0)),
        ),
    λ h. of_fine h.1 ∙ sym (nothing_fits σ h.0 R (misfit σ h.0 R (omega arith) (omega arith) (λ f. omega (arith, f.few, h.2)))),
  )
    where
      at_most : (cs : List Curve) → Fine σ ns cs → leaves_of σ (pos 1048576) cs ≤ R → Fits σ cs R 1048576
      at_most cs t l = record { low = omega arith; high = omega arith; meet = widest_meets σ (outline_given σ ns) t.pieces t.outline; few = l }

  pub refused_as_banding : (r : Refusal) → tightest σ ns R ≡ Err r → (T : ℤ) (room : ℕ) → tolerance_fine T ≡ true
      → banded σ T ns room ≡ Err r
  unfolding tightest_of
  refused_as_banding r e T room f = ⊎_elim
      (λ t. absurd (never_refused (first_bad (too_tight σ t.0 R) 1048575 2) r (sym (of_fine t.1) ∙ e)))
      (λ q. let same : q.0 ≡ r = same_refusal (sym q.1 ∙ e) in q.2 T room f ∙ ap Err same)
      early_alike
    where
      same_refusal : {q r : Refusal} → ◌≡◌ {A = Result (Rattle.std.specs.Prelude.Option ℕ) Refusal} (Err q) (Err r) → q ≡ r
      same_refusal e = cc

-- ---- a tolerance of the span fits exactly where banding, with room for R leaves, accepts
span_fine : {T : ℕ} → 2 ≤ T → T ≤ 1048576 → tolerance_fine (pos T) ≡ true
span_fine {T} low high = rw (yes_le {a = pos 2} {b = pos T} (pos_le low), yes_le {a = pos T} {b = pos 1048576} (pos_le high))

module _ (m : ℕ) (ns : List ℤ) (R T : ℕ) (low : 2 ≤ T) (high : T ≤ 1048576) (cs : List Curve) (t : Fine (lists m) ns cs) where
  abbrev room_for : ℕ
  room_for = record_length (lists m) * R

  fits_accepted : Fits (lists m) cs R T → (a : ℕ) × (b : ℕ) × (c : ℕ) × (banded (lists m) (pos T) ns room_for ≡ done a b c)
  fits_accepted f =
      let leaves = leaves_of (lists m) (pos T) cs in
      let nodes = nodes_of (lists m) (pos T) cs in (
        length cs,
        leaves,
        nodes,
        (done_exactly (lists m) (pos T) ns room_for (length cs) leaves nodes).1 (
          cs,
          record { pieces = t.pieces; tolerance = span_fine low high; outline = t.outline },
          record {
            meet = f.meet;
            taken = omega (arith, few_leaves (lists m) (pos T) cs, accepted_most 4096 m ns cs t.outline);
            enough = mul-le-mul (le_refl (record_length (lists m))) f.few;
            curves = refl;
            leaves = refl;
            nodes = refl;
          },
        ),
      )

  accepted_fits : (a b c : ℕ) → banded (lists m) (pos T) ns room_for ≡ done a b c → Fits (lists m) cs R T
  accepted_fits a b c e =
      let h = (done_exactly (lists m) (pos T) ns room_for a b c).0 e in
      let same : h.0 ≡ cs = same_curves (sym h.1.outline ∙ t.outline) in
      subst (λ ds. Fits (lists m) ds R T) same (record {
        low = low;
        high = high;
        meet = h.2.meet;
        few = le_of_mul-le-mul_left {k = record_length (lists m)} h.2.enough (omega arith);
      })
    where
      same_curves : {cs ds : List Curve} → curves cs ≡ curves ds → cs ≡ ds
      same_curves e = cc

  pub fits_exactly : Fits (lists m) cs R T ↔ ((a : ℕ) × (b : ℕ) × (c : ℕ) × (banded (lists m) (pos T) ns (record_length (lists m) * R) ≡ done a b c))
  fits_exactly = (fits_accepted, λ h. accepted_fits h.0 h.1 h.2 h.3)
