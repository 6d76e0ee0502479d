-- What banding promises of an outline, gathered: its answer, case by case; what it leaves in the lent list; and, of an outline that it accepts, the
-- leaves, their order, number and depth. The enclosure's own theorems stand with the enclosure.
use mathlib.Core.Path.{◌≡◌, sym, ◌∙◌, ap, subst}
use mathlib.Core.Bool.{true}
use mathlib.Core.Logic.{⊎_elim, ◌↔◌}
use mathlib.Core.List.{List, ◌∷◌, ◌++◌, Memᴰ}
use Prim.Native.Nat.{ℕ, ◌+◌, ◌*◌, ◌^◌, ◌≤◌, ◌<◌}
use native.Mathlib.Omega.{arith}
use lib.ListN.{length, take, drop}
use lib.Seq.{take_at, drop_at}
use lib.IntN.{ℤ}
use Rattle.refusals.specs.declared.Refusal.{Refusal}
use Rattle.refusals.specs.declared.Refusal.TheVariants.{TooWide, TooFewRecords, TooManyLeaves}
use Rattle.refusals.specs.Refusals.{number_of}
use Rattle.curve_nodes.specs.declared.Curve.{Curve}
use Rattle.curve_nodes.specs.Bounds.{Sized}
use Rattle.curve_nodes.specs.Nodes.{depth, start}
use Rattle.outline.specs.Checks.{Outlined, outlined}
use Rattle.band_banded.specs.declared.banding.Banded.{Banded}
use Rattle.std.specs.Prelude.{Result, Err}
use Rattle.band_banded.specs.Banding.{done}
use Rattle.walk_tree.specs.Leaves.{Leaf, Spans, EndToEnd}
use Rattle.walk_curve.specs.Walked.{node_meets, ends_of}
use Rattle.band_records.specs.Records.{all_records}
use Rattle.setting.specs.Setting.{Setting, HasRows, record_length, degree_pieces, deepest}
use Rattle.setting.proofs.Pieces.{fine_has_rows}
use Rattle.band_banded.specs.Banding.{band_curves, band_given, written_given, banded, written}
use Rattle.band_records.specs.Ranges.{SoundList}
use Rattle.band_passes.specs.FirstWide.{AllMeet, FirstWide}
use Rattle.band_banded.specs.Outcomes.{Clear, Faultless, Many, Few, Report}
use Rattle.walk_tree.proofs.Leaves.{all_leaves}
use Rattle.walk_tree.proofs.Covering.{some_end_spans, ends_end_to_end, neighbours_meet, in_order}
use Rattle.band_passes.proofs.Counting.{nodes_of_curves, few_leaves}
use Rattle.walk_depths.specs.Premise.{Flat}
use Rattle.walk_depths.proofs.Depths.{end_depth, none_too_wide}
use Rattle.walk_tree.proofs.Failing.{none_passing}
use Rattle.band_banded.proofs.Sound.{curves_leaves, curves_sound}
use Rattle.band_banded.proofs.Faults.{Early, banded_curves, faultless_or}
use Rattle.band_banded.proofs.Given.{Given, outline_given}
use Rattle.band_passes.proofs.Among.{all_records_length}
use Rattle.band_banded.proofs.Answers.{written_refused}
use Rattle.band_banded.proofs.Cases.{wide_said, many_said, few_said, done_said, said_wide, said_many, said_few, said_done}

-- ---- the answer of banding, behind the checks before the walk
module _ (σ : Setting) (T : ℤ) {o : Outlined} (given : Given σ o) (room : ℕ) where
  -- an answer that is no refusal of these is the answer for the curves given
  of_curves : {v : Result Banded Refusal} → ((r : Refusal) → Early r → Err r ≡ v → ⊥) → band_given σ T o room ≡ v
      → (cs : List Curve) × Clear σ T o cs × (band_curves σ T cs room ≡ v)
  of_curves late e = ⊎_elim
      (λ f. (f.0, f.1, sym (banded_curves σ T o room f.0 f.1) ∙ e))
      (λ r. absurd (late r.0 r.2 (sym r.1 ∙ e)))
      (faultless_or σ T o room given.early)

  refused_is : {q r : Refusal} → ◌≡◌ {A = Result Banded Refusal} (Err q) (Err r) → number_of q ≡ number_of r
  refused_is e = cc

  not_done : {q : Refusal} {a b c : ℕ} → Err q ≡ done a b c → ⊥
  not_done e = let z : ◌≡◌ {A = ℕ} 0 1 = cc in omega arith

  pub wide_given : (k n : ℕ) → (band_given σ T o room ≡ Err (TooWide k n)) ↔ ((cs : List Curve) × Clear σ T o cs × FirstWide σ T 0 cs k n)
  wide_given k n = (
    λ e. let h = of_curves (λ q l f. l.not_wide (refused_is f)) e in (h.0, h.1, said_wide σ T h.0 room k n h.2),
    λ h. banded_curves σ T o room h.0 h.1 ∙ wide_said σ T h.0 room h.2,
  )

  pub many_given : (l : ℕ) → (band_given σ T o room ≡ Err (TooManyLeaves l)) ↔ ((cs : List Curve) × Clear σ T o cs × Many σ T cs l)
  many_given l = (
    λ e. let h = of_curves (λ q m f. m.not_many (refused_is f)) e in (h.0, h.1, said_many σ T h.0 room l h.2),
    λ h. banded_curves σ T o room h.0 h.1 ∙ many_said σ T h.0 room h.2,
  )

  -- where a curve's 256 leaves are always taken, there are never too many
  pub never_many_given : 256 * σ.most ≤ σ.leaves → (l : ℕ) → band_given σ T o room ≡ Err (TooManyLeaves l) → ⊥
  never_many_given all l e =
      let h = (many_given l).0 e in
      omega (arith, h.2.more, few_leaves σ T h.0, (given.taken h.0 h.1.outline).most)

  pub few_given : (l : ℕ) → (band_given σ T o room ≡ Err (TooFewRecords l)) ↔ ((cs : List Curve) × Clear σ T o cs × Few σ T cs room l)
  few_given l = (
    λ e. let h = of_curves (λ q m f. m.not_few (refused_is f)) e in (h.0, h.1, said_few σ T h.0 room l h.2),
    λ h. banded_curves σ T o room h.0 h.1 ∙ few_said σ T h.0 room h.2,
  )

  pub done_given : (a b c : ℕ) → (band_given σ T o room ≡ done a b c) ↔ ((cs : List Curve) × Clear σ T o cs × Report σ T cs room a b c)
  done_given a b c = (
    λ e. let h = of_curves (λ q l f. not_done f) e in (h.0, h.1, said_done σ T h.0 room a b c h.2),
    λ h. banded_curves σ T o room h.0 h.1 ∙ done_said σ T h.0 room h.2,
  )

  -- no more curves and leaves than the setting takes, and no more leaves than 256 a curve
  pub limits_given : (a b c : ℕ) → band_given σ T o room ≡ done a b c → (a ≤ σ.most) × (b ≤ σ.leaves) × (b ≤ 256 * a)
  limits_given a b c e =
      let h = (done_given a b c).0 e in
      let r = h.2 in (
        omega (arith, r.curves, (given.taken h.0 h.1.outline).most),
        omega (arith, r.leaves, r.taken),
        omega (arith, r.curves, r.leaves, few_leaves σ T h.0),
      )

  -- nodes = 2 × leaves − curves
  pub nodes_given : (a b c : ℕ) → band_given σ T o room ≡ done a b c → c + a ≡ 2 * b
  nodes_given a b c e =
      let h = (done_given a b c).0 e in
      let r = h.2 in
      omega (arith, nodes_of_curves σ T h.0, r.curves, r.leaves, r.nodes)

-- ---- there are rows for the number of pieces
pub faultless_rows : {σ : Setting} {T : ℤ} {o : Outlined} {cs : List Curve} → Clear σ T o cs → HasRows σ.pieces
faultless_rows {σ} f = fine_has_rows σ.pieces f.pieces

-- ---- the lent list
pub unaltered_given : (σ : Setting) (T : ℤ) (o : Outlined) (old : List ℤ) (r : Refusal) → band_given σ T o (length old) ≡ Err r
    → written_given σ T o old ≡ old
unaltered_given σ T o old r e = sym (written_refused σ o T old (sym e))

-- nothing is refused (`done_given`): as many records as there are leaves, and behind them what stood there
module _ (σ : Setting) (T : ℤ) {o : Outlined} (given : Given σ o) (old : List ℤ) {cs : List Curve} {a b c : ℕ} (f : Clear σ T o cs)
    (r : Report σ T cs (length old) a b c) where
  abbrev records : List ℤ
  records = all_records σ T 0 cs

  whole : length records ≡ record_length σ * b
  whole = all_records_length σ T 0 cs ∙ ap (λ n. record_length σ * n) r.leaves

  in_front : written_given σ T o old ≡ records ++ drop (length records) old
  unfolding written_given
  in_front = rw ((done_given σ T given (length old) a b c).1 (cs, f, r), f.outline, written_given)

  pub records_given : take (record_length σ * b) (written_given σ T o old) ≡ all_records σ T 0 cs
  records_given =
      ap (take (record_length σ * b)) in_front ∙ take_at records (drop (length records) old) (record_length σ * b) whole

  pub rest_given : drop (record_length σ * b) (written_given σ T o old) ≡ drop (record_length σ * b) old
  rest_given =
      ap (drop (record_length σ * b)) in_front
      ∙ drop_at records (drop (length records) old) (record_length σ * b) whole
      ∙ ap (λ n. drop n old) whole

  -- the records pass checks 9 and 10
  pub some_given : 0 < b
  some_given = subst (λ n. 0 < n) r.leaves (curves_leaves σ T cs (given.taken cs f.outline).some)

  pub sound_given : SoundList σ b (take (record_length σ * b) (written_given σ T o old))
  sound_given =
      let t = given.taken cs f.outline in
      rw records_given (subst (λ n. SoundList σ n records) r.leaves
      (curves_sound σ (faultless_rows f) T 0 cs (omega (arith, t.most)) t.sized t.takes))

-- ---- all of that of an outline
module _ (σ : Setting) (T : ℤ) (ns : List ℤ) (room : ℕ) where
  abbrev own : Given σ (outlined σ.most σ.pieces ns)
  own = outline_given σ ns

  pub wide_exactly : (k n : ℕ) → (banded σ T ns room ≡ Err (TooWide k n)) ↔ ((cs : List Curve) × Faultless σ T ns cs × FirstWide σ T 0 cs k n)
  wide_exactly = wide_given σ T own room

  pub many_exactly : (l : ℕ) → (banded σ T ns room ≡ Err (TooManyLeaves l)) ↔ ((cs : List Curve) × Faultless σ T ns cs × Many σ T cs l)
  many_exactly = many_given σ T own room

  pub never_many : 256 * σ.most ≤ σ.leaves → (l : ℕ) → banded σ T ns room ≡ Err (TooManyLeaves l) → ⊥
  never_many = never_many_given σ T own room

  pub few_exactly : (l : ℕ) → (banded σ T ns room ≡ Err (TooFewRecords l)) ↔ ((cs : List Curve) × Faultless σ T ns cs × Few σ T cs room l)
  few_exactly = few_given σ T own room

  pub done_exactly : (a b c : ℕ) → (banded σ T ns room ≡ done a b c) ↔ ((cs : List Curve) × Faultless σ T ns cs × Report σ T cs room a b c)
  done_exactly = done_given σ T own room

  pub done_limits : (a b c : ℕ) → banded σ T ns room ≡ done a b c → (a ≤ σ.most) × (b ≤ σ.leaves) × (b ≤ 256 * a)
  done_limits = limits_given σ T own room

  pub nodes_reported : (a b c : ℕ) → banded σ T ns room ≡ done a b c → c + a ≡ 2 * b
  nodes_reported = nodes_given σ T own room

module _ (σ : Setting) (T : ℤ) (ns old : List ℤ) where
  pub refused_unaltered : (r : Refusal) → banded σ T ns (length old) ≡ Err r → written σ T ns old ≡ old
  refused_unaltered = unaltered_given σ T (outlined σ.most σ.pieces ns) old

  module _ {cs : List Curve} {a b c : ℕ} (f : Faultless σ T ns cs) (r : Report σ T cs (length old) a b c) where
    pub records_written : take (record_length σ * b) (written σ T ns old) ≡ all_records σ T 0 cs
    records_written = records_given σ T (outline_given σ ns) old f r

    pub rest_kept : drop (record_length σ * b) (written σ T ns old) ≡ drop (record_length σ * b) old
    rest_kept = rest_given σ T (outline_given σ ns) old f r

    pub written_some : 0 < b
    written_some = some_given σ T (outline_given σ ns) old f r

    pub written_sound : SoundList σ b (take (record_length σ * b) (written σ T ns old))
    written_sound = sound_given σ T (outline_given σ ns) old f r

-- ---- the leaves of an accepted outline's curve c
module _ (σ : Setting) (T : ℤ) (cs : List Curve) (meet : AllMeet σ T cs) (c : Curve) (i : Memᴰ c cs) where
  pub leaves_exactly : (n : ℕ) → Memᴰ n (ends_of σ T c) ↔ Leaf (node_meets σ T c) n
  leaves_exactly n = all_leaves (node_meets σ T c) (deepest c.degree) n (meet.each c i)

  -- every parameter p / (p + r) lies in the stretch of a leaf
  pub every_parameter : (p r : ℕ) → (n : ℕ) × Leaf (node_meets σ T c) n × Spans n p r
  every_parameter p r = let m = some_end_spans p r (node_meets σ T c) (deepest c.degree) in (m.0, (leaves_exactly m.0).0 m.1, m.2)

-- by parameter, from 0 to 1, each where the one before ends
module _ (σ : Setting) (T : ℤ) (c : Curve) where
  pub leaves_end_to_end : EndToEnd 0 1 (ends_of σ T c) 1 1
  leaves_end_to_end = ends_end_to_end (node_meets σ T c) (deepest c.degree)

  pub leaves_meet : (xs : List ℕ) (n m : ℕ) (ys : List ℕ) → ends_of σ T c ≡ xs ++ n ∷ m ∷ ys → (start n + 1) * 2 ^ depth m ≡ start m * 2 ^ depth n
  leaves_meet = neighbours_meet (node_meets σ T c) (deepest c.degree)

  pub leaves_in_order : (xs : List ℕ) (n : ℕ) (ys : List ℕ) (m : ℕ) (zs : List ℕ) → ends_of σ T c ≡ xs ++ n ∷ (ys ++ m ∷ zs)
      → (start n + 1) * 2 ^ depth m ≤ start m * 2 ^ depth n
  leaves_in_order = in_order (node_meets σ T c) (deepest c.degree)

-- ---- the depth claim of demand 3
module _ (σ : Setting) (T : ℤ) (ns : List ℤ) (cs : List Curve) (f : Faultless σ T ns cs) where
  sized : (c : Curve) → Memᴰ c cs → Sized 0 c
  sized = ((outline_given σ ns).taken cs f.outline).sized

  takes : (c : Curve) → Memᴰ c cs → degree_pieces c.degree σ.pieces ≡ true
  takes = ((outline_given σ ns).taken cs f.outline).takes

  pub leaf_at_most : (c : Curve) → Memᴰ c cs → (j : ℕ) → Flat σ T c j → (n : ℕ) → Memᴰ n (ends_of σ T c) → depth n ≤ j
  leaf_at_most c i j premise = end_depth σ (faultless_rows f) T c (sized c i) (takes c i) j premise

  -- check 7 passes where each curve has such a j within the walk's reach
  pub flat_meets : ((c : Curve) → Memᴰ c cs → (j : ℕ) × (j ≤ deepest c.degree) × Flat σ T c j) → AllMeet σ T cs
  flat_meets h = record {
    each = λ c i.
        let p = h c i in
        none_passing (node_meets σ T c) (ends_of σ T c) (none_too_wide σ (faultless_rows f) T c (sized c i) (takes c i) p.0 p.2 p.1);
  }
