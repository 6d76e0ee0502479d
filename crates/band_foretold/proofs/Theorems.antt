-- What foretelling promises, gathered: the refusals that it shares with banding; what each number of the list tells of its curve; and, where leaves
-- are foretold, that banding meets neither 7 nor with that many records 8, never counts more, and has no leaf deeper than its curve's depth.
use mathlib.Core.Path.{◌≡◌, refl, sym, ◌∙◌, ap, subst}
use mathlib.Core.Bool.{Bool, true, false, cond}
use mathlib.Core.Logic.{◌⊎◌, inl, inr, ⊎_elim, ◌↔◌}
use mathlib.Core.List.Memᴰ
use mathlib.Core.List.{List, [], ◌∷◌, ◌++◌, Memᴰ}
use mathlib.Core.Option.{Option, none, some}
use Prim.Native.Nat.{ℕ, ◌*◌, ◌≤◌, ◌<◌}
use native.Mathlib.Nat.{le_refl, le_trans, le_of_eq, mul-le-mul}
use native.Mathlib.Omega.{arith}
use borrow.Author.Tests.{ltb-false, le-ltb}
use lib.Dec.{ltb}
use lib.ListN.{length, length-append, drop, get_or-append}
use lib.Seq.{drop_at}
use lib.Pow.{pow_pos}
use lib.IntN.{ℤ, pos}
use Rattle.integers.specs.Entry.{entry}
use Rattle.integers.proofs.Clash.{clash}
use Rattle.setting.specs.Setting.{Setting, pieces_fine, record_length, deepest}
use Rattle.refusals.specs.declared.Refusal.{Refusal}
use Rattle.refusals.specs.declared.Refusal.TheVariants.{Tolerance, Pieces, TooFewRecords}
use Rattle.curve_nodes.specs.declared.Curve.{Curve}
use Rattle.curve_nodes.specs.Nodes.{depth}
use Rattle.outline.specs.Checks.{Outlined, curves, faulty, tolerance_fine, outlined}
use Rattle.walk_tree.proofs.Tree.{either}
use Rattle.walk_tree.specs.Tree.{met}
use Rattle.walk_curve.specs.Walked.{node_meets, ends_of}
use Rattle.walk_depths.specs.Depth.{depth_of}
use Rattle.walk_depths.proofs.Least.{depth_least, depth_none}
use Rattle.walk_depths.proofs.Few.{leaves_under, nodes_under}
use Rattle.band_passes.specs.Leaves.{leaves_of, nodes_of}
use Rattle.band_passes.specs.FirstWide.{AllMeet, FirstWide}
use Rattle.band_passes.proofs.Counting.{few_leaves}
use Rattle.band_passes.proofs.Wide.{none_wide, first_wide}
use Rattle.std.specs.Prelude.{Result, Err}
use Rattle.band_banded.specs.Banding.{band_given, banded}
use Rattle.band_banded.specs.Outcomes.{Faultless}
use Rattle.band_banded.proofs.Faults.{banded_curves}
use Rattle.band_banded.proofs.Given.{Taken, outline_given}
use Rattle.band_banded.proofs.Cases.{said_wide, said_few, said_done, done_said}
use Rattle.band_banded.proofs.Theorems.{faultless_rows, leaf_at_most, flat_meets}
use Rattle.band_foretold.specs.declared.foretelling.Foretold.{Foretold}
use Rattle.band_foretold.specs.Foretelling.{depths_of, depth_number, depth_numbers, all_have, summed, leaves_within, nodes_within}
use Rattle.band_foretold.specs.Foretelling.{told, leaves_foretold, nodes_foretold, foretell_depths, foretold, depths_written}
use Rattle.band_foretold.specs.Outcomes.{Tells, Foretells}
use Rattle.band_foretold.proofs.Answering.{depths_length, numbers_length, foretold_curves}

-- ---- the checks before the walk: foretelling refuses where banding does, with the same refusal
module _ (σ : Setting) (T : ℤ) (ns : List ℤ) (room lent : ℕ) where
  pub early_alike : ((cs : List Curve) × Faultless σ T ns cs)
      ⊎ ((r : Refusal) × (foretold σ T ns room ≡ Err r) × (banded σ T ns lent ≡ Err r))
  unfolding foretold band_given
  early_alike = ⊎_elim
      (λ rows. ⊎_elim
      (λ fine. go rows fine (outlined σ.most σ.pieces ns) refl)
      (λ (e : tolerance_fine T ≡ false). inr (Tolerance, rw (rows, e, foretold), rw (rows, e, band_given)))
      (either (tolerance_fine T)))
      (λ (e : pieces_fine σ.pieces ≡ false). inr (Pieces, rw (e, foretold), rw (e, band_given)))
      (either (pieces_fine σ.pieces))
    where
      go : pieces_fine σ.pieces ≡ true → tolerance_fine T ≡ true → (o : Outlined) → outlined σ.most σ.pieces ns ≡ o
          → ((cs : List Curve) × Faultless σ T ns cs) ⊎ ((r : Refusal) × (foretold σ T ns room ≡ Err r) × (banded σ T ns lent ≡ Err r))
      go rows fine (curves cs) e = inl (cs, record { pieces = rows; tolerance = fine; outline = e })
      go rows fine (faulty r) e = inr (r, rw (rows, fine, e, foretold), rw (rows, fine, e, band_given))

-- ---- the depths of the curves, one by one
module _ (σ : Setting) (T : ℤ) where
  has_depth : (cs : List Curve) → all_have (depths_of σ T cs) ≡ true → (c : Curve) → Memᴰ c cs → (j : ℕ) × (depth_of σ T c ≡ some j)
  unfolding depths_of all_have
  has_depth [] e c i = absurd (Memᴰ.not-nil i)
  has_depth (d ∷ cs) e c i = go (depth_of σ T d) refl (λ g k. has_depth cs g c k) e
    where
      go : (o : Option ℕ) → depth_of σ T d ≡ o → (all_have (depths_of σ T cs) ≡ true → Memᴰ c cs → (j : ℕ) × (depth_of σ T c ≡ some j))
          → all_have (o ∷ depths_of σ T cs) ≡ true → (j : ℕ) × (depth_of σ T c ≡ some j)
      go none f later e = clash (cc)
      go (some j) f later e = ⊎_elim (λ same. (j, ap (depth_of σ T) same ∙ f)) (later e) (Memᴰ.cases_cons i)

  -- how many leaves and nodes a curve of that depth has
  abbrev CountsWithin : Curve → ℕ → Type 0
  CountsWithin c j = (length (ends_of σ T c) ≤ leaves_within j) × (met (node_meets σ T c) (deepest c.degree) 1 ≤ nodes_within j)

  all_within : (cs : List Curve) → ((c : Curve) → Memᴰ c cs → (j : ℕ) → depth_of σ T c ≡ some j → CountsWithin c j) → all_have (depths_of σ T cs) ≡ true
      → (leaves_of σ T cs ≤ summed leaves_within (depths_of σ T cs)) × (nodes_of σ T cs ≤ summed nodes_within (depths_of σ T cs))
  unfolding depths_of all_have summed leaves_of nodes_of
  all_within [] each e = (le_refl 0, le_refl 0)
  all_within (d ∷ cs) each e = go (depth_of σ T d) refl (all_within cs (λ c i. each c (Memᴰ.tail i))) e
    where
      go : (o : Option ℕ) → depth_of σ T d ≡ o
          → (all_have (depths_of σ T cs) ≡ true
          → (leaves_of σ T cs ≤ summed leaves_within (depths_of σ T cs)) × (nodes_of σ T cs ≤ summed nodes_within (depths_of σ T cs)))
          → all_have (o ∷ depths_of σ T cs) ≡ true
          → (leaves_of σ T (d ∷ cs) ≤ summed leaves_within (o ∷ depths_of σ T cs)) × (nodes_of σ T (d ∷ cs) ≤ summed nodes_within (o ∷ depths_of σ T cs))
      go none f later e = clash (cc)
      go (some j) f later e =
          let h = each d (Memᴰ.head refl) j f in
          let r = later e in
          (omega (arith, h.0, r.0), omega (arith, h.1, r.1))

-- ---- the answer
told_same : {a b x y : ℕ} → told a b ≡ told x y → (a ≡ x) × (b ≡ y)
told_same {a} {b} {x} {y} e =
    let r : ◌≡◌ {A = Foretold} (record { leaves = a; nodes = b }) (record { leaves = x; nodes = y }) = cc in
    (ap (λ (f : Foretold). f.leaves) r, ap (λ (f : Foretold). f.nodes) r)

answer_done : (room : ℕ) (os : List (Option ℕ)) (a b : ℕ) → foretell_depths room os ≡ told a b
    → (length os ≤ room) × (leaves_foretold os ≡ a) × (nodes_foretold os ≡ b)
unfolding foretell_depths
answer_done room os a b = go (ltb room (length os)) refl
  where
    go : (t : Bool) → ltb room (length os) ≡ t
        → ◌≡◌ {A = Result Foretold Refusal} (elim t [ true ↦ Err (TooFewRecords (length os)) | false ↦ told (leaves_foretold os) (nodes_foretold os) ]) (told a b)
        → (length os ≤ room) × (leaves_foretold os ≡ a) × (nodes_foretold os ≡ b)
    go true f e = clash (cc)
    go false f e = let s = told_same e in (ltb-false room (length os) f, s.0, s.1)

some_all : (t : Bool) (l a : ℕ) → cond t l 0 ≡ a → 0 < a → t ≡ true
some_all true l a e h = refl
some_all false l a e h = absurd (omega arith)

-- ---- what the list says of each curve
number_at : (σ : Setting) (T : ℤ) (before : List Curve) (c : Curve) (after : List Curve)
    → entry (depth_numbers (depths_of σ T (before ++ c ∷ after))) (length before) ≡ depth_number (depth_of σ T c)
unfolding depths_of depth_numbers
number_at σ T [] c after = refl
number_at σ T (b ∷ before) c after = number_at σ T before c after

tells : (σ : Setting) (T : ℤ) (c : Curve) (o : Option ℕ) → depth_of σ T c ≡ o → Tells σ T c (depth_number o)
tells σ T c none e = (refl, depth_none σ T c e)
tells σ T c (some j) e = depth_least σ T c j e

module _ (σ : Setting) (T : ℤ) (ns : List ℤ) (cs : List Curve) (f : Faultless σ T ns cs) (old : List ℤ) (room : length cs ≤ length old) where
  written_is : depths_written σ T ns old ≡ depth_numbers (depths_of σ T cs) ++ drop (length (depth_numbers (depths_of σ T cs))) old
  unfolding depths_written foretell_depths
  written_is =
      let few = le-ltb (length old) (length (depths_of σ T cs)) (omega (arith, depths_length σ T cs)) in
      rw (sym (foretold_curves σ ns T f.pieces f.tolerance cs f.outline (length old)), foretell_depths, few, f.outline)

  count : length (depth_numbers (depths_of σ T cs)) ≡ length cs
  count = numbers_length (depths_of σ T cs) ∙ depths_length σ T cs

  -- the number of each curve
  pub told_each : (before : List Curve) (c : Curve) (after : List Curve) → cs ≡ before ++ c ∷ after
      → Tells σ T c (entry (depths_written σ T ns old) (length before))
  told_each before c after split = subst (Tells σ T c) (sym there) (tells σ T c (depth_of σ T c) refl)
    where
      inside : length before < length cs
      inside = omega (arith, ap length split, length-append before (c ∷ after))

      there : entry (depths_written σ T ns old) (length before) ≡ depth_number (depth_of σ T c)
      there =
          ap (λ l. entry l (length before)) written_is
          ∙ get_or-append (depth_numbers (depths_of σ T cs)) _ (pos 0) (length before) (omega (arith, inside, count))
          ∙ ap (λ l. entry (depth_numbers (depths_of σ T l)) (length before)) split
          ∙ number_at σ T before c after

  -- and behind them what stood there
  pub rest_stays : drop (length cs) (depths_written σ T ns old) ≡ drop (length cs) old
  rest_stays =
      ap (drop (length cs)) written_is
      ∙ drop_at (depth_numbers (depths_of σ T cs)) _ (length cs) count
      ∙ ap (λ n. drop n old) count

-- ---- an outline without faults all of whose curves have a depth
module _ (σ : Setting) (T : ℤ) (ns : List ℤ) (cs : List Curve) (f : Faultless σ T ns cs) where
  taken : Taken σ cs
  taken = (outline_given σ ns).taken cs f.outline

  -- no leaf of a curve is deeper than its depth
  pub leaf_foretold : (c : Curve) → Memᴰ c cs → (j : ℕ) → depth_of σ T c ≡ some j → (n : ℕ) → Memᴰ n (ends_of σ T c) → depth n ≤ j
  leaf_foretold c i j e = leaf_at_most σ T ns cs f c i j (depth_least σ T c j e).flat

  module _ (all : all_have (depths_of σ T cs) ≡ true) where
    -- check 7 passes
    pub meet_foretold : AllMeet σ T cs
    meet_foretold = flat_meets σ T ns cs f
        (λ c i. let h = has_depth σ T cs all c i in let l = depth_least σ T c h.0 h.1 in (h.0, l.within, l.flat))

    pub counts_foretold : (leaves_of σ T cs ≤ summed leaves_within (depths_of σ T cs)) × (nodes_of σ T cs ≤ summed nodes_within (depths_of σ T cs))
    counts_foretold = all_within σ T cs
        (λ c i j e. (
          leaves_under σ (faultless_rows f) T c (taken.sized c i) (taken.takes c i) j (depth_least σ T c j e).flat,
          nodes_under σ (faultless_rows f) T c (taken.sized c i) (taken.takes c i) j (depth_least σ T c j e).flat,
        ))
        all

    module _ {a b : ℕ} (la : leaves_foretold (depths_of σ T cs) ≡ a) (nb : nodes_foretold (depths_of σ T cs) ≡ b) where
      few : leaves_of σ T cs ≤ a
      few = le_trans counts_foretold.0 (le_of_eq (ap (λ t. cond t (summed leaves_within (depths_of σ T cs)) 0) (sym all) ∙ la))

      few_nodes : nodes_of σ T cs ≤ b
      few_nodes = le_trans counts_foretold.1 (le_of_eq (ap (λ t. cond t (summed nodes_within (depths_of σ T cs)) 0) (sym all) ∙ nb))

      enough : {room : ℕ} → record_length σ * a ≤ room → record_length σ * leaves_of σ T cs ≤ room
      enough h = le_trans (mul-le-mul (le_refl (record_length σ)) few) h

      foretells_curves : Foretells σ T ns a b
      foretells_curves = record {
        no_wide = λ room k n e. never_wide k n (said_wide σ T cs room k n (sym (banded_curves σ T (outlined σ.most σ.pieces ns) room cs f) ∙ e));
        no_few = λ room l h e. let w = said_few σ T cs room l (sym (banded_curves σ T (outlined σ.most σ.pieces ns) room cs f) ∙ e) in
            absurd (lt_not_le w.short (enough h));
        no_more = λ room x y z e. let r = said_done σ T cs room x y z (sym (banded_curves σ T (outlined σ.most σ.pieces ns) room cs f) ∙ e) in
            (rw (sym r.leaves) few, rw (sym r.nodes) few_nodes);
        accepts = λ room l h. (
          length cs,
          leaves_of σ T cs,
          nodes_of σ T cs,
          banded_curves σ T (outlined σ.most σ.pieces ns) room cs f ∙ done_said σ T cs room (record {
            meet = meet_foretold;
            taken = omega (arith, few_leaves σ T cs, taken.most);
            enough = enough h;
            curves = refl;
            leaves = refl;
            nodes = refl;
          }),
        );
      }
        where
          never_wide : (k n : ℕ) → FirstWide σ T 0 cs k n → ⊥
          never_wide k n w =
              let p = (none_wide σ T 0 cs).1 meet_foretold in
              let q = (first_wide σ T 0 cs k n).1 w in
              clash (cc)

          lt_not_le : {m n : ℕ} → m < n → n ≤ m → ⊥
          lt_not_le h l = omega arith

-- ---- leaves are foretold exactly where all curves have a depth
leaf_each : (os : List (Option ℕ)) → all_have os ≡ true → length os ≤ summed leaves_within os
unfolding all_have summed
leaf_each [] e = le_refl 0
leaf_each (none ∷ os) e = clash (cc)
leaf_each (some j ∷ os) e = omega (arith, pow_pos j, leaf_each os e)

pub foretold_exactly : (σ : Setting) (T : ℤ) (ns : List ℤ) (cs : List Curve) → Faultless σ T ns cs
    → (0 < leaves_foretold (depths_of σ T cs)) ↔ (all_have (depths_of σ T cs) ≡ true)
foretold_exactly σ T ns cs f = (
  λ h. some_all (all_have (depths_of σ T cs)) (summed leaves_within (depths_of σ T cs)) _ refl h,
  λ e. rw e
      (le_trans ((outline_given σ ns).taken cs f.outline).some
      (le_trans (le_of_eq (sym (depths_length σ T cs))) (leaf_each (depths_of σ T cs) e))),
)

-- ---- where leaves are foretold, for whatever list the depths were written to
pub foretells : (σ : Setting) (T : ℤ) (ns : List ℤ) (room a b : ℕ) → foretold σ T ns room ≡ told a b → 0 < a → Foretells σ T ns a b
foretells σ T ns room a b e h = ⊎_elim
    (λ w. let f = w.1 in
    let d = answer_done room (depths_of σ T w.0) a b (foretold_curves σ ns T f.pieces f.tolerance w.0 f.outline room ∙ e) in
    let all = some_all (all_have (depths_of σ T w.0)) (summed leaves_within (depths_of σ T w.0)) a d.1 h in
    foretells_curves σ T ns w.0 f all d.1 d.2)
    (λ r. clash (not_done (sym r.1 ∙ e)))
    (early_alike σ T ns room 0)
  where
    not_done : {r : Refusal} → Err r ≡ told a b → ◌≡◌ {A = ℕ} 0 1
    not_done e = cc
