-- The answer for the curves of an outline: too wide, too many leaves, too little room, or done; each of them exactly where it is due.
use mathlib.Core.Path.{◌≡◌, refl, sym, ◌∙◌, ap}
use mathlib.Core.Logic.{◌⊎◌, inl, inr, ⊎_elim}
use mathlib.Core.Bool.{true, false}
use mathlib.Core.List.{List}
use mathlib.Core.Option.{Option, none, some}
use Prim.Native.Nat.{ℕ, ◌*◌, ◌≤◌}
use borrow.Author.Tests.{lt-ltb, le-ltb}
use lib.Dec.{ltb}
use lib.ListN.{length}
use lib.IntN.{ℤ}
use Rattle.integers.proofs.Order.{lt_or_ge}
use Rattle.integers.proofs.Clash.{clash}
use Rattle.refusals.specs.declared.Refusal.{Refusal}
use Rattle.refusals.specs.declared.Refusal.TheVariants.{TooWide, TooFewRecords, TooManyLeaves}
use Rattle.curve_nodes.specs.declared.Curve.{Curve}
use Rattle.band_banded.specs.declared.banding.Banded.{Banded}
use Rattle.std.specs.Prelude.{Result, Err}
use Rattle.band_banded.specs.Banding.{done}
use Rattle.setting.specs.Setting.{Setting, record_length}
use Rattle.band_passes.specs.Leaves.{first_too_wide, leaves_of, nodes_of}
use Rattle.band_banded.specs.Banding.{answer_for, band_curves}
use Rattle.band_passes.specs.FirstWide.{AllMeet, FirstWide}
use Rattle.band_banded.specs.Outcomes.{Many, Few, Report}
use Rattle.band_passes.proofs.Wide.{none_wide, first_wide, only_wide}

module _ (σ : Setting) (T : ℤ) (cs : List Curve) (room : ℕ) where
  pub wide_said : {k n : ℕ} → FirstWide σ T 0 cs k n → band_curves σ T cs room ≡ Err (TooWide k n)
  unfolding band_curves
  wide_said {k} {n} w = rw ((first_wide σ T 0 cs k n).1 w)

  pub many_said : {l : ℕ} → Many σ T cs l → band_curves σ T cs room ≡ Err (TooManyLeaves l)
  unfolding band_curves
  many_said f = rw ((none_wide σ T 0 cs).1 f.meet, lt-ltb σ.leaves (leaves_of σ T cs) f.more, sym f.leaves, answer_for)

  -- where nothing is too wide and the leaves are not too many, their room decides
  room_decides : AllMeet σ T cs → leaves_of σ T cs ≤ σ.leaves
      → ◌≡◌ {A = Result Banded Refusal} (band_curves σ T cs room) (elim (ltb room (record_length σ * leaves_of σ T cs)) [
        | true ↦ Err (TooFewRecords (leaves_of σ T cs))
        | false ↦ done (length cs) (leaves_of σ T cs) (nodes_of σ T cs)
      ])
  unfolding band_curves
  room_decides m t = rw ((none_wide σ T 0 cs).1 m, le-ltb σ.leaves (leaves_of σ T cs) t, answer_for)

  pub few_said : {l : ℕ} → Few σ T cs room l → band_curves σ T cs room ≡ Err (TooFewRecords l)
  few_said f = rw (room_decides f.meet f.taken, lt-ltb room (record_length σ * leaves_of σ T cs) f.short, sym f.leaves)

  pub done_said : {a b c : ℕ} → Report σ T cs room a b c → band_curves σ T cs room ≡ done a b c
  done_said r = rw (room_decides r.meet r.taken, le-ltb room (record_length σ * leaves_of σ T cs) r.enough, sym r.curves, sym r.leaves, sym r.nodes)

  -- ---- and only where it is due: one of the four it must be
  data Case : Result Banded Refusal → Type 0 where
    wide : {k n : ℕ} → FirstWide σ T 0 cs k n → Case (Err (TooWide k n))
    many : {l : ℕ} → Many σ T cs l → Case (Err (TooManyLeaves l))
    few : {l : ℕ} → Few σ T cs room l → Case (Err (TooFewRecords l))
    report : {a b c : ℕ} → Report σ T cs room a b c → Case (done a b c)

  of_leaves : AllMeet σ T cs → leaves_of σ T cs ≤ σ.leaves → Case (band_curves σ T cs room)
  of_leaves m t = ⊎_elim
      (λ l. let h : Few σ T cs room (leaves_of σ T cs) = record { meet = m; taken = t; short = l; leaves = refl } in rw (few_said h) (few h))
      (λ l.
      let h : Report σ T cs room (length cs) (leaves_of σ T cs) (nodes_of σ T cs) =
      record { meet = m; taken = t; enough = l; curves = refl; leaves = refl; nodes = refl } in
      rw (done_said h) (report h))
      (lt_or_ge room (record_length σ * leaves_of σ T cs))

  one_of : Case (band_curves σ T cs room)
  one_of = go (first_too_wide σ T 0 cs) refl
    where
      go : (o : Option Refusal) → first_too_wide σ T 0 cs ≡ o → Case (band_curves σ T cs room)
      go (some r) e = let w = only_wide σ T 0 cs r e in let h = (first_wide σ T 0 cs w.0 w.1).0 (e ∙ ap some w.2) in rw (wide_said h) (wide h)
      go none e =
          let m = (none_wide σ T 0 cs).0 e in
          ⊎_elim
          (λ l. let h : Many σ T cs (leaves_of σ T cs) = record { meet = m; more = l; leaves = refl } in rw (many_said h) (many h))
          (of_leaves m)
          (lt_or_ge σ.leaves (leaves_of σ T cs))

  -- a refusal of the walk or of the lent records is one of three
  pub said_refused : (r : Refusal) → band_curves σ T cs room ≡ Err r
      → ((k : ℕ) × (n : ℕ) × (r ≡ TooWide k n)) ⊎ (((l : ℕ) × (r ≡ TooManyLeaves l)) ⊎ ((l : ℕ) × (r ≡ TooFewRecords l)))
  said_refused r = go (band_curves σ T cs room) one_of
    where
      go : (v : Result Banded Refusal) → Case v → v ≡ Err r
          → ((k : ℕ) × (n : ℕ) × (r ≡ TooWide k n)) ⊎ (((l : ℕ) × (r ≡ TooManyLeaves l)) ⊎ ((l : ℕ) × (r ≡ TooFewRecords l)))
      go _ (wide {k} {n} w) e = inl (k, n, cc)
      go _ (many {l} f) e = inr (inl (l, cc))
      go _ (few {l} f) e = inr (inr (l, cc))
      go _ (report f) e = clash (cc)

  pub said_wide : (k n : ℕ) → band_curves σ T cs room ≡ Err (TooWide k n) → FirstWide σ T 0 cs k n
  said_wide k n e = go (rw e at one_of)
    where
      go : Case (Err (TooWide k n)) → FirstWide σ T 0 cs k n
      go (wide w) = w

  pub said_many : (l : ℕ) → band_curves σ T cs room ≡ Err (TooManyLeaves l) → Many σ T cs l
  said_many l e = go (rw e at one_of)
    where
      go : Case (Err (TooManyLeaves l)) → Many σ T cs l
      go (many f) = f

  pub said_few : (l : ℕ) → band_curves σ T cs room ≡ Err (TooFewRecords l) → Few σ T cs room l
  said_few l e = go (rw e at one_of)
    where
      go : Case (Err (TooFewRecords l)) → Few σ T cs room l
      go (few f) = f

  pub said_done : (a b c : ℕ) → band_curves σ T cs room ≡ done a b c → Report σ T cs room a b c
  said_done a b c e = go (rw e at one_of)
    where
      go : Case (done a b c) → Report σ T cs room a b c
      go (report r) = r
