-- What the first cover that holds a point says of judging, and what it says where there is none.
use mathlib.Core.Path.{◌≡◌, subst}
use mathlib.Core.Bool.{Bool, true, false, not}
use mathlib.Core.List.{List}
use mathlib.Core.Option.{none, some}
use Prim.Native.Nat.{ℕ, suc, ◌+◌, ◌*◌, ◌/◌, ◌%◌, ◌<◌}
use native.Mathlib.Nat.{div-add-mod}
use native.Mathlib.Omega.{arith}
use lib.ListN.{length}
use lib.IntN.{ℤ}
use borrow.Author.Tests.{not-false}
use Rattle.integers.proofs.Clash.{clash}
use Rattle.integers.proofs.First.{none_bad, bad_is, bad_below, bad_first}
use Rattle.setting.specs.Setting.{Setting, covers, record_length}
use Rattle.boxes.specs.Records.{box_index, box_at_index}
use Rattle.boxes.proofs.Records.{begins_among, among_begins, place_is, record_is, comes_before, place_below, record_below}
use Rattle.judge_cover.specs.Covers.{CoverHolds}
use Rattle.judge_cover.proofs.Deciding.{held_exactly}
use Rattle.judge.specs.Judging.{off, FirstHolder, Verdict}
use Rattle.judge.specs.Judgements.{cover_held, first_held}

module _ (σ : Setting) (ns : List ℤ) (x y : ℤ) (whole : length ns % record_length σ ≡ 0) where
  abbrev missed : ℕ → Bool
  missed j = not (cover_held σ ns x y (j / covers σ) (j % covers σ))

  -- a cover with its number among all covers
  held_missed : (b : Bool) → not b ≡ true → b ≡ true → ⊥
  held_missed true e f = clash (cc)
  held_missed false e f = clash (cc)

  not_held : (k i : ℕ) → i < covers σ → missed (covers σ * k + i) ≡ true → CoverHolds σ ns k i x y → ⊥
  not_held k i h e c =
      held_missed _ (rw (record_is (covers σ) h k, place_is (covers σ) h k) at e)
      ((held_exactly (box_at_index ns (box_index σ k i)) (box_at_index ns (box_index σ k (suc i))) x y).1 c)

  abbrev records : ℕ
  records = length ns / record_length σ

  pub first_on : (j : ℕ) → first_held σ ns x y ≡ some j → FirstHolder σ ns x y (j / covers σ) (j % covers σ)
  unfolding first_held
  first_on j e =
      let n = covers σ * records in
      let k = j / covers σ in
      let i = j % covers σ in
      let b = bad_below missed n 0 j e in
      let below : j < n = omega arith in
      let low = place_below (covers σ) records below in
      let whole-j = div-add-mod j (covers σ) in
      record {
        inside = begins_among (record_length σ) k (length ns) (omega arith) whole (record_below (covers σ) records below);
        cover = low;
        holds = (held_exactly (box_at_index ns (box_index σ k i)) (box_at_index ns (box_index σ k (suc i))) x y).0 (not-false _ (bad_is missed n 0 j e));
        none_earlier =
            λ l q h m. not_held l q m (bad_first missed n 0 j e (covers σ * l + q) (omega arith) (omega (arith, comes_before (covers σ) m h)));
        none_lower = λ q h. not_held k q (omega arith) (bad_first missed n 0 j e (covers σ * k + q) (omega arith) (omega arith));
      }

  pub first_off : first_held σ ns x y ≡ none → Verdict σ none ns x y off
  unfolding first_held
  first_off e k i h l =
      let z : 0 + (covers σ * k + i) ≡ covers σ * k + i = omega arith in
      not_held k i l (subst (λ n. missed n ≡ true) z
      (none_bad missed (covers σ * records) 0 e (covers σ * k + i) (comes_before (covers σ) l (among_begins (record_length σ) k (length ns) whole h))))
