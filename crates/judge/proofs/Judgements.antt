-- Judging has one answer, and `judgement` computes it.
use mathlib.Core.Path.{◌≡◌, refl, sym, subst}
use mathlib.Core.Bool.{Bool, true, false, not, ◌&&◌}
use mathlib.Core.List.{List}
use mathlib.Core.Option.{Option, none, some}
use Prim.Native.Nat.{ℕ, ◌%◌}
use lib.Dec.{T, eqb, eqb→eq}
use lib.ListN.{length}
use lib.IntN.{ℤ}
use Rattle.integers.proofs.Clash.{clash}
use Rattle.setting.specs.Setting.{Setting, record_length}
use Rattle.refusals.specs.declared.Refusal.{Refusal}
use Rattle.judge_list.specs.Checks.{length_fine}
use Rattle.std.specs.Prelude.{Err}
use Rattle.judge.specs.Judging.{Judgement, on, point_fault, list_fault, judging_fault, FirstHolder, Verdict, Judged}
use Rattle.judge.specs.Judgements.{first_held, named, judgement}
use Rattle.judge.proofs.Answers.{list_passed}
use Rattle.judge.proofs.FirstHeld.{first_on, first_off}
pub use Rattle.judge.proofs.OneAnswer.{one_judgement}

-- ---- a length that passes check 9
second : (a b : Bool) → (a && b) ≡ true → b ≡ true
second true b f = f
second false b f = clash (cc)

pub whole_of : (σ : Setting) (n : ℕ) → length_fine σ n ≡ true → n % record_length σ ≡ 0
whole_of σ n f = eqb→eq (n % record_length σ) 0 (subst T (sym (second (not (eqb n 0)) (eqb (n % record_length σ) 0) f)) tt)

-- ---- the function
named_first : (σ : Setting) (ns : List ℤ) (x y : ℤ) → length ns % record_length σ ≡ 0 → Verdict σ none ns x y (named σ (first_held σ ns x y))
named_first σ ns x y whole = go (first_held σ ns x y) refl
  where
    go : (o : Option ℕ) → first_held σ ns x y ≡ o → Verdict σ none ns x y (named σ o)
    go (some j) e = first_on σ ns x y whole j e
    go none e = first_off σ ns x y whole e

module _ (σ : Setting) (ns : List ℤ) (x y : ℤ) where
  none_whole : judging_fault σ ns x y ≡ none → length ns % record_length σ ≡ 0
  unfolding judging_fault
  none_whole e = whole_of σ (length ns) (list_passed σ ns (fine (list_fault σ ns) e)).1.whole
    where
      fine : (o : Option Refusal) → ◌≡◌ {A = Option Refusal} (elim o [ some r ↦ some r | none ↦ point_fault x y ]) none → o ≡ none
      fine none f = refl
      fine (some r) f = clash (cc)

  -- the function's answer is one that judging may give, and so the only one
  pub is_judged : Judged σ ns x y (judgement σ ns x y)
  unfolding judgement
  is_judged = go (judging_fault σ ns x y) refl
    where
      go : (o : Option Refusal) → judging_fault σ ns x y ≡ o → Verdict σ o ns x y (elim o [ some r ↦ Err r | none ↦ named σ (first_held σ ns x y) ])
      go (some r) e = refl
      go none e = named_first σ ns x y (none_whole e)

  pub judged_is : (a : Judgement) → Judged σ ns x y a → a ≡ judgement σ ns x y
  judged_is a j = one_judgement σ ns x y a (judgement σ ns x y) j is_judged

  -- what an answer says of the checks
  pub judged_on : (k i : ℕ) → Judged σ ns x y (on k i) → FirstHolder σ ns x y k i
  judged_on k i = go (judging_fault σ ns x y)
    where
      go : (o : Option Refusal) → Verdict σ o ns x y (on k i) → FirstHolder σ ns x y k i
      go none v = v
      go (some r) v = clash (cc)

  pub judged_fault : (q : Refusal) → Judged σ ns x y (Err q) → judging_fault σ ns x y ≡ some q
  judged_fault q = go (judging_fault σ ns x y)
    where
      go : (o : Option Refusal) → Verdict σ o ns x y (Err q) → o ≡ some q
      go none v = absurd v
      go (some r) v = cc
