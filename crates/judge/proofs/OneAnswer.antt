-- Judging has one answer: two that both meet what is said of one are the same.
use mathlib.Core.Path.{◌≡◌, refl, sym, ◌∙◌, ap₂, subst}
use mathlib.Core.Logic.{⊎_elim}
use mathlib.Core.List.{List}
use mathlib.Core.Option.{Option, none, some}
use Prim.Native.Nat.{ℕ, ◌<◌}
use native.Mathlib.Nat.{eq-or-lt_of_le}
use lib.IntN.{ℤ}
use Rattle.integers.proofs.Order.{lt_or_ge}
use Rattle.setting.specs.Setting.{Setting}
use Rattle.refusals.specs.declared.Refusal.{Refusal}
use Rattle.judge_cover.specs.Covers.{CoverHolds}
use Rattle.std.specs.Prelude.{Some, None, Ok, Err}
use Rattle.judge.specs.Judging.{Judgement, on, judging_fault, FirstHolder, Verdict, Judged}

module _ (σ : Setting) (ns : List ℤ) (x y : ℤ) where
  one_holder : {k i l j : ℕ} → FirstHolder σ ns x y k i → FirstHolder σ ns x y l j → on k i ≡ on l j
  one_holder {k} {i} {l} {j} f g = go (same k l (earlier g f) (earlier f g))
    where
      earlier : {a b c d : ℕ} → FirstHolder σ ns x y a b → FirstHolder σ ns x y c d → c < a → ⊥
      earlier {a} {b} {c} {d} p q h = p.none_earlier c d h q.cover q.holds

      same : (a b : ℕ) → (a < b → ⊥) → (b < a → ⊥) → a ≡ b
      same a b h m = ⊎_elim (λ t. absurd (h t)) (λ t. ⊎_elim sym (λ u. absurd (m u)) (eq-or-lt_of_le {n = b} {m = a} t)) (lt_or_ge a b)

      go : k ≡ l → on k i ≡ on l j
      go e = ap₂ on e (same i j
          (λ h. g.none_lower i h (subst (λ n. CoverHolds σ ns n i x y) e f.holds))
          (λ h. f.none_lower j h (subst (λ n. CoverHolds σ ns n j x y) (sym e) g.holds)))

  one_answer : (o : Option Refusal) (a b : Judgement) → Verdict σ o ns x y a → Verdict σ o ns x y b → a ≡ b
  one_answer (some r) a b v w = v ∙ sym w
  one_answer none (Ok (Some h)) (Ok (Some g)) v w = one_holder v w
  one_answer none (Ok (Some h)) (Ok None) v w = absurd (w h.leaf h.cover v.inside v.cover v.holds)
  one_answer none (Ok (Some h)) (Err r) v w = absurd w
  one_answer none (Ok None) (Ok (Some h)) v w = absurd (v h.leaf h.cover w.inside w.cover w.holds)
  one_answer none (Ok None) (Ok None) v w = refl
  one_answer none (Ok None) (Err r) v w = absurd w
  one_answer none (Err r) b v w = absurd v

pub one_judgement : (σ : Setting) (ns : List ℤ) (x y : ℤ) (a b : Judgement) → Judged σ ns x y a → Judged σ ns x y b → a ≡ b
one_judgement σ ns x y = one_answer σ ns x y (judging_fault σ ns x y)
