-- What a C caller may conclude from the numbers of an answer, so that numbers without a meaning are seen here.
use mathlib.Core.Path.{◌≡◌, refl, sym, ◌∙◌, ap, subst}
use mathlib.Core.List.{List}
use mathlib.Core.Option.{Option, none, some, some-injective, some-ne-none}
use Prim.Native.Nat.{ℕ, ◌*◌}
use native.Mathlib.Omega.{arith}
use lib.ListN.{take}
use lib.IntN.{ℤ}
use Rattle.std.specs.Prelude.{Option as Optional, Some, None, Result, Ok, Err}
use Rattle.refusals.specs.declared.Refusal.{Refusal}
use Rattle.refusals.specs.Refusals.{number_of, spot_of}
use Rattle.setting.specs.Setting.{Setting, record_length}
use Rattle.boxes.specs.declared.Box.{Box}
use Rattle.boxes.specs.Ranges.{box_fault}
use Rattle.boxes_binary64.specs.declared.Short.TheVariants.{Point, Middle}
use Rattle.boxes_binary64.specs.declared.Short.{Short}
use Rattle.boxes_binary64.specs.declared.StageBox.{StageBox}
use Rattle.boxes_binary64.specs.Boxes.{InUnits, ShortOf, HandedOut, Shortened}
use Rattle.judge.specs.declared.judging.Holder.{Holder}
use Rattle.judge.specs.Judging.{Judgement, judging_fault, FirstHolder, Verdict}
use Rattle.contour.specs.declared.c_answers.JudgingAnswer.{JudgingAnswer}
use Rattle.contour.specs.Numbers.{judging_answer_of}
use Rattle.engine.specs.declared.Outcome.{Outcome}
use Rattle.engine.specs.Outcomes.{written_for, Answered}
use Rattle.engine.proofs.Consequences.{refused_unaltered, judged_told}
use Rattle.contour.specs.declared.c_answers.OutcomeAnswer.{OutcomeAnswer}
use Rattle.contour.specs.Answers.{outcome_answer_of, JudgedInNumbers, AnsweredInNumbers}
use Rattle.contour.specs.declared.c_answers.BoxUnits.{BoxUnits}
use Rattle.contour.specs.declared.c_answers.BoxShort.{BoxShort}
use Rattle.contour.specs.BoxForms.{units_of, short_of, UnitsInNumbers, ShortInNumbers}

-- ---- judging: where `on` is 1, the record and the cover that are named are the first that hold the point; a refusal has its number and spot
module _ (σ : Setting) (ns : List ℤ) (x y : ℤ) where
  on_held : (fault : Option Refusal) (j : Judgement) → Verdict σ fault ns x y j → (judging_answer_of j).on ≡ 1
      → FirstHolder σ ns x y (judging_answer_of j).leaf (judging_answer_of j).cover
  on_held none (Ok (Some h)) v on = v
  on_held none (Ok None) v on = absurd (omega arith)
  on_held none (Err r) v on = absurd v
  on_held (some r) j v on = absurd (let o = rw v at on in omega (arith, o))

  module _ (n : JudgingAnswer) (judged : JudgedInNumbers σ ns x y n) where
    pub judged_held : n.on ≡ 1 → FirstHolder σ ns x y n.leaf n.cover
    judged_held =
        subst (λ (m : JudgingAnswer). m.on ≡ 1 → FirstHolder σ ns x y m.leaf m.cover) (sym judged.are)
        (on_held (judging_fault σ ns x y) judged.judgement judged.judged)

    pub judged_refused : (r : Refusal) → judging_fault σ ns x y ≡ some r → (n.refusal ≡ number_of r) × (n.spot ≡ spot_of r)
    judged_refused r e =
        let j = subst (λ f. Verdict σ f ns x y judged.judgement) e judged.judged in
        let a : n ≡ judging_answer_of (Err r) = judged.are ∙ ap judging_answer_of j in
        (ap (λ m. m.refusal) a, ap (λ m. m.spot) a)

-- ---- banding and judging together: a refusal leaves the list as it was; else as many records stand in it as are reported, and where `on` is 1
-- the record and the cover that are named are the first that hold the point
module _ (σ : Setting) (T : ℤ) (ns : List ℤ) (x y : ℤ) (old : List ℤ) where
  unaltered : (o : Result Outcome Refusal) → Answered σ T ns x y old o → ((outcome_answer_of o).refusal ≡ 0 → ⊥) → written_for σ T ns x y old ≡ old
  unaltered (Err r) answered nonzero = refused_unaltered σ T ns old x y r answered
  unaltered (Ok o) answered nonzero = absurd (nonzero (no_refusal o.holder))
    where
      no_refusal : (h : Optional Holder) → (judging_answer_of (Ok h)).refusal ≡ 0
      no_refusal (Some h) = refl
      no_refusal None = refl

  held : (o : Result Outcome Refusal) → Answered σ T ns x y old o → (outcome_answer_of o).on ≡ 1
      → let n = outcome_answer_of o in FirstHolder σ (take (record_length σ * n.leaves) (written_for σ T ns x y old)) x y n.leaf
      n.cover
  held (Err r) answered on = absurd (omega arith)
  held (Ok o) answered on =
      let b = o.banded in
      let t = judged_told σ T ns old x y o answered in
      rw t.list (on_held σ (take (record_length σ * b.leaves) _) x y none (Ok o.holder) t.judged on)

  module _ (n : OutcomeAnswer) (answered : AnsweredInNumbers σ T ns x y old n) where
    pub answered_unaltered : (n.refusal ≡ 0 → ⊥) → written_for σ T ns x y old ≡ old
    answered_unaltered =
        subst (λ (m : OutcomeAnswer). (m.refusal ≡ 0 → ⊥) → written_for σ T ns x y old ≡ old) (sym answered.are)
        (unaltered answered.outcome answered.answered)

    pub answered_held : n.on ≡ 1 → FirstHolder σ (take (record_length σ * n.leaves) (written_for σ T ns x y old)) x y n.leaf n.cover
    answered_held =
        subst (λ (m : OutcomeAnswer). m.on ≡ 1 → FirstHolder σ (take (record_length σ * m.leaves) (written_for σ T ns x y old)) x y
        m.leaf m.cover)
        (sym answered.are) (held answered.outcome answered.answered)

-- ---- boxes handed out: where no refusal is told, the four numbers are those of the box in stage units, and the short form is of the kind that is
-- told; a bad number of the box is told with its place
abbrev UnitsMatch : Box → BoxUnits → Type 0
UnitsMatch b n = InUnits b (record { x_low = n.x_low; x_high = n.x_high; y_low = n.y_low; y_high = n.y_high })

module _ (b : Box) where
  units_of_law : (a : Result StageBox Refusal) → HandedOut b a → (units_of a).refusal ≡ 0 → UnitsMatch b (units_of a)
  units_of_law (Ok r) h fine = h.1
  units_of_law (Err q) h fine = absurd (let e = ap number_of (sym h.2) ∙ fine in omega (arith, e))

  units_bad : (k : ℕ) → box_fault b ≡ some k → (a : Result StageBox Refusal) → HandedOut b a → ((units_of a).refusal ≡ 12) × ((units_of a).spot ≡ k)
  units_bad k bad (Ok r) h = absurd (some-ne-none k (sym bad ∙ h.0))
  units_bad k bad (Err q) h =
      (ap number_of h.2, ap spot_of h.2 ∙ some-injective h.0 k (sym h.1 ∙ bad))

  point_of : (a : Result Short Refusal) → Shortened b a → (short_of a).kind ≡ 1 → ShortOf b (Point (short_of a).x (short_of a).y)
  point_of (Ok (Point x y)) h one = h.1
  point_of (Ok (Middle x y w v)) h one = absurd (omega (arith, one))
  point_of (Err q) h one = absurd (omega (arith, one))

  middle_of : (a : Result Short Refusal) → Shortened b a → (short_of a).kind ≡ 2
      → let n = short_of a in ShortOf b (Middle n.x n.y n.half_width n.half_height)
  middle_of (Ok (Point x y)) h two = absurd (omega (arith, two))
  middle_of (Ok (Middle x y w v)) h two = h.1
  middle_of (Err q) h two = absurd (omega (arith, two))

  module _ (n : BoxUnits) (handed : UnitsInNumbers b n) where
    pub units_told : n.refusal ≡ 0 → UnitsMatch b n
    units_told = subst (λ (m : BoxUnits). m.refusal ≡ 0 → UnitsMatch b m) (sym handed.are) (units_of_law handed.answer handed.handed)

    pub units_refused : (k : ℕ) → box_fault b ≡ some k → (n.refusal ≡ 12) × (n.spot ≡ k)
    units_refused k bad =
        subst (λ (m : BoxUnits). (m.refusal ≡ 12) × (m.spot ≡ k)) (sym handed.are) (units_bad k bad handed.answer handed.handed)

  module _ (n : BoxShort) (shortened : ShortInNumbers b n) where
    pub short_point : n.kind ≡ 1 → ShortOf b (Point n.x n.y)
    short_point =
        subst (λ (m : BoxShort). m.kind ≡ 1 → ShortOf b (Point m.x m.y)) (sym shortened.are)
        (point_of shortened.answer shortened.shortened)

    pub short_middle : n.kind ≡ 2 → ShortOf b (Middle n.x n.y n.half_width n.half_height)
    short_middle =
        subst (λ (m : BoxShort). m.kind ≡ 2 → ShortOf b (Middle m.x m.y m.half_width m.half_height)) (sym shortened.are)
        (middle_of shortened.answer shortened.shortened)
