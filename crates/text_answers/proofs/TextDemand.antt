-- Demand 3 for the text program: the line of a point says what judging may answer to the leaves written, so the engine's demand 3 speaks of it.
use mathlib.Core.Path.{◌≡◌, refl, sym, ◌∙◌, ap, subst}
use mathlib.Core.List.{List, [], ◌∷◌, ◌++◌, append_assoc}
use mathlib.Core.Option.{none}
use Prim.Native.Nat.{ℕ, ◌*◌, ◌≤◌}
use native.Mathlib.Nat.{le_of_eq}
use native.Mathlib.Omega.{arith}
use lib.Dec.{lit≤}
use lib.ListN.{length, replicate, length-replicate, get_or}
use lib.IntN.{ℤ, pos}
use Rattle.std.specs.Prelude.{Some, None, Ok, Err}
use Rattle.setting.specs.Setting.{standard, texts, record_length}
use Rattle.curve_nodes.specs.declared.Curve.{Curve}
use Rattle.band_banded.specs.Banding.{done as reports, banded}
use Rattle.band_banded.specs.Outcomes.{Faultless}
use Rattle.band_banded.proofs.Theorems.{done_exactly, written_sound}
use Rattle.band_banded.proofs.Station.{faultless_listed}
use Rattle.judge.specs.Judging.{Judgement, on, off, point_fault, judging_fault, Verdict, Judged}
use Rattle.judge.specs.Judgements.{judgement}
use Rattle.judge.proofs.Answers.{judged_found}
use Rattle.judge.proofs.Judgements.{is_judged}
use Rattle.demand_3.specs.Demand3.{IsOn, Demand3}
use Rattle.demand_3.proofs.Demand3.{demand_3_listed}
use Rattle.demand_3.proofs.Meeting.{same_curves}
use Rattle.text_lines.specs.Meaning.{means, meaning}
use Rattle.write_lines.specs.Answers.{refused_line, on_line, off_line}
use Rattle.write_lines.specs.BandLines.{band_lines}
use Rattle.text_answers.specs.Points.{line_of, point_answer, point_answers}
use Rattle.text_answers.proofs.Judging.{line_said, fault_fine}
use Rattle.text_answers.specs.Answers.{lent, lines, answer_to, answer_of}
use Rattle.text_answers.proofs.Answers.{leaves_fine}
use Rattle.text_answers.specs.TextDemand.{SaysOn, text_records, text_leaves, PointAnswered, TextDemand3}

-- ---- the line of one point among those of all
points_split : (leaves : List ℤ) (before : List (ℤ × ℤ)) (x y : ℤ) (after : List (ℤ × ℤ))
    → point_answers leaves (before ++ (x, y) ∷ after) ≡ point_answers leaves before ++ point_answer leaves x y ++ point_answers leaves after
unfolding point_answers
points_split leaves [] x y after = refl
points_split leaves (p ∷ before) x y after =
    ap (λ (l : List ℕ). point_answer leaves p.0 p.1 ++ l) (points_split leaves before x y after) ∙ sym (simp append_assoc)

-- ---- a line that says on is that of an answer on
says_on : (j : Judgement) → SaysOn (line_of j) → IsOn j
unfolding on_line refused_line
says_on (Ok (Some h)) e = record { leaf = h.leaf; cover = h.cover; is = refl }
says_on (Ok None) e = let z = ap (λ (l : List ℕ). get_or l 2 0) e.is in absurd (omega arith)
says_on (Err r) e = let z = ap (λ (l : List ℕ). get_or l 1 0) e.is in absurd (omega arith)

says_off : (j : Judgement) → line_of j ≡ off_line → j ≡ off
unfolding on_line refused_line
says_off (Ok None) e = refl
says_off (Ok (Some h)) e = let z = ap (λ (l : List ℕ). get_or l 2 0) e in absurd (omega arith)
says_off (Err r) e = let z = ap (λ (l : List ℕ). get_or l 1 0) e in absurd (omega arith)

few : texts.most ≤ standard.most
few = lit≤ tt

module _ (T : ℤ) (outline : List ℤ) (a b c : ℕ) (done : banded texts T outline lent ≡ reports a b c) where
  abbrev leaves : List ℤ
  leaves = text_leaves T outline b

  zeros_lent : banded texts T outline (length (replicate lent (pos 0))) ≡ reports a b c
  zeros_lent = ap (banded texts T outline) (length-replicate lent (pos 0)) ∙ done

  -- the curves of the outline, which has no fault
  done_curves : (cs : List Curve) × Faultless texts T outline cs
  done_curves = let h = (done_exactly texts T outline (length (replicate lent (pos 0))) a b c).0 zeros_lent in (h.0, h.1)

  -- the engine's demand 3, of the answer that judging gives; the leaves are those that the outline has as a list
  demand : (x y : ℤ) → Demand3 standard T done_curves.0 leaves x y (judgement standard leaves x y)
  demand x y =
      let j = judgement standard leaves x y in
      let d = demand_3_listed texts refl few T outline (replicate lent (pos 0)) a b c zeros_lent x y j (is_judged standard leaves x y) in
      subst (λ cs. Demand3 standard T cs leaves x y j) (same_curves d.are (faultless_listed texts few T outline done_curves.1).outline)
      d.demand_3

  -- where the point is in range nothing is refused, so what judging says of the leaves is the line
  passes : (x y : ℤ) → point_fault x y ≡ none → judging_fault standard leaves x y ≡ none
  passes x y e =
      let p = (leaves_fine (means T outline []) (replicate lent (pos 0)) a b c zeros_lent (le_of_eq (length-replicate lent (pos 0)))).passed in
      fault_fine leaves p x y ∙ e

  whole : length leaves ≡ record_length standard * b
  whole =
      let h = (done_exactly texts T outline (length (replicate lent (pos 0))) a b c).0 zeros_lent in
      (written_sound texts T outline (replicate lent (pos 0)) h.1 h.2).whole

module _ (s : List ℕ) (T : ℤ) (outline : List ℤ) (points : List (ℤ × ℤ)) (m : meaning s ≡ means T outline points) (a b c : ℕ)
    (done : banded texts T outline lent ≡ reports a b c) where
  all_lines : answer_of s ≡ band_lines a b c (text_records T outline) ++ point_answers (text_leaves T outline b) points
  unfolding answer_of answer_to
  all_lines = ap answer_to m ∙ ap (λ o. lines o (text_records T outline) points) done

  point_answered : (before : List (ℤ × ℤ)) (x y : ℤ) (after : List (ℤ × ℤ)) → points ≡ before ++ (x, y) ∷ after
      → PointAnswered s T outline a b c (done_curves T outline a b c done).0 before x y after
  point_answered before x y after e =
      let rs = text_leaves T outline b in
      let band = band_lines a b c (text_records T outline) in
      let j = judgement standard rs x y in
      let is : point_answer rs x y ≡ line_of j = sym (line_said rs x y j (is_judged standard rs x y)) in
      let d = demand T outline a b c done x y in
      record {
        line = point_answer rs x y;
        place =
            all_lines ∙ ap (λ (ps : List (ℤ × ℤ)). band ++ point_answers rs ps) e
            ∙ ap (λ (l : List ℕ). band ++ l) (points_split rs before x y after) ∙ sym (simp append_assoc);
        every_point_on = λ k curve of p r some equals.
            let on = d.every_point_on k curve of p r some equals in
            record { leaf = on.leaf; cover = on.cover; is = is ∙ ap line_of on.is };
        names_first = λ f k i h. sym (line_said rs x y (on k i) (judged_found standard rs x y (on k i) (passes T outline a b c done x y f) h));
        off_exactly = λ f.
            let e = passes T outline a b c done x y f in (
              λ l. subst (λ o. Verdict standard o rs x y off) e (subst (Judged standard rs x y) (says_off j (sym is ∙ l)) (is_judged standard rs x y)),
              λ v. sym (line_said rs x y off (judged_found standard rs x y off e v)),
            );
        every_on_near = λ on. d.every_on_near (says_on j (record { leaf = on.leaf; cover = on.cover; is = sym is ∙ on.is }));
      }

  pub text_demand_3 : TextDemand3 s T outline a b c points
  text_demand_3 = record {
    all = (done_curves T outline a b c done).0;
    are = (done_curves T outline a b c done).1.outline;
    all_lines = all_lines;
    each_point = point_answered;
    every_leaf_shallow = λ i h. (demand T outline a b c done (pos 0) (pos 0)).every_leaf_shallow i (omega (arith, whole T outline a b c done));
  }
