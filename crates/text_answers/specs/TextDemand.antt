-- Demand 3 for the text program, as one claim from the bytes of a text to the bytes of its answer. The text s means a
-- tolerance T, an outline and points (`meaning`), and banding accepts the outline at T with what is lent (`banded`) and
-- reports a curves, b leaves and c nodes. `text_demand_3` of crates/text_answers/proofs/TextDemand.antt proves it.
use Rattle.std.specs.Prelude.{◌≡◌, ◌↔◌, List, ◌∷◌, ◌++◌, ℕ, ◌+◌, ◌*◌, ◌<◌, take, replicate, ℤ, pos}
use Rattle.std.proofs.Math.Option.{none}
use Rattle.integers.specs.Entry.{entry}
use Rattle.setting.specs.Setting.{standard, texts, record_length}
use Rattle.curve_nodes.specs.declared.Curve.{Curve}
use Rattle.curve_nodes.specs.Points.{Equals}
use Rattle.outline.specs.Checks.{curves, outlined}
use Rattle.band_banded.specs.Banding.{written}
use Rattle.walk_depths.specs.Premise.{Flat}
use Rattle.judge.specs.Judging.{off, point_fault, FirstHolder, Verdict}
use Rattle.demand_3.specs.Demand3.{CurveOf, Somewhere, Shallow}
use Rattle.write_lines.specs.Answers.{on_line, off_line}
use Rattle.write_lines.specs.BandLines.{band_lines}
use Rattle.text_answers.specs.Points.{point_answers}
use Rattle.text_answers.specs.Answers.{lent, answer_of}

-- the line of a point says that it is on, with a record and a cover
pub record SaysOn (line : List ℕ) : Type 0 where
  pub leaf : ℕ
  pub cover : ℕ
  pub is : line ≡ on_line leaf cover

-- the lent list as banding leaves it, and the leaves written in it
abbrev pub text_records : ℤ → List ℤ → List ℤ
text_records T outline = written texts T outline (replicate lent (pos 0))

abbrev pub text_leaves : ℤ → List ℤ → (b : ℕ) → List ℤ
text_leaves T outline b = take (record_length standard * b) (text_records T outline)

module _ (s : List ℕ) (T : ℤ) (outline : List ℤ) (a b c : ℕ) where
  -- the point (x, y) of a text whose outline has the curves cs, after the points `before` of it and before the points
  -- `after`
  pub record PointAnswered (cs : List Curve) (before : List (ℤ × ℤ)) (x y : ℤ) (after : List (ℤ × ℤ)) : Type 0 where
    pub line : List ℕ
    -- its line stands in the answer after the lines of the band and of the points before it
    pub place : answer_of s
        ≡ band_lines a b c (text_records T outline) ++ point_answers (text_leaves T outline b) before ++ line
        ++ point_answers (text_leaves T outline b) after
    -- where the point equals one of the outline's curves at some rational parameter, its line says on
    pub every_point_on : (k : ℕ) (curve : Curve) → CurveOf cs k curve → (p r : ℕ) → 0 < p + r
        → Equals 1 curve p r x y → SaysOn line
    -- where the point is in range, it says on with the first holder among the leaves written, and off where there is
    -- none
    pub names_first : point_fault x y ≡ none → (k i : ℕ) → FirstHolder standard (text_leaves T outline b) x y k i
        → line ≡ on_line k i
    pub off_exactly : point_fault x y ≡ none →
        (line ≡ off_line) ↔ Verdict standard none (text_leaves T outline b) x y off
    -- where its line says on, there are one curve and one rational parameter at which that curve is within T
    pub every_on_near : SaysOn line → Somewhere standard T cs x y

  pub record TextDemand3 (points : List (ℤ × ℤ)) : Type 0 where
    -- the outline has no fault, and these are its curves
    pub all : List Curve
    pub are : outlined texts.most texts.pieces outline ≡ curves all
    -- the answer is the lines of the band, then one line for each point, in order
    pub all_lines : answer_of s ≡
        band_lines a b c (text_records T outline) ++ point_answers (text_leaves T outline b) points
    pub each_point : (before : List (ℤ × ℤ)) (x y : ℤ) (after : List (ℤ × ℤ)) → points ≡ before ++ (x, y) ∷ after
        → PointAnswered all before x y after
    -- every leaf of a curve with largest second difference M has depth at most j, for every j that meets the premise
    pub every_leaf_shallow : (i : ℕ) → i < b → (k : ℕ) (curve : Curve) → CurveOf all k curve
        → entry (text_leaves T outline b) (record_length standard * i) ≡ pos k → (j : ℕ) → Flat standard T curve j
        → Shallow standard (text_leaves T outline b) i j
