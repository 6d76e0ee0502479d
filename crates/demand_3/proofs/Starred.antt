-- The starred examples hold: banding's and drawing's by computation, and judging's for every answer that its promise allows.
use mathlib.Core.Path.{◌≡◌, refl, ◌∙◌, subst}
use mathlib.Core.Bool.{true, false}
use mathlib.Core.List.{List, [], ◌∷◌, ◌++◌}
use mathlib.Core.Option.{none}
use Prim.Native.Nat.{◌≤◌}
use borrow.Author.Tests.{le-ltb}
use lib.ListN.{length, replicate, drop}
use lib.IntN.{ℤ, pos}
use lib.Signed.{lt_z, le_z, ≤ℤ_refl}
use Rattle.std.specs.Prelude.{Ok}
use Rattle.setting.specs.Setting.{standard}
use Rattle.integers.specs.First.{first_bad}
use Rattle.integers.proofs.Ranges.{yes_le, no_lt}
use Rattle.refusals.specs.declared.Refusal.TheVariants.{Tolerance, Coordinate, EmptyOutline, TooWide}
use Rattle.band_banded.specs.Banding.{written}
use Rattle.band_banded.proofs.Computing.{computing}
use Rattle.boxes.specs.declared.Box.{Box}
use Rattle.draw_polygon.specs.declared.Span.{Span}
use Rattle.draw_polygon.specs.Polygon.{joined_span, reached, ends_of_spans, path_point, moves, vertices_of, path_of, vertices, numbers}
use Rattle.draw.specs.Drawing.{two_boxes_fault, drawn, drawn_into}
use Rattle.boxes.specs.Ranges.{in_range}
use Rattle.judge_list.specs.Checks.{number_fault}
use Rattle.judge_cover.specs.Deciding.{held}
use Rattle.judge.specs.Judging.{Judgement, on, off, judging_fault, Judged}
use Rattle.judge.specs.Judgements.{first_held, judgement}
use Rattle.judge.proofs.Judgements.{judged_is}
use Rattle.demand_3.specs.Starred.{box, A, single, Starred}

-- what the examples of drawing compute through
drawing : Box → Box → List ℤ → List ℤ
unfolding drawn_into drawn first_bad reached ends_of_spans path_point moves vertices_of path_of vertices numbers
drawing a b old = drawn_into a b old

-- ---- points against the leaf that banding wrote for A at T 44
abbrev leaf : List ℤ
leaf = pos 0 ∷ pos 1 ∷ box 0 0 0 38 ++ box 160 160 319 363 ++ box 320 320 319 363 ++ box 480 480 0 38

a_44_leaf : written standard (pos 44) A (replicate 18 (pos 0)) ≡ leaf
unfolding computing
a_44_leaf = refl

on_363 : judgement standard leaf (pos 240) (pos 363) ≡ on 0 1
unfolding judgement judging_fault number_fault first_held first_bad held
on_363 = refl

off_364 : judgement standard leaf (pos 240) (pos 364) ≡ off
unfolding judgement judging_fault number_fault first_held first_bad held
off_364 = refl

judged : (y : ℤ) (answer : Judgement) → Judged standard (written standard (pos 44) A (replicate 18 (pos 0))) (pos 240) y answer
    → answer ≡ judgement standard leaf (pos 240) y
judged y answer j = judged_is standard leaf (pos 240) y answer (subst (λ rs. Judged standard rs (pos 240) y answer) a_44_leaf j)

-- ---- equal single points: nothing is less than itself, so every stretch of the path is the point, and it never moves on
less : (z : ℤ) → lt_z z z ≡ false
less z = no_lt (≤ℤ_refl z)

at_most : (z : ℤ) → le_z z z ≡ true
at_most z = yes_le (≤ℤ_refl z)

abbrev alone : ℤ → Span
alone z = record { low = z; high = z }

joined_alone : (z : ℤ) → joined_span (alone z) (alone z) ≡ alone z
joined_alone z = rw (less z)

reached_alone : (l s : ℤ) → reached l l (alone s) (alone s) ≡ alone s
unfolding reached
reached_alone l s = rw (reached, less l, less l, joined_alone s)

ends_alone : (l s : ℤ) → ends_of_spans (alone l) (alone l) (alone s) (alone s) ≡ record { levels = alone l; lowest = alone s; highest = alone s }
unfolding ends_of_spans
ends_alone l s = rw (ends_of_spans, reached_alone l s, joined_alone l)

module _ (x y : ℤ) where
  the_vertex : vertices (single x y) (single x y) ≡ record { x = x; y = y } ∷ []
  unfolding path_point moves vertices_of path_of vertices
  the_vertex = rw (ends_alone x y, ends_alone y x, at_most x, at_most y)

  module _ (in_x : in_range x ≡ true) (in_y : in_range y ≡ true) (old : List ℤ) (enough : 16 ≤ length old) where
    no_fault : two_boxes_fault (single x y) (single x y) ≡ none
    unfolding first_bad
    no_fault = rw (in_x, at_most x, in_x, in_y, at_most y, in_y, in_x, at_most x, in_x, in_y, at_most y, in_y)

    one_drawn : drawn (single x y) (single x y) (length old) ≡ Ok 1
    unfolding drawn
    one_drawn = rw (drawn, no_fault, le-ltb (length old) 16 enough, the_vertex)

    one_vertex : drawn_into (single x y) (single x y) old ≡ x ∷ y ∷ drop 2 old
    unfolding drawn_into numbers
    one_vertex = rw (drawn_into, one_drawn, the_vertex)

pub starred : Starred
unfolding computing drawing
starred = record {
  a_44 = refl;
  a_44_leaf = a_44_leaf;
  a_43 = refl;
  a_43_leaves = refl;
  a_negated = refl;
  y_18 = refl;
  line_1 = refl;
  tolerance_2 = refl;
  tolerance_1 = λ outline room. record { refusal = Tolerance; is = refl; numbered = refl; spotted = refl };
  coordinate_passes = refl;
  coordinate_beyond = λ room. record { refusal = Coordinate 3; is = refl; numbered = refl; spotted = refl };
  empty = λ room. record { refusal = EmptyOutline; is = refl; numbered = refl; spotted = refl };
  too_wide = λ room. record { refusal = TooWide 0 256; is = refl; numbered = refl; spotted = refl };
  six_drawn = refl;
  six_vertices = refl;
  eight_drawn = refl;
  one_drawn = one_drawn;
  one_vertex = one_vertex;
  point_on = λ answer j. judged (pos 363) answer j ∙ on_363;
  point_off = λ answer j. judged (pos 364) answer j ∙ off_364;
}
