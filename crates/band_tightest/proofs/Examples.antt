-- The tightest band by computation: curve A, which is one leaf from T 44 on, a line, an outline that nothing fits, and the checks.
use mathlib.Core.Path.{◌≡◌, refl, sym, ◌∙◌}
use mathlib.Core.Bool.{true, false}
use mathlib.Core.List.{List, [], ◌∷◌}
use native.Mathlib.Omega.{arith}
use lib.IntN.{ℤ, pos}
use Rattle.std.specs.Prelude.{Some, None, Ok, Err}
use Rattle.setting.specs.Setting.{lists}
use Rattle.refusals.specs.declared.Refusal.TheVariants.{Pieces, EmptyOutline, CutShort}
use Rattle.curve_nodes.specs.declared.Curve.{Curve}
use Rattle.band_banded.proofs.Computing.{reading, computing}
use Rattle.band_tightest.specs.Tightest.{too_tight, tightest}
use Rattle.band_tightest.specs.Fitting.{Fine}
use Rattle.band_tightest.proofs.Answers.{answer_curves}
use Rattle.band_tightest.proofs.Span.{tighter, nothing_fits, least_found}

abbrev pub A : List ℤ
A = pos 3 ∷ pos 0 ∷ pos 0 ∷ pos 10 ∷ pos 30 ∷ pos 20 ∷ pos 30 ∷ pos 30 ∷ pos 0 ∷ []

abbrev pub curve_A : Curve
curve_A = record {
  degree = 3;
  x = pos 0 ∷ pos 10 ∷ pos 20 ∷ pos 30 ∷ pos 0 ∷ pos 0 ∷ [];
  y = pos 0 ∷ pos 30 ∷ pos 30 ∷ pos 0 ∷ pos 0 ∷ pos 0 ∷ [];
}

fine_A : Fine (lists 3) A (curve_A ∷ [])
unfolding reading
fine_A = record { pieces = refl; outline = refl }

-- ---- one leaf at T 44 and two at T 43
one_at_44 : too_tight (lists 3) (curve_A ∷ []) 1 44 ≡ false
unfolding computing too_tight
one_at_44 = refl

two_at_43 : too_tight (lists 3) (curve_A ∷ []) 1 43 ≡ true
unfolding computing too_tight
two_at_43 = refl

pub a_44 : tightest (lists 3) A 1 ≡ Ok (Some 44)
a_44 = sym (answer_curves (lists 3) A 1 fine_A) ∙ sym (least_found (lists 3) (curve_A ∷ []) 1 {low = 43} (record {
  least = omega arith;
  order = omega arith;
  most = omega arith;
  tight = λ T two h. tighter (lists 3) (curve_A ∷ []) 1 h two_at_43;
  fits = one_at_44;
}) (omega arith))

-- ---- a leaf at every tolerance
some_leaf : too_tight (lists 3) (curve_A ∷ []) 0 1048576 ≡ true
unfolding computing too_tight
some_leaf = refl

pub a_none : tightest (lists 3) A 0 ≡ Ok None
a_none = sym (answer_curves (lists 3) A 0 fine_A) ∙ sym (nothing_fits (lists 3) (curve_A ∷ []) 0 some_leaf)

-- ---- a line at T 2
abbrev line : Curve
line = record {
  degree = 1;
  x = pos 0 ∷ pos 0 ∷ pos 0 ∷ pos 0 ∷ pos 0 ∷ pos 0 ∷ [];
  y = pos 0 ∷ pos 1 ∷ pos 0 ∷ pos 0 ∷ pos 0 ∷ pos 0 ∷ [];
}

fine_line : Fine (lists 3) (pos 1 ∷ pos 0 ∷ pos 0 ∷ pos 0 ∷ pos 1 ∷ []) (line ∷ [])
unfolding reading
fine_line = record { pieces = refl; outline = refl }

one_at_2 : too_tight (lists 3) (line ∷ []) 1 2 ≡ false
unfolding computing too_tight
one_at_2 = refl

pub line_2 : tightest (lists 3) (pos 1 ∷ pos 0 ∷ pos 0 ∷ pos 0 ∷ pos 1 ∷ []) 1 ≡ Ok (Some 2)
line_2 = sym (answer_curves (lists 3) _ 1 fine_line) ∙ sym (least_found (lists 3) (line ∷ []) 1 {low = 1} (record {
  least = omega arith;
  order = omega arith;
  most = omega arith;
  tight = λ T two h. absurd (omega arith);
  fits = one_at_2;
}) (omega arith))

-- ---- 18 before the outline, and no tolerance that could be refused
pub pieces_first : tightest (lists 9) [] 1 ≡ Err Pieces
unfolding computing tightest
pieces_first = refl

pub empty_next : tightest (lists 3) [] 1 ≡ Err EmptyOutline
unfolding computing tightest
empty_next = refl

pub cut_short : tightest (lists 3) (pos 1 ∷ pos 0 ∷ []) 1 ≡ Err (CutShort 2)
unfolding computing tightest
cut_short = refl
