-- Laws of the boxes of a node.
use mathlib.Core.Path.{◌≡◌, sym, subst}
use mathlib.Core.Bool.{true}
use Prim.Native.Nat.{ℕ, ◌≤◌, ◌<◌}
use native.Mathlib.Omega.{arith}
use Rattle.setting.specs.Setting.{degree_pieces}
use Rattle.setting.proofs.Pieces.{degree_takes}
use Rattle.setting.proofs.Depths.{deepest_low, deepest_high}
use Rattle.integers.proofs.Size.{Size}
use Rattle.integers.proofs.Machine.{tests}
use Rattle.curve_nodes.specs.declared.Curve.{Curve}
use Rattle.curve_nodes.specs.Bounds.{Sized}
use Rattle.curve_nodes.specs.Inside.{Halvable}
use Rattle.curve_nodes.proofs.Sizes.{sized_halvable}
use Rattle.bound_node.specs.declared.node_boxes.WideBox.{WideBox}
use Rattle.bound_pieces.specs.Inside.{SmallBox}
use Rattle.bound_coordinate.specs.Inside.{Boundable, HigherBoundable}

-- ---- degrees 1 to 3 take every number of pieces; three pieces and more go with every degree
pub low_takes : (d m : ℕ) → d ≤ 3 → degree_pieces d m ≡ true
low_takes d m few = (degree_takes d m).1 (λ l. absurd (omega arith))

pub many_takes : (d m : ℕ) → 3 ≤ m → degree_pieces d m ≡ true
many_takes d m h = (degree_takes d m).1 (λ l. h)

-- ---- 64 bits have room to bound its coordinates
module _ {k : ℕ} {c : Curve} (h : Sized k c) (few : c.degree ≤ 3) (l : k ≤ 8) where
  shallow : Halvable c
  shallow = sized_halvable (subst (λ n. k ≤ n) (sym (deepest_low c.degree few)) l) h

  pub boundable_x : Boundable c.x c.degree
  boundable_x = record { least = h.least; most = few; values = shallow.x }

  pub boundable_y : Boundable c.y c.degree
  boundable_y = record { least = h.least; most = few; values = shallow.y }

module _ {k : ℕ} {c : Curve} (h : Sized k c) (many : 3 < c.degree) (l : k ≤ 4) where
  not_deep : Halvable c
  not_deep = sized_halvable (subst (λ n. k ≤ n) (sym (deepest_high c.degree many)) l) h

  pub higher_boundable_x : HigherBoundable c.x c.degree
  higher_boundable_x = record { least = many; most = h.most; values = not_deep.x }

  pub higher_boundable_y : HigherBoundable c.y c.degree
  higher_boundable_y = record { least = many; most = h.most; values = not_deep.y }

-- ---- how large the numbers of a box are: `search box-sizes`
module _ {B : ℕ} {b : WideBox} (h : SmallBox B b) where
  abbrev pub size_x_low : Size b.x_low
  size_x_low = record { bound = B; under = h.x_low }

  abbrev pub size_x_high : Size b.x_high
  size_x_high = record { bound = B; under = h.x_high }

  abbrev pub size_y_low : Size b.y_low
  size_y_low = record { bound = B; under = h.y_low }

  abbrev pub size_y_high : Size b.y_high
  size_y_high = record { bound = B; under = h.y_high }

pub ruleset box-sizes = (size_x_low, size_x_high, size_y_low, size_y_high, tests)
