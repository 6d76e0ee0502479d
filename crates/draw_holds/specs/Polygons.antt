-- The polygons that drawing gives for two boxes and for the covers of a leaf list, and when one of these holds a point
-- (document 02, request 14).
use Rattle.std.specs.Prelude.{List, [], ◌∷◌, ℕ, zero, suc, ◌+◌, ◌*◌, ◌<◌, length, ℤ, Result, Ok, Err}
use Rattle.integers.specs.Entry.{entry}
use Rattle.setting.specs.Setting.{Setting, covers, record_length}
use Rattle.refusals.specs.declared.Refusal.{Refusal}
use Rattle.boxes.specs.declared.Box.{Box}
use Rattle.boxes.specs.Records.{box_index, box_at_index}
use Rattle.judge.specs.Judging.{on, Judged}
use Rattle.draw_polygon.specs.declared.Point.{Point}
use Rattle.draw.specs.Drawing.{drawn, drawn_into}
use Rattle.draw_holds.specs.InPolygon.{InPolygon}

-- the first n points of a list of numbers, in which x and y of each stand in turn
unfoldable pub points_of : ℕ → List ℤ → List Point
points_of zero ns = []
points_of (suc n) [] = []
points_of (suc n) (x ∷ []) = []
points_of (suc n) (x ∷ y ∷ ns) = record { x = x; y = y } ∷ points_of n ns

-- point i of a list of points, from 0
abbrev pub point_at : List ℤ → ℕ → Point
point_at ps i = record { x = entry ps (2 * i); y = entry ps (2 * i + 1) }

-- as many points as drawing answers; where it refuses there is no polygon
abbrev pub points_said : Result ℕ Refusal → List ℤ → List Point
points_said (Ok n) ns = points_of n ns
points_said (Err r) ns = []

-- the polygon that drawing two boxes writes into a list that is lent
abbrev pub drawn_polygon : Box → Box → List ℤ → List Point
drawn_polygon a b lent = points_said (drawn a b (length lent)) (drawn_into a b lent)

-- the drawn polygon of cover i of record k of the leaf list ns
abbrev pub cover_polygon : Setting → (ns lent : List ℤ) → (k i : ℕ) → List Point
cover_polygon σ ns lent k i =
    drawn_polygon (box_at_index ns (box_index σ k i)) (box_at_index ns (box_index σ k (suc i))) lent

-- some drawn polygon of some record holds the point
pub record InSomePolygon (σ : Setting) (ns lent : List ℤ) (p : Point) : Type 0 where
  pub leaf : ℕ
  pub cover : ℕ
  pub inside : record_length σ * leaf < length ns
  pub few : cover < covers σ
  pub holds : InPolygon (cover_polygon σ ns lent leaf cover) p

-- the point is judged on, with some record and some cover named
pub record JudgedOn (σ : Setting) (ns : List ℤ) (p : Point) : Type 0 where
  pub leaf : ℕ
  pub cover : ℕ
  pub judged : Judged σ ns p.x p.y (on leaf cover)
