-- Whether a cover holds a point, as a function: `held_exactly` of the proofs says that it is `Holds`. The weights u and
-- v of the two boxes, s = v / (u + v), are kept as a range between two of them; each of the four sides cuts it by a
-- cross product.
use Rattle.std.specs.Prelude.{Bool, true, false, not, ◌&&◌, ◌||◌, ℤ, pos, ◌-ℤ◌, ◌*ℤ◌}
use Rattle.std.specs.Int.Signed.{le_z, lt_z}
use Rattle.boxes.specs.declared.Box.{Box}
use Rattle.judge_cover.specs.declared.held.Weights.{Weights}
use Rattle.judge_cover.specs.declared.held.Range.{Range}
use Rattle.judge_cover.specs.declared.held.Sides.{Sides}

-- q gives the second box no less weight than p does
abbrev pub ordered : Weights → Weights → Bool
ordered p q = le_z (p.second *ℤ q.first) (p.first *ℤ q.second)

abbrev pub later : Weights → Weights → Weights
later p q = elim (ordered p q) [ true ↦ q | false ↦ p ]

abbrev pub earlier : Weights → Weights → Weights
earlier p q = elim (ordered p q) [ true ↦ p | false ↦ q ]

-- how far a coordinate lies inside a side of the first box and of the second; negative is outside
abbrev pub sides_of : ℤ → ℤ → ℤ → ℤ → ℤ → Sides
sides_of low₀ high₀ low₁ high₁ z = record {
  low_first = z -ℤ low₀;
  low_second = z -ℤ low₁;
  high_first = high₀ -ℤ z;
  high_second = high₁ -ℤ z;
}

-- outside of a side at both boxes, and so of what lies between them
abbrev pub outside : ℤ → ℤ → Bool
outside a b = lt_z a (pos 0) && lt_z b (pos 0)

abbrev pub apart : Sides → Bool
apart s = outside s.low_first s.low_second || outside s.high_first s.high_second

-- the weights of r with u · a + v · b not negative, where a and b are not both negative
abbrev pub cut : Range → ℤ → ℤ → Range
cut r a b = elim (lt_z a (pos 0)) [
  | true ↦ record { low = later r.low (record { first = b; second = pos 0 -ℤ a }); high = r.high }
  | false ↦ elim (lt_z b (pos 0)) [
    | true ↦ record { low = r.low; high = earlier r.high (record { first = pos 0 -ℤ b; second = a }) }
    | false ↦ r
  ]
]

abbrev pub cut_sides : Range → Sides → Range
cut_sides r s = cut (cut r s.low_first s.low_second) s.high_first s.high_second

abbrev pub whole : Range
whole = record { low = record { first = pos 1; second = pos 0 }; high = record { first = pos 0; second = pos 1 } }

abbrev pub held_by : Sides → Sides → Bool
held_by sx sy = let r = cut_sides (cut_sides whole sx) sy in ordered r.low r.high

abbrev pub sides_x : Box → Box → ℤ → Sides
sides_x p q x = sides_of p.x_low p.x_high q.x_low q.x_high x

abbrev pub sides_y : Box → Box → ℤ → Sides
sides_y p q y = sides_of p.y_low p.y_high q.y_low q.y_high y

unfoldable pub held : Box → Box → ℤ → ℤ → Bool
held p q x y = not (apart (sides_x p q x)) && not (apart (sides_y p q y)) && held_by (sides_x p q x) (sides_y p q y)
