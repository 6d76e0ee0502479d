-- The number and the spot of each refusal (document 01, "Place of each check"; 17 is request 03's, 18 request 05's, 19
-- request 07's, 20 request 08's, 21 request 10's, 22 and 23 request 12's, 24 and 25 request 13's, 26 request 11's; 101
-- stands in no document, and is that of a list of points).
use Rattle.std.specs.Prelude.{ℕ, ◌+◌, ◌*◌}
use Rattle.refusals.specs.declared.Refusal.{Refusal}
use Rattle.refusals.specs.declared.Refusal.TheVariants.{
  Tolerance,
  Degree,
  CutShort,
  Coordinate,
  TooManyCurves,
  EmptyOutline,
  TooWide,
  TooFewRecords,
  LeafListLength,
  LeafListNumber,
  PointX,
  PointY,
  BoxNumber,
  TooFewVertices,
  NotAForm,
  OutOfOrder,
  TextTooLong,
  Gap,
  Pieces,
  TooManyLeaves,
  DegreePieces,
  NotWhole,
  NoSuchCurve,
  OtherRecords,
  SplineLength,
  SplineCoordinate,
  TooManyRecords,
  OddPoints,
}

abbrev pub number_of : Refusal → ℕ
number_of Tolerance = 1
number_of (Degree index) = 2
number_of (CutShort length) = 3
number_of (Coordinate index) = 4
number_of (TooManyCurves index) = 5
number_of EmptyOutline = 6
number_of (TooWide curve node) = 7
number_of (TooFewRecords leaves) = 8
number_of (LeafListLength length) = 9
number_of (LeafListNumber index) = 10
number_of PointX = 11
number_of PointY = 11
number_of (BoxNumber place) = 12
number_of (TooFewVertices length) = 13
number_of (NotAForm line) = 14
number_of (OutOfOrder line) = 15
number_of (TextTooLong first) = 16
number_of (Gap index) = 17
number_of Pieces = 18
number_of (TooManyLeaves leaves) = 19
number_of (DegreePieces index) = 20
number_of (NotWhole index) = 21
number_of (NoSuchCurve number) = 22
number_of (OtherRecords index) = 23
number_of (SplineLength length) = 24
number_of (SplineCoordinate index) = 25
number_of (TooManyRecords length) = 26
number_of (OddPoints count) = 101

-- a curve and a node of it as one number
abbrev pub node_spot : ℕ → ℕ → ℕ
node_spot curve node = 512 * curve + node

abbrev pub spot_of : Refusal → ℕ
spot_of Tolerance = 0
spot_of (Degree index) = index
spot_of (CutShort length) = length
spot_of (Coordinate index) = index
spot_of (TooManyCurves index) = index
spot_of EmptyOutline = 0
spot_of (TooWide curve node) = node_spot curve node
spot_of (TooFewRecords leaves) = leaves
spot_of (LeafListLength length) = length
spot_of (LeafListNumber index) = index
spot_of PointX = 0
spot_of PointY = 1
spot_of (BoxNumber place) = place
spot_of (TooFewVertices length) = length
spot_of (NotAForm line) = line
spot_of (OutOfOrder line) = line
spot_of (TextTooLong first) = first
spot_of (Gap index) = index
spot_of Pieces = 0
spot_of (TooManyLeaves leaves) = leaves
spot_of (DegreePieces index) = index
spot_of (NotWhole index) = index
spot_of (NoSuchCurve number) = number
spot_of (OtherRecords index) = index
spot_of (SplineLength length) = length
spot_of (SplineCoordinate index) = index
spot_of (TooManyRecords length) = length
spot_of (OddPoints count) = count
