-- `refusals::Refusal::spot` meets its contract. Each arm returns what the case holds, which the match says; that of a node goes by `node_spot`.
use mathlib.Core.Path.{◌≡◌, sym, ◌∙◌, ap}
use Rattle.refusals.specs.declared.Refusal.{Refusal}
use Rattle.refusals.specs.Refusals.{spot_of}
use Rattle.refusals.proofs.Refusal.spot.Goals as goal

-- the spot of a refusal that is known to be r
of : {self r : Refusal} → self ≡ r → spot_of r ≡ spot_of self
of e = ap spot_of (sym e)

pub returns-in-TooWide : goal.returns-in-TooWide
returns-in-TooWide c = c.node_spot.ensures ∙ of c.in-TooWide.is

pub returns-in-Tolerance : goal.returns-in-Tolerance
returns-in-Tolerance c = of c.in-Tolerance.is

pub returns-in-Degree : goal.returns-in-Degree
returns-in-Degree c = of c.in-Degree.is

pub returns-in-CutShort : goal.returns-in-CutShort
returns-in-CutShort c = of c.in-CutShort.is

pub returns-in-Coordinate : goal.returns-in-Coordinate
returns-in-Coordinate c = of c.in-Coordinate.is

pub returns-in-TooManyCurves : goal.returns-in-TooManyCurves
returns-in-TooManyCurves c = of c.in-TooManyCurves.is

pub returns-in-EmptyOutline : goal.returns-in-EmptyOutline
returns-in-EmptyOutline c = of c.in-EmptyOutline.is

pub returns-in-TooFewRecords : goal.returns-in-TooFewRecords
returns-in-TooFewRecords c = of c.in-TooFewRecords.is

pub returns-in-LeafListLength : goal.returns-in-LeafListLength
returns-in-LeafListLength c = of c.in-LeafListLength.is

pub returns-in-LeafListNumber : goal.returns-in-LeafListNumber
returns-in-LeafListNumber c = of c.in-LeafListNumber.is

pub returns-in-PointX : goal.returns-in-PointX
returns-in-PointX c = of c.in-PointX.is

pub returns-in-PointY : goal.returns-in-PointY
returns-in-PointY c = of c.in-PointY.is

pub returns-in-BoxNumber : goal.returns-in-BoxNumber
returns-in-BoxNumber c = of c.in-BoxNumber.is

pub returns-in-TooFewVertices : goal.returns-in-TooFewVertices
returns-in-TooFewVertices c = of c.in-TooFewVertices.is

pub returns-in-NotAForm : goal.returns-in-NotAForm
returns-in-NotAForm c = of c.in-NotAForm.is

pub returns-in-OutOfOrder : goal.returns-in-OutOfOrder
returns-in-OutOfOrder c = of c.in-OutOfOrder.is

pub returns-in-TextTooLong : goal.returns-in-TextTooLong
returns-in-TextTooLong c = of c.in-TextTooLong.is

pub returns-in-Gap : goal.returns-in-Gap
returns-in-Gap c = of c.in-Gap.is

pub returns-in-Pieces : goal.returns-in-Pieces
returns-in-Pieces c = of c.in-Pieces.is

pub returns-in-TooManyLeaves : goal.returns-in-TooManyLeaves
returns-in-TooManyLeaves c = of c.in-TooManyLeaves.is

pub returns-in-DegreePieces : goal.returns-in-DegreePieces
returns-in-DegreePieces c = of c.in-DegreePieces.is

pub returns-in-NotWhole : goal.returns-in-NotWhole
returns-in-NotWhole c = of c.in-NotWhole.is

pub returns-in-NoSuchCurve : goal.returns-in-NoSuchCurve
returns-in-NoSuchCurve c = of c.in-NoSuchCurve.is

pub returns-in-OtherRecords : goal.returns-in-OtherRecords
returns-in-OtherRecords c = of c.in-OtherRecords.is

pub returns-in-SplineLength : goal.returns-in-SplineLength
returns-in-SplineLength c = of c.in-SplineLength.is

pub returns-in-SplineCoordinate : goal.returns-in-SplineCoordinate
returns-in-SplineCoordinate c = of c.in-SplineCoordinate.is

pub returns-in-TooManyRecords : goal.returns-in-TooManyRecords
returns-in-TooManyRecords c = of c.in-TooManyRecords.is

pub returns-in-OddPoints : goal.returns-in-OddPoints
returns-in-OddPoints c = of c.in-OddPoints.is
