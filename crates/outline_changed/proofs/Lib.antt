-- Laws of an outline in which a curve is exchanged. Each file opens with what it holds.
pub mod OwnFaults
pub mod Transfer
pub mod NewCurve
pub mod Changed
