-- The laws that take a point of a node's curve to a mixture of its boxes, and back; demand 3, of a point and of each point of a list, the laws behind
-- it, and the starred examples. Each file opens with what it holds.
mod Weights
pub mod Mixtures
pub mod Passing
pub mod Covers
pub mod Demand3
pub mod Points
pub mod Meeting
pub mod Consequences
pub mod SplineConsequences
pub mod Starred
