-- Laws of where a curve of an outline stands. Each file opens with what it holds.
pub mod Degrees
-- Laws of the faults of one curve of an outline. Each file opens with what it holds.
pub mod Faultless
pub mod PointBefore
pub mod Searching
-- Laws of outlines. Each file opens with what it holds.
pub mod Steps
pub mod Accepted
pub mod Meeting
pub mod Places
pub mod Examples
