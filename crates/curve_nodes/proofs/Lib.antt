-- Laws of curves and their halves. Each file opens with what it holds.
pub mod Nodes
pub mod Numbers
pub mod Sizes
pub mod Values
pub mod Coordinates
pub mod Spans
pub mod Parameters
pub mod Quarter
pub mod Onward
pub mod Points
