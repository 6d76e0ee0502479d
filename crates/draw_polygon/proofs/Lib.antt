-- Laws of the polygon round two boxes. Each file opens with what it holds.
pub mod Vertices
pub mod Edges
pub mod Reach
pub mod Quarter
pub mod Walk
pub mod Hulls
pub mod InLine
pub mod Boxes
