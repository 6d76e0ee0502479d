-- Leaf records as lines of the answer, and their boxes as bytes.
pub mod Boxes
pub mod Leaves
