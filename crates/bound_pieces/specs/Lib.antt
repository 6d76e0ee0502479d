-- What the test of a node takes from the number of pieces.
pub mod Inside
