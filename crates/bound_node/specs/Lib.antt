-- What a reader must believe of a node: its boxes, and when they meet the tolerance.
pub mod Boxes
