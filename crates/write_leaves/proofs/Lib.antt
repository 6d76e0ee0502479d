-- Laws of the bytes of boxes and of the lines of leaf records. Each file opens with what it holds.
pub mod Boxes
pub mod LeafLines
pub mod Examples
