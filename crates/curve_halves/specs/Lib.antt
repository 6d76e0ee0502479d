-- What a reader must believe of the halves of a coordinate, and how large its control values may be.
pub mod Halves
pub mod Sizes
