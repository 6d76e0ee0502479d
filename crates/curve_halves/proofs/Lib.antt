-- Laws of the halves of one coordinate, and how their code is proved.
mod Lists
mod Mirror
pub mod Values
pub mod Sizes
mod Kept
pub mod Halving
