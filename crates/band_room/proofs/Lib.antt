-- Laws of what is known of the leaves of curves without a walk. Each file opens with what it holds.
pub mod Sure
mod Bends
mod Parts
mod Fitting
