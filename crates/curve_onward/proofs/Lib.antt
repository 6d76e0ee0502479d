-- Laws of a coordinate carried on past its end, and of its forward differences, by which the code goes.
pub mod Onward
mod ForwardDifferences
mod Kept
