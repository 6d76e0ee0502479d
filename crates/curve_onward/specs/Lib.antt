-- How a coordinate is carried on past its end, for the contracts of the code that does it.
pub mod Onward
