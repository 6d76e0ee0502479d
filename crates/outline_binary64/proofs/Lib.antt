pub mod Numbers
pub mod Found
pub mod Named
pub mod Wholes
mod Samples
