pub mod Tests
pub mod Trip
pub mod Near
pub mod Meaning
pub mod Compare
pub mod Once
pub mod Quotient
mod Samples
