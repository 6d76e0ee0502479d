-- What a reader must believe of refusals: their numbers and spots.
pub mod Refusals
