-- What the theorems of this crate speak of: lines and whole texts byte for byte.
pub mod Written
pub mod Texts
