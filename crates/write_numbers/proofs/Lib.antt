-- Laws of lists that are written part by part, and of digits and numbers that are written. Each file opens with what it holds.
pub mod Appends
pub mod DigitsLaws
pub mod Numbers
pub mod Examples
