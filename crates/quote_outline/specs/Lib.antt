-- What curves cost by their leaves, of which the theorems speak.
pub mod Curves
