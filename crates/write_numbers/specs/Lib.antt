-- What a function that writes part of a list leaves and returns; and digits and decimal numbers as bytes.
pub mod Appends
pub mod Digits
pub mod Decimals
