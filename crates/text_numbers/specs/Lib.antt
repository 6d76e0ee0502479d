-- Numerals: the number that stands at a place of a text; and, inside, what the loop over digits answers.
pub mod Numerals
pub mod Inside
