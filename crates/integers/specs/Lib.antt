-- What a reader must believe of this crate: entries of a list, ranges, equality, the first bad place, division rounded
-- down and up, and squares.
pub mod Entry
pub mod Between
pub mod Equal
pub mod First
pub mod Rounding
pub mod Squares
