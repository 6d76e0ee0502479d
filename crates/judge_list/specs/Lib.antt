-- What a reader must believe of the checks of a leaf list: 9, its length, and 10, its numbers. `Inside` is for private
-- functions.
pub mod Checks
pub mod Inside
