-- The lines of the answer but for the leaves, and all lines of a band; and, inside, the room that these need.
pub mod Answers
pub mod BandLines
pub mod Inside
