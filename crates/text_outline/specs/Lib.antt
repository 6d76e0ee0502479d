-- The outline of a text: what the program keeps of it; and, inside, a part of one curve.
pub mod Outlines
pub mod Inside
