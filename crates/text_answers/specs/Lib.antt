-- The answer to a text: its band, the lines of its points, all its bytes, and demand 3 as the theorem of it says it;
-- and, inside, the loop over its lines.
pub mod Bands
pub mod Points
pub mod Answers
pub mod TextDemand
pub mod Inside
