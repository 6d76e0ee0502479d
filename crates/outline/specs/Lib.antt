-- What a reader must believe of outlines: where a curve stands and what is read of it (Curves), the faults of one curve
-- (Faults), all checks in document 01's order (Checks). Theorems speak of two curves that meet (Meeting) and of where
-- curves begin (Places). Inside is only for contracts within the engine.
pub mod Curves
pub mod Faults
pub mod Checks
pub mod Meeting
pub mod Places
pub mod Inside
