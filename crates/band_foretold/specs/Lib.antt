-- What a reader must believe of foretelling: the answer, and what stands in the caller's list (Foretelling). Outcomes
-- is what the theorems speak of.
pub mod Foretelling
pub mod Outcomes
