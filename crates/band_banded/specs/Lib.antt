-- What a reader must believe of banding: the answer, and what stands in the caller's list (Banding). Outcomes and
-- Station are what the theorems speak of.
pub mod Banding
pub mod Outcomes
pub mod Station
pub mod Inside
