-- What a reader must believe of the engine: what banding and then judging answers and leaves in the list. Inside is
-- only for a contract within the engine.
pub mod Outcomes
pub mod Inside
