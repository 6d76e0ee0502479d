-- What a reader must believe of the walk of a curve: when a node meets a tolerance, and where the walk ends. Inside is
-- only for contracts within the engine.
pub mod Walked
pub mod Inside
