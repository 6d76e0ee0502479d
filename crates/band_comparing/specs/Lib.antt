-- Definitions of the pass that compares records; all are only for contracts within the engine.
pub mod Inside
