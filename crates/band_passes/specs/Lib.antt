-- What a reader must believe of the passes: check 7, and the leaves and nodes of an outline's curves (Leaves).
-- FirstWide is what theorems speak of; Forms and Inside are only for contracts within the engine.
pub mod Leaves
pub mod FirstWide
pub mod Forms
pub mod Inside
