-- What a reader must believe of an outline in which a curve is exchanged: its numbers (Changed). Inside is only for
-- contracts within the engine.
pub mod Changed
pub mod Inside
