-- What a reader must believe of leaf records: their numbers (Records), and the ranges of these (Ranges). Inside is only
-- for contracts within the engine.
pub mod Records
pub mod Ranges
pub mod Inside
