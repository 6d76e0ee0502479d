-- What a reader must believe of binary64: when an f64 is exactly a fraction or a whole number (Exact), and what it is
-- read as (Read). Inside is only for contracts within the engine.
pub mod Exact
pub mod Read
pub mod Inside
