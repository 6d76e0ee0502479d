-- Definitions of exchanging a curve, only for contracts within the engine. What a reader must believe stands in
-- crates/band_exchanged.
pub mod Inside
