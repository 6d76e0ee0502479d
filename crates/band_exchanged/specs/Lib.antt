-- What a reader must believe of exchanging a curve: check 23, the answer, and what stands in the caller's list
-- (Exchange). The changed outline is that of crates/outline_changed.
pub mod Exchange
