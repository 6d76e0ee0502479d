-- The worked uses of the laws.
pub mod Uses
