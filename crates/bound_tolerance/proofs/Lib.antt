-- Laws of the test of a node: the spreads that decide it, and its boxes. Each file opens with what it holds.
pub mod SpreadLaws
pub mod ToleranceLaws
