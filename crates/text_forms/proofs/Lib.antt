-- Laws of words, pairs and forms. Each file opens with what it holds.
pub mod PairWords
pub mod PairReach
pub mod FormWords
pub mod FormReach
pub mod Examples
