-- There is nothing that a reader must believe: what a low and a high are stands in `bound_enclosure`.
pub mod Inside
pub mod Terms
pub mod HigherTerms
