-- What a reader must believe of this crate: the Bernstein sum.
pub mod Value
