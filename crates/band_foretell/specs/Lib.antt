-- For contracts inside the crate alone. What a reader must believe of foretelling stands in the crate `band_foretold`.
pub mod Inside
