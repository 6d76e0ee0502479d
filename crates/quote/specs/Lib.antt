-- `Inside` is for private functions; what a reader must believe of a quote stands in the crate `quote_price`.
pub mod Inside
