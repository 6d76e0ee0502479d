-- What a reader must believe of drawing: the answer, and what it leaves in the caller's list.
pub mod Drawing
