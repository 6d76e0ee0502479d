-- What a reader must believe of a cover: `Covers` says when it holds a point, `Deciding` says it as a function, and
-- `held_exactly` of the proofs says that both are the same. `Inside` is for private functions.
pub mod Covers
pub mod Deciding
pub mod Inside
