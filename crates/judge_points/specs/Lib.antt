-- What a reader must believe of judging a list of points: its checks, its answer, and the caller's list afterwards.
-- `Inside` is for private functions.
pub mod Points
pub mod Inside
