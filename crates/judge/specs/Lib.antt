-- What a reader must believe of judging: the checks in their order, and what the answer says; the answer as a function.
-- `Inside` is for private functions.
pub mod Judging
pub mod Judgements
pub mod Inside
