-- What a reader must believe of boxes: the range of their numbers, which number of a box is the first bad one, and
-- where boxes stand in a leaf list. `Inside` is for private functions.
pub mod Ranges
pub mod Records
pub mod Inside
