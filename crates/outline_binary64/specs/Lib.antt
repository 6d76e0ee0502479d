-- What a reader must believe of an outline in binary64: the whole numbers read, and what the list gives (Lists).
-- Theorems speak of a list of whole numbers (Wholes). Inside is only for contracts within the engine.
pub mod Lists
pub mod Wholes
pub mod Inside
