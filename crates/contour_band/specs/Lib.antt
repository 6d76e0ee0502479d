-- What a reader must believe of the program's counts and of the bytes that it moves.
pub mod Steps
pub mod Bytes
