-- Laws of the rows of m copied out of the table. Each file opens with what it holds.
pub mod Entries
pub mod Copying
