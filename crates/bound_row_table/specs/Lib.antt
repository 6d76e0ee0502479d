-- Where the rows of m stand once they are copied out of the table.
pub mod Inside
