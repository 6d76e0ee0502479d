-- For contracts of functions that no caller outside reaches: boxes round runs of records, and the search among them.
pub mod Inside
