-- Reading on: the place after a line.
pub mod Reading
