-- Laws of the Bernstein sum. Each file opens with what it holds.
pub mod Recursion
pub mod Stretch
pub mod Test
pub mod Nonnegative
pub mod Ends
