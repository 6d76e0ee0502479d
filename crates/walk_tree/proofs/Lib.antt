-- Laws of the tree of nodes and of a walk through it. Each file opens with what it holds.
pub mod Halves
pub mod Tree
pub mod Ends
pub mod Leaves
pub mod Covering
pub mod Counting
pub mod Failing
pub mod Walking
pub mod Rank
pub mod Looser
