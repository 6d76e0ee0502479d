-- What a reader must believe of the tree of nodes: where a walk ends (Tree), what a leaf is, and the stretches of nodes
-- (Leaves). Passing is what theorems speak of.
pub mod Tree
pub mod Leaves
pub mod Passing
