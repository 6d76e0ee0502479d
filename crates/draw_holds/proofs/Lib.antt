-- Laws of polygons that hold a point. Each file opens with what it holds.
pub mod Mixtures
pub mod Weighing
pub mod Fan
pub mod Theorems
pub mod Covers
pub mod Points
pub mod Examples
