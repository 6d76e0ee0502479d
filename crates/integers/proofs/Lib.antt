-- The laws by which the proofs of every crate reason about integers. Each file opens with what it holds and how it is used.
pub mod RingLaws
pub mod Polynomial
pub mod Ring
pub mod Order
pub mod Squares
pub mod Ranges
pub mod Linear
pub mod Rounding
pub mod Table
pub mod Between
pub mod Clash
pub mod Both
pub mod Equal
pub mod First
pub mod Size
pub mod Machine
pub mod Stores
