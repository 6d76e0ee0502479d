-- What is known of the leaves of curves without a walk.
pub mod Inside
