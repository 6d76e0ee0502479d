pub mod Checked
pub mod Handed
pub mod Regain
pub mod Sums
