-- What a reader must believe of B-splines: the curve of four neighbours, and the checks of a list of points (Splines).
-- Basis is what a theorem speaks of.
pub mod Splines
pub mod Basis
