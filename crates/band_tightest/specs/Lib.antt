-- What a reader must believe of the tightest band: the answer (Tightest). Fitting, and Looser for banding at a larger
-- tolerance, are what the theorems speak of.
pub mod Tightest
pub mod Fitting
pub mod Looser
