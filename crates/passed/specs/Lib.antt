-- The passed state: which four words are let through, what an operation does to them, and what they picture of the belief sets.
pub mod Fits
pub mod Does
pub mod Pictures
