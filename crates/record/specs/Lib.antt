pub mod Layout
pub mod Fits
pub mod Does
pub mod Pictures
