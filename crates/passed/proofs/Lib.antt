pub mod Led
pub mod Fits
pub mod Kept
pub mod Live
pub mod Unique
