pub mod Frames
pub mod Fits
pub mod Turn
pub mod Agree
pub mod Kept
pub mod Live
pub mod Unique
