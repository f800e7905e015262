pub mod Below
pub mod Frames
pub mod Chains
pub mod Fits
pub mod Tried
pub mod Kept
pub mod Live
pub mod Unique
