pub mod Refusals
pub mod Unique
pub mod Numbers
pub mod Given
pub mod Alike
