pub mod Progress
pub mod Nested
pub mod Equal
