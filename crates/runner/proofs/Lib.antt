pub mod Progress
pub mod Going
pub mod Nested
pub mod Equal
pub mod Unique
