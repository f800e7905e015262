pub mod Exported
pub mod Refused
pub mod Live
pub mod Nested
pub mod Shown
pub mod Demands
