pub mod Exported
pub mod Live
pub mod Shown
