pub mod Lists
pub mod Policy
pub mod Granted
pub mod Runs
pub mod Engine
pub mod Chosen
pub mod Counts
pub mod Asking
