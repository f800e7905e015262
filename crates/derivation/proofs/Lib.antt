pub mod Deciding
pub mod Accepted
pub mod Ours
pub mod Demand
pub mod Entries
pub mod Judged
pub mod Unique
