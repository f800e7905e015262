pub mod Rule
pub mod Chain
pub mod Promise
