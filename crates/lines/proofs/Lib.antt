-- The laws of the listing's text.
pub mod Digits
pub mod After
pub mod Short
pub mod Pages
pub mod Whole
pub mod Unique
pub mod Within
