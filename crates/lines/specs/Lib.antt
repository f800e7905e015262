-- The listing as definitions: its text, the pages that it is written in, what the functions promise, and document 01's listing of trace A.
pub mod Text
pub mod Page
pub mod Promise
pub mod Cases
