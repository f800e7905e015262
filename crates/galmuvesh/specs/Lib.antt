-- What the C functions promise beyond the crates below: a report in two places, and a passed state as four words.
pub mod Boundary
