-- Numbers for no, answers to one operation, accounts of a run.
pub mod Numbers
pub mod Answer
pub mod Account
