-- Document 01 as definitions, in its order: the policy, belief sets and what moves them, traces, what an engine promises, derivations, cases.
pub mod Lists
pub mod Policy
pub mod Stack
pub mod Trace
pub mod Engine
pub mod Derivation
pub mod Cases
