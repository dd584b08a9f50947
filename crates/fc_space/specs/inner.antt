-- What this crate's own functions and proofs speak of, and no public promise.
pub mod Children
pub mod Codes
pub mod Idle
pub mod Lookups
pub mod Standing
pub mod Visits
pub mod Ways
