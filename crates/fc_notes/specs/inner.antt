-- What this crate's own functions and proofs speak of, and no public promise.
pub mod File
pub mod Passed
pub mod Reversed
pub mod Taken
