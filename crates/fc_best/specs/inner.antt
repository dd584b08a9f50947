-- What this crate's own functions and proofs speak of, and no public promise.
pub mod Attempt
pub mod Standing
pub mod Tail
pub mod Watch
