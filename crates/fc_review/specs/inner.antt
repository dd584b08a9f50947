-- What this crate's own functions and proofs speak of, and no public promise.
pub mod Span
pub mod Goers
