-- What this crate's own functions and proofs speak of, and no public promise.
pub mod Faults
pub mod Form
pub mod Held
pub mod Spaces
pub mod Told
pub mod Ways
