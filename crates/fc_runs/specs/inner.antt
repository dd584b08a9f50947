-- What this crate's own functions and proofs speak of, and no public promise.
pub mod Batches
pub mod Certificates
pub mod Checking
pub mod Rows
