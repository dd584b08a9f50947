-- What this crate's own functions and proofs speak of, and no public promise.
pub mod Distinct
pub mod Order
pub mod Parts
pub mod Wanted
