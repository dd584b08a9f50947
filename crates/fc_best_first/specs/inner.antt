-- What this crate's own functions and proofs speak of, and no public promise.
pub mod Offers
pub mod Turn
