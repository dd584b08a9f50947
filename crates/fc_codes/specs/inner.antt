-- What this crate's own functions and proofs speak of, and no public promise.
pub mod Beneath
pub mod Bits
pub mod Landed
pub mod Packing
pub mod Seats
pub mod Stacks
pub mod Words
