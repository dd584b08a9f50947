-- What this crate's own functions and proofs speak of, and no public promise.
pub mod Board
pub mod Draft
pub mod Line
pub mod Reading
pub mod Spot
