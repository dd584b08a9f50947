-- What this crate's own functions and proofs speak of, and no public promise.
pub mod Either
pub mod GameLaws
pub mod GameRules
pub mod Step
