pub mod FileLemmas
pub mod NoteLemmas
pub mod ReversedLemmas
pub mod TypedNumbers
