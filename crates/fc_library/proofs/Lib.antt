pub mod BelowLemmas
pub mod HeldLemmas
pub mod SequenceLemmas
pub mod SpelledLemmas
