pub mod ListLemmas
pub mod ReplayLemmas
pub mod SequenceLemmas
