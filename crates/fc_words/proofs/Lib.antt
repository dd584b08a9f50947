pub mod PlaceLemmas
pub mod AloneLemmas
