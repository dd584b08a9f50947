pub mod BatchLemmas
mod EndLemmas
pub mod LawLemmas
