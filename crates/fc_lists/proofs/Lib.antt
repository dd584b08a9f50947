pub mod ExpandedLemmas
pub mod FrontLemmas
pub mod PlayedLemmas
pub mod WeaveLemmas
mod AloneLemmas
mod HeldLemmas
mod LineLemmas
mod ListTextLemmas
mod ToldLemmas
mod WordLemmas
