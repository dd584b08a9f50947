pub mod ClosedLemmas
pub mod FarLemmas
pub mod FaultLemmas
pub mod LawLemmas
pub mod ListedLemmas
pub mod LookupLemmas
pub mod StepLemmas
