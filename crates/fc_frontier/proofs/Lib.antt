pub mod PlaceLemmas
pub mod QueueLemmas
pub mod StackLemmas
pub mod TieLemmas
pub mod WalkLemmas
