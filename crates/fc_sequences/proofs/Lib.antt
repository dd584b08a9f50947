pub mod BoardLemmas
pub mod CardLemmas
pub mod CellLemmas
mod CountLemmas
mod EndLemmas
mod EntryLemmas
mod FollowLemmas
mod GatherLemmas
mod GetLemmas
mod GrowLemmas
pub mod LawLemmas
pub mod LieLemmas
mod MadeLemmas
mod MovesLemmas
mod OneListLemmas
pub mod OverLemmas
mod PartLemmas
mod PathLemmas
pub mod RunLemmas
mod SayingLemmas
pub mod SpaceLemmas
pub mod TextLemmas
