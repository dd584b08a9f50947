pub mod Carry
pub mod Following
pub mod Gathering
pub mod Laws
pub mod Pair
pub mod Saying
pub mod Sequence
pub mod inner
