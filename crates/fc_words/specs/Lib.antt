pub mod Names
pub mod Sound
pub mod Alone
pub mod Laws
pub mod Weights
