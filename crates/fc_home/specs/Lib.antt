pub mod HomeRule
pub mod Laws
pub mod Settles
pub mod inner
