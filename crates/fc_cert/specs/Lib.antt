pub mod Claim
pub mod Content
pub mod Layout
pub mod Laws
pub mod Reading
pub mod Writing
pub mod inner
