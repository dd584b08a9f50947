pub mod Laws
pub mod Moved
pub mod Spelled
pub mod State
pub mod Words
pub mod inner
