pub mod Classes
pub mod Laws
pub mod Namings
pub mod inner
