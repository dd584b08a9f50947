pub mod Batches
pub mod Checking
pub mod Laws
pub mod Lists
pub mod Rows
pub mod Solving
pub mod Tabling
pub mod inner
