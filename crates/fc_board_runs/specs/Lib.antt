pub mod Devices
pub mod Fault
pub mod Laws
pub mod Lists
pub mod Runs
pub mod Sequences
pub mod Showing
pub mod inner
