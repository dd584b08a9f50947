pub mod Board
pub mod Fault
pub mod Laws
pub mod Line
pub mod Printed
pub mod Spelling
pub mod Spot
pub mod inner
