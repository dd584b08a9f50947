pub mod Board
pub mod Columns
pub mod Position
pub mod Tally
pub mod inner
