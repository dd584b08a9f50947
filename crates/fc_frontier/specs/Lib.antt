pub mod Either
pub mod Laws
pub mod Place
pub mod Queue
pub mod Stack
pub mod Tie
pub mod Walk
pub mod inner
