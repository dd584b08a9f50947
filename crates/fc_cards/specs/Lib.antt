pub mod Card
pub mod Laws
pub mod Suit
pub mod Texts
