pub mod Finding
pub mod Hands
pub mod Rating
pub mod Review
pub mod Texts
pub mod inner
