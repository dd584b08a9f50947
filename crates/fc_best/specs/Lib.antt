pub mod Answering
pub mod Best
pub mod Watch
pub mod inner
