pub mod Need
pub mod Problem
pub mod Search
pub mod Shown
pub mod Watch
pub mod inner
