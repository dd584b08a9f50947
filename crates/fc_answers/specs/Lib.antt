pub mod Answer
pub mod Laws
pub mod Table
pub mod Verdict
pub mod inner
