pub mod Laws
pub mod Lines
pub mod Places
pub mod RowText
pub mod inner
