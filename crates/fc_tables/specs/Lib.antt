pub mod Laws
pub mod Table
