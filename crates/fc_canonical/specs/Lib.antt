pub mod Distinct
pub mod Key
pub mod KeyOrder
pub mod Laws
pub mod Order
pub mod Spelled
pub mod inner
