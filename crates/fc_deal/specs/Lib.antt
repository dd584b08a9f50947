pub mod Draw
pub mod Deal
pub mod DealText
